use Rattle.grant_laws.proofs.Walk.{earned}
use Rattle.grant_laws.proofs.laws.grants_only_on_proof.Goals as goal

pub returns : goal.returns
returns c = earned
