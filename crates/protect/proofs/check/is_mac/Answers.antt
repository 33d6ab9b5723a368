use Rattle.asn_types.specs.Algorithm.{algorithm_of}
use Rattle.protect.proofs.CheckLemmas.{macked}
use Rattle.protect.proofs.check.is_mac.Goals as goal

pub returns : goal.returns
returns c = macked c.mac_ok.result c.args.secret.now (algorithm_of c.args.alg.now) c.args.params.now c.args.part.now c.args.mac.now c.params_are_one.ensures c.requires.form c.mac_ok.ensures
