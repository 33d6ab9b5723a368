use Rattle.desk.proofs.LawfulLemmas.{writeable}
use Rattle.desk.specs.Founded.{founding}
use Rattle.desk.proofs.desk.Desk.found.Goals as goal

pub first_change-requires : goal.first_change-requires
first_change-requires g c = writeable (founding c.args.settings.now c.args.now) c.requires.form
