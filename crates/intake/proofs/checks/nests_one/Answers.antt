-- by what the body is about
use Rattle.std.proofs.Common.{◌≡◌, refl, ap, ◌∙◌}
use Rattle.intake.proofs.WrapLemmas.{counts_none}
use Rattle.intake.proofs.checks.nests_one.Goals as goal

pub returns-in-Nests : goal.returns-in-Nests
returns-in-Nests c = λ hashes proven p. rw (c.in-Nests.ensures.facts hashes proven p) refl

pub returns-in_default : goal.returns-in_default
returns-in_default c = λ hashes proven p. rw (c.about.ensures.facts hashes proven p) (counts_none hashes proven c.about.result c.in_default.not-Nests)
