-- by what holds of the whole
use Rattle.intake.proofs.TaskLemmas.{ok_then}
use Rattle.intake.proofs.checks.check.Goals as goal

pub returns-clause-carries : goal.returns-clause-carries
returns-clause-carries c = ok_then c.whole.result c.whole.ensures.ok (λ x w. w.carries)

pub returns-clause-hash : goal.returns-clause-hash
returns-clause-hash c = ok_then c.whole.result c.whole.ensures.ok (λ x w. w.hash)

pub returns-clause-compares : goal.returns-clause-compares
returns-clause-compares c = ok_then c.whole.result c.whole.ensures.ok (λ x w. w.compares)

pub returns-clause-told : goal.returns-clause-told
returns-clause-told c = ok_then c.whole.result c.whole.ensures.ok (λ x w. w.passes)

pub returns-clause-fits : goal.returns-clause-fits
returns-clause-fits c = ok_then c.whole.result c.whole.ensures.ok (λ x w. w.fits)

pub returns-clause-asks : goal.returns-clause-asks
returns-clause-asks c = ok_then c.whole.result c.whole.ensures.ok (λ x w. w.asks)

pub returns-clause-echoes : goal.returns-clause-echoes
returns-clause-echoes c = ok_then c.whole.result c.whole.ensures.ok (λ x w. w.echoes)
