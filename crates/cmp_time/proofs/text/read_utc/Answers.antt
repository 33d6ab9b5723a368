-- the text spells the moment that was read, and no other
use Rattle.std.proofs.Common.{arith}
use Rattle.std.proofs.lemmas.Grind.{common_steps}
use Rattle.cmp_time.proofs.TextLemmas.{utc_again}
use Rattle.cmp_time.proofs.text.read_utc.Goals as goal

pub returns-clause-only : goal.returns-clause-only
returns-clause-only c = λ t h. c.seconds_of.ensures.only t (utc_again c.args.text.now t _ c.in_ok-read_after_year.ensures.found.0 (grind (arith, common_steps)) (grind (arith, common_steps)) (grind (arith, common_steps)) h)
