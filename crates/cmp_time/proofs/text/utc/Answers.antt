-- the moment that was written is before 2050
use Rattle.std.proofs.Common.{arith}
use Rattle.std.proofs.lemmas.Grind.{common_steps}
use Rattle.cmp_time.proofs.TextLemmas.{year_before}
use Rattle.cmp_time.proofs.text.utc.Goals as goal

pub returns : goal.returns
returns c = (c.moment_of-m.result, c.moment_of-m.ensures, year_before _ _ c.moment_of-m.ensures c.requires, grind (arith, common_steps))
