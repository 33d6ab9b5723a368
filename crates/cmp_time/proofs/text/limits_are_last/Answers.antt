-- by the calendar's day count
use Rattle.cmp_time.proofs.TextLemmas.{last_utc, last_generalized}
use Rattle.cmp_time.proofs.text.limits_are_last.Goals as goal

pub returns-clause-utc : goal.returns-clause-utc
returns-clause-utc c = last_utc

pub returns-clause-generalized : goal.returns-clause-generalized
returns-clause-generalized c = last_generalized
