-- Times that a clock may say.
use Rattle.std.specs.Prelude.{Bool, nat_le}
use Rattle.deal_changes.specs.declared.change.Change.{Change}
use Rattle.deal_changes.specs.Times.{time_of_change}
use Rattle.deal_model.specs.Limits.{latest_time}

-- whether a change is not later than any clock may say
abbrev pub is_timely : Change → Bool
is_timely c = nat_le (time_of_change c) latest_time
