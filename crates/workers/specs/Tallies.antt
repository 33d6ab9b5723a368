-- What went amiss as streams were served.
use Rattle.std.specs.Prelude.{◌+◌, ◌-◌, ◌^◌, min, Bool, true, false, ◌||◌}
use Rattle.cmp_links.specs.declared.end.EndCause.{EndCause}
use Rattle.cmp_links.specs.declared.end.EndCause.TheVariants.{NoMemory}
use Rattle.workers.specs.declared.tally.Tally.{Tally}

abbrev pub nothing : Tally
nothing = record { door = false; memory = false; failures = 0 }

-- what was met before and then; the count stays at its type's last value
abbrev pub both : Tally → Tally → Tally
both a b = record { door = a.door || b.door; memory = a.memory || b.memory; failures = min (a.failures + b.failures) (2 ^ 64 - 1) }

abbrev pub is_want_of_memory : EndCause → Bool
is_want_of_memory NoMemory = true
is_want_of_memory _ = false
