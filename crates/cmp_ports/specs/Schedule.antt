-- Which calls of an object in memory fail.
use Rattle.std.specs.Prelude.{ℕ, Bool, List, [], Option, Some, None, nat_eq}
use Rattle.std.specs.List.{list_any}
use Rattle.std.specs.Global.{Vec}
use Rattle.cmp_ports.specs.declared.schedule.Schedule.{Schedule}
pub use Rattle.cmp_ports.specs.Faults.{counted}

-- the numbers of a list of calls that fail
abbrev pub numbers_of : Option (Vec ℕ) → List ℕ
numbers_of None = []
numbers_of (Some fails) = fails.items

-- the number stands among these
abbrev pub is_among : List ℕ → ℕ → Bool
is_among fails number = list_any (λ n. nat_eq n number) fails

-- the numbers of the calls that fail, counted from 1
abbrev pub listed_of : Schedule → List ℕ
listed_of s = numbers_of s.fails

-- the next call is one that fails
abbrev pub is_due : Schedule → Bool
is_due s = is_among (listed_of s) (counted s.calls)
