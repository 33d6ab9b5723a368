-- The limits of a history.
use Rattle.std.specs.Prelude.{ℕ}

-- the changes that a history may have
abbrev pub most_changes : ℕ
most_changes = 262144

-- the latest time that a clock may say, in seconds since 1970
abbrev pub latest_time : ℕ
latest_time = 250000000000
