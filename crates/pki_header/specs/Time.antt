-- A time that may be left out (RFC 9810, 5.1.1: messageTime).
use Rattle.std.specs.Prelude.{ℕ, List, Option, Some, None}
use Rattle.cmp_time.specs.Time.{IsGeneralized}

-- The text is there where the second is, and is its GeneralizedTime.
abbrev pub IsTimeOf : Option (List ℕ) → Option ℕ → Type 0
IsTimeOf None None = Unit {0}
IsTimeOf None (Some t) = ⊥
IsTimeOf (Some text) None = ⊥
IsTimeOf (Some text) (Some t) = IsGeneralized text t
