-- The count of an outside object's faults.
use Rattle.std.specs.Prelude.{ℕ, ◌≡◌, ◌+◌, ◌-◌, ◌^◌, ◌≤◌, min, Result, MatchResult, OnOk, OnErr}

-- a count after one more, which stays at its type's last value
abbrev pub counted : ℕ → ℕ
counted count = min (count + 1) (2 ^ 64 - 1)

-- the count rose, or stands at its type's last value
abbrev pub Rose : ℕ → ℕ → Type 0
Rose before now = min (before + 1) (2 ^ 64 - 1) ≤ now

-- the count rose by as many, or stands at its type's last value
abbrev pub RoseBy : ℕ → ℕ → ℕ → Type 0
RoseBy more before now = min (before + more) (2 ^ 64 - 1) ≤ now

-- a call that failed is counted once, and no other is
abbrev pub CountedOnce : {T E : Type 0} → ℕ → ℕ → Result T E → Type 0
CountedOnce before now result = MatchResult result (λ _. now ≡ before) (λ _. now ≡ counted before)

-- A call's count of faults does not fall, has risen where the call failed, and stands where it did not.
pub record HasCause {T E : Type 0} (before now : ℕ) (result : Result T E) : Type 0 where
  pub later : before ≤ now
  pub failed : OnErr result (Rose before now)
  pub kept : OnOk result (now ≡ before)
