-- What the calls of a disk do to its content, and what a crash may leave between two syncs.
use Rattle.std.specs.Prelude.{◌≡◌, ◌⊎◌, ℕ, ◌+◌, ◌≤◌, max, Option, Some, List, ◌++◌, length, take, drop}

-- the file with these octets in the place of those from this offset on
abbrev pub overwritten : ℕ → List ℕ → List ℕ → List ℕ
overwritten at octets file = take at file ++ octets ++ drop (at + length octets) file

-- after a write of n octets that a crash cuts short: anything in that range and past the old end, the same elsewhere
pub record Torn (at n : ℕ) (old new : List ℕ) : Type 0 where
  pub before : take at new ≡ take at old
  pub after : drop (at + n) new ≡ drop (at + n) old
  pub no_shorter : length old ≤ length new
  pub no_longer : length new ≤ max (length old) (at + n)

-- each image after the call is an image before it, after this step
abbrev pub Follows : (List ℕ → List ℕ → Type 0) → (List ℕ → Type 0) → (List ℕ → Type 0) → Type 0
Follows step old new = (c : List ℕ) → new c → (d : List ℕ) × old d × step d c

-- each image after the call was one before it
abbrev pub Among : (List ℕ → Type 0) → (List ℕ → Type 0) → Type 0
Among old new = (c : List ℕ) → new c → old c

-- a crash leaves what a read gives
abbrev pub Settled : Option (List ℕ) → (List ℕ → Type 0) → Type 0
Settled content images = (c : List ℕ) → images c → content ≡ Some c

-- one of the images, after this step
abbrev pub Reached : (List ℕ → List ℕ → Type 0) → (List ℕ → Type 0) → List ℕ → Type 0
Reached step images c = (d : List ℕ) × images d × step d c

-- each image has this property
abbrev pub Every : (List ℕ → Type 0) → (List ℕ → Type 0) → Type 0
Every images P = (c : List ℕ) → images c → P c

-- Time goes on: a crash since t might have left what it might have left before, or what it may leave now.
pub record Elapses (before now : ℕ) (past since : ℕ → List ℕ → Type 0) (images : List ℕ → Type 0) : Type 0 where
  pub later : before ≤ now
  pub nothing_else : (t : ℕ) (c : List ℕ) → t ≤ before → since t c → past t c ⊎ images c
  pub keeps : (t : ℕ) (c : List ℕ) → t ≤ before → past t c → since t c

-- A crash at any moment since old leaves an image that has P.
pub record LeavesOnly {D : Type 0} (moment : D → ℕ) (left_since : D → ℕ → List ℕ → Type 0) (old new : D) (P : List ℕ → Type 0) : Type 0 where
  pub later : moment old ≤ moment new
  pub each : (c : List ℕ) → left_since new (moment old) c → P c
  -- for a run that began earlier
  pub before : (t : ℕ) (c : List ℕ) → t ≤ moment old → left_since new t c → left_since old t c ⊎ P c
