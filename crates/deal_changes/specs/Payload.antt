-- Parts of which the payloads of a journal are spelled: each in one way, in front of what stands behind it.
use Rattle.std.specs.Prelude.{◌≡◌, ℕ, List, ◌++◌, Result, Ok, Err}
use Rattle.deal_changes.specs.declared.fault.ChangeFault.{ChangeFault}
use Rattle.deal_changes.specs.declared.fault.ChangeFault.TheVariants.{BadChange, NoMemory}

-- What was read, seen by view as a part and what stands behind it, is in form and spelled so.
abbrev pub IsSpelled : {X Y : Type 0} → (X → List ℕ) → (X → Type 0) → List ℕ → (Y → X × List ℕ) → Y → Type 0
IsSpelled spell Fits bytes view read = Fits (view read).0 × (bytes ≡ spell (view read).0 ++ (view read).1)

-- This part, and what stands behind it, was read, unless memory ran out.
abbrev pub IsReadAs : {X Y : Type 0} → (Y → X × List ℕ) → Result Y ChangeFault → X → List ℕ → Type 0
IsReadAs view (Ok read) part rest = view read ≡ (part, rest)
IsReadAs view (Err BadChange) part rest = ⊥
IsReadAs view (Err NoMemory) part rest = Unit {0}

-- What is spelled so is read, whatever stands behind it.
abbrev pub IsFound : {X Y : Type 0} → (X → List ℕ) → (X → Type 0) → List ℕ → (Y → X × List ℕ) → Result Y ChangeFault → Type 0
IsFound {X} spell Fits bytes view result = (part : X) (rest : List ℕ) → Fits part → bytes ≡ spell part ++ rest → IsReadAs view result part rest
