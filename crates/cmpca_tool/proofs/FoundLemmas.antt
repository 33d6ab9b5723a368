-- What a read tells of the first octet of a disk.
use Rattle.std.proofs.Common.{◌≡◌, ℕ, zero, suc, ◌<◌, ◌≤◌, nat_eq, nat_lt, List, [], ◌∷◌, length, take, slice_index_or, refl, ap, arith}
use Rattle.journal_core.specs.Log.{is_open}

pub first_then : (count : ℕ) (into f : List ℕ) → 0 < count → count ≤ length into → take count into ≡ take count f → nat_eq (slice_index_or into 0 0) 1 ≡ is_open f
first_then zero into f some within same = absurd (omega (arith, some))
first_then (suc count) [] f some within same = absurd (omega (arith, within))
first_then (suc count) (x ∷ into) [] some within same = absurd (cc same)
first_then (suc count) (x ∷ into) (y ∷ f) some within same = let is : x ≡ y = cc same in ap (λ (n : ℕ). nat_eq n 1) is

pub first_else : (count : ℕ) (f : List ℕ) → count ≤ 0 → length f ≤ 0 → nat_lt 0 count ≡ is_open f
first_else zero [] none empty = refl
first_else zero (x ∷ f) none empty = absurd (omega (arith, empty))
first_else (suc count) f none empty = absurd (omega (arith, none))
