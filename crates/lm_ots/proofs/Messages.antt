-- A part that is written into a message.
use Rattle.std.proofs.Common.{◌≡◌, ℕ, ◌+◌, ◌≤◌, List, ◌++◌, length, take, drop, ◌∙◌, ap, arith, length-append, append-nil}
use Rattle.std.proofs.lemmas.List.{take_at, drop_at, drop_all, take-append-le, drop-append-le, length-take-le, take-take}

-- what was written, with what stands before it
pub take-put : (a n : ℕ) (m p r : List ℕ) → a ≤ length m → n ≡ a + length p → take n (take a m ++ p ++ r) ≡ take a m ++ p
take-put a n m p r fits e =
    take_at (take a m ++ p) r n (omega (arith, length-append (take a m) p, length-take-le a m fits))

-- what stands before the part
pub take-put_before : (a n : ℕ) (m p r : List ℕ) → n ≤ a → a ≤ length m → take n (take a m ++ p ++ r) ≡ take n m
take-put_before a n m p r before fits =
    let size = length-take-le a m fits in
    take-append-le n (take a m ++ p) r (omega (arith, length-append (take a m) p))
    ∙ take-append-le n (take a m) p (omega arith) ∙ take-take n a m before

-- a part that is written up to the end
pub drop-put : (a : ℕ) (m p : List ℕ) → a + length p ≡ length m → drop a (take a m ++ p ++ drop (a + length p) m) ≡ p
drop-put a m p whole =
    let size = length-take-le a m (omega arith) in
    drop-append-le a (take a m ++ p) (drop (a + length p) m) (omega (arith, length-append (take a m) p))
    ∙ ap (λ (l : List ℕ). l ++ drop (a + length p) m) (drop_at (take a m) p a size)
    ∙ ap (λ (l : List ℕ). p ++ l) (drop_all (a + length p) m (omega arith)) ∙ append-nil p
