-- An image holds one history, or is of no founded disk.
use Rattle.std.proofs.Common.{◌≡◌, ℕ, ◌≤◌, Bool, true, false, List, ◌∷◌, ◌++◌, length, Result, Ok, refl, sym, subst, length-append, arith}
use Rattle.std.specs.Prelude.{◌&&◌}
use Rattle.std.proofs.lemmas.Bool.{le-leb}
use Rattle.journal_core.specs.declared.fault.MountFault.{MountFault}
use Rattle.journal_core.specs.Log.{records, is_founded}
use Rattle.deal_model.specs.Views.{History}
use Rattle.deal_model.specs.Rules.{Legal}
use Rattle.desk.specs.Images.{spellings, Recovers}
use Rattle.desk_laws.specs.Answers.{Holds}

-- of an image at most one answer holds
abbrev pub AtMostOne : Type 0
AtMostOne = (image : List ℕ) (x y : Result History MountFault) → Holds image x → Holds image y → x ≡ y

and_true : (a : Bool) → a ≡ true → (a && true) ≡ true
and_true true e = refl
and_true false e = e

some_behind : (payloads : List (List ℕ)) (gate : ℕ) (rest : List ℕ) → 1 ≤ length (records payloads ++ gate ∷ rest)
some_behind payloads gate rest = let whole = length-append (records payloads) (gate ∷ rest) in omega arith

nine : (tail : List ℕ) → 1 ≤ length tail → is_founded (1 ∷ 67 ∷ 77 ∷ 80 ∷ 76 ∷ 79 ∷ 71 ∷ 49 ∷ tail) ≡ true
nine tail some = and_true _ (le-leb 9 (length (1 ∷ 67 ∷ 77 ∷ 80 ∷ 76 ∷ 79 ∷ 71 ∷ 49 ∷ tail)) (omega arith))

-- an image from which a history is recovered is founded
pub recovered_founded : (image : List ℕ) (h : History) → Recovers image h → is_founded image ≡ true
recovered_founded image h r = subst (λ (l : List ℕ). is_founded l ≡ true) (sym r.closed.parts) (nine (records (spellings h) ++ r.closed.gate ∷ r.closed.rest) (some_behind (spellings h) r.closed.gate r.closed.rest))

pub not_both : (P : Type 0) (b : Bool) → b ≡ true → b ≡ false → P
not_both P b holds fails = absurd cc

-- two answers are the same
abbrev SameAnswer : Result History MountFault → Result History MountFault → Type 0
SameAnswer x y = x ≡ y

same_ok : (h k : History) → SameAnswer (Ok h) (Ok k) → h ≡ k
same_ok h k e = cc

pub one_recovered : AtMostOne → (image : List ℕ) (h k : History) → Legal h → Legal k → Recovers image h → Recovers image k → h ≡ k
one_recovered one image h k legal also r q = same_ok h k (one image (Ok h) (Ok k) (recovered_founded image h r, r, legal) (recovered_founded image k q, q, also))
