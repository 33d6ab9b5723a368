-- A service that is founded.
use Rattle.std.proofs.Common.{◌≡◌, ◌≢◌, ◌⊎◌, inl, inr, ℕ, ◌≤◌, Bool, true, false, List, [], ◌∷◌, length, None, refl, sym, subst, arith}
use Rattle.std.specs.Prelude.{◌&&◌, ◌==◌, nat_le, IfSome}
use Rattle.std.proofs.lemmas.Bool.{eqb-true}
use Rattle.journal_core.specs.declared.journal.Journal.{Journal}
use Rattle.journal_core.specs.Log.{ClosedAfter, is_founded, is_open}
use Rattle.journal_core.specs.Log as log
use Rattle.journal_core.specs.Journal.{IsAtRest}
use Rattle.deal_changes.specs.declared.change.Change.{Change}
use Rattle.deal_changes.specs.Spelling.{spelling}
use Rattle.deal_model.specs.Views.{History}
use Rattle.deal_model.specs.Rules.{Allowed, Legal}
use Rattle.desk.specs.Images.{magic, Keeps}
use Rattle.desk.specs.Founded.{IsBegun}

and_false : (a b : Bool) → b ≡ false → (a && b) ≡ false
and_false true b e = e
and_false false b e = refl

not_true : (b : Bool) → (b ≡ true → ⊥) → b ≡ false
not_true true f = absurd (f refl)
not_true false f = refl

shut_gate : (gate : ℕ) (rest : List ℕ) → gate ≢ 1 → is_founded (gate ∷ rest) ≡ false
shut_gate gate rest shut = and_false (nat_le 9 (length (gate ∷ rest))) (gate == 1) (not_true (gate == 1) (λ t. shut (eqb-true gate 1 t)))

-- a disk that begins with a closed gate isn't founded
pub unfounded : (image : List ℕ) → ClosedAfter [] image → is_founded image ≡ false
unfounded image closed = subst (λ (l : List ℕ). is_founded l ≡ false) (sym closed.parts) (shut_gate closed.gate closed.rest closed.shut)

pub founded_keeps : (c : Change) (items : History) (first : List ℕ) (journal : Journal) (images : List ℕ → Type 0) → items ≡ c ∷ [] → first ≡ spelling c → IsAtRest magic (first ∷ []) journal images → Keeps items None journal images
founded_keeps c items first journal images is spelled rest = subst (λ (l : History). Keeps l None journal images) (sym is) (subst (λ (e : List ℕ). IsAtRest magic (e ∷ []) journal images) spelled rest)

pub founded_lawful : (c : Change) (items : History) → items ≡ c ∷ [] → Allowed [] c → ∥ Legal items × IfSome None (Allowed items) ∥₁
founded_lawful c items is a = subst (λ (l : History). ∥ Legal l × IfSome None (Allowed l) ∥₁) (sym is) ∣ (((λ e. cc e), (a, tt)), tt) ∣₁

pub found_small : (c : Change) → Allowed [] c → length (spelling c) ≤ 1073741824
found_small c a = omega (arith, a.size)

-- what the two calls leave at each moment
pub prepared_left : (before : List ℕ → Type 0) (first image : List ℕ) → before image ⊎ (is_founded image ≡ false) → IsBegun before first image
prepared_left before first image (inl was) = inl was
prepared_left before first image (inr shut) = inr (inl shut)

pub begun_left : (before : List ℕ → Type 0) (first image : List ℕ) → ClosedAfter [] image ⊎ log.Recovers magic image (first ∷ []) → IsBegun before first image
begun_left before first image (inl closed) = inr (inl (unfounded image closed))
begun_left before first image (inr done) = inr (inr done)
