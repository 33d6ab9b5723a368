-- The first octet of a disk, and the log that found begins.
use Rattle.std.proofs.Common.{◌≡◌, ◌⊎◌, inl, inr, ℕ, zero, suc, ◌+◌, ◌<◌, ◌≤◌, ◌^◌, nat_eq, nat_lt, Bool, false, List, [], ◌∷◌, ◌++◌, length, take, drop, slice_index_or, refl, sym, ◌∙◌, ap, subst, arith, length-append}
use Rattle.std.proofs.lemmas.List.{append-nil}
use Rattle.std.specs.Prelude.{if◌then◌else◌}
use Rattle.std.proofs.lemmas.Bool.{cases_eq, eqb-false, le-leb, lt-leb}
use Rattle.cmp_ports.specs.Disk.{Every, overwritten}
use Rattle.journal_core.specs.declared.journal.Doubt.TheVariants.{Clear}
use Rattle.journal_core.specs.Log.{framed, log_of, is_open, ClosedAfter, Recovers}
use Rattle.journal_core.specs.Staged.{StagedAfter}
use Rattle.journal_core.specs.Mounted.{prepared}
use Rattle.journal_core.specs.Seal.{IsBodyFor}
use Rattle.journal_core.specs.Journal.{IsKeptAs}
use Rattle.journal_core.proofs.Logs.{length-framed}

pub first_then : (count : ℕ) (into f : List ℕ) → 0 < count → count ≤ length into → take count into ≡ take count f → nat_eq (slice_index_or into 0 0) 1 ≡ is_open f
first_then zero into f some within same = absurd (omega (arith, some))
first_then (suc count) [] f some within same = absurd (omega (arith, within))
first_then (suc count) (x ∷ into) [] some within same = absurd (cc same)
first_then (suc count) (x ∷ into) (y ∷ f) some within same = let is : x ≡ y = cc same in ap (λ (n : ℕ). nat_eq n 1) is

pub first_else : (count : ℕ) (f : List ℕ) → count ≤ 0 → length f ≤ 0 → nat_lt 0 count ≡ is_open f
first_else zero [] none empty = refl
first_else zero (x ∷ f) none empty = absurd (omega (arith, empty))
first_else (suc count) f none empty = absurd (omega (arith, none))

pub closed_front : (c : List ℕ) → 9 ≤ length c → is_open c ≡ false → ClosedAfter [] c
closed_front [] long shut = absurd (omega (arith, long))
closed_front (x ∷ c) long shut = record { gate = x; rest = c; shut = eqb-false x 1 shut; parts = refl }

module _ (magic first : List ℕ) where
  first_log : 1 ∷ (magic ++ 1 ∷ framed first) ≡ log_of magic (first ∷ [])
  first_log = ap (λ (l : List ℕ). 1 ∷ (magic ++ 1 ∷ l)) (sym (append-nil (framed first)))

  pub first_body : (octets : List ℕ) (images : List ℕ → Type 0) → Every images (ClosedAfter []) → octets ≡ (magic ++ 1 ∷ framed first) ++ 0 ∷ [] → IsBodyFor [] (magic ++ 1 ∷ framed first) octets 0 images
  first_body octets images prepared spelled = record { at = refl; spelled = spelled; closed = prepared }

  pub founded : (size : ℕ) (new : List ℕ → Type 0) → length first ≤ 1073741824 → length magic ≡ 7 → size ≡ length first + 13 → Every new (ClosedAfter ([] ++ 1 ∷ (magic ++ 1 ∷ framed first))) → IsKeptAs magic (first ∷ []) [] size 1 Clear new
  founded size new fits seven is closed = record {
    small = (omega (arith, fits), tt);
    fits = omega arith;
    end = omega (arith, is, seven, length-append magic (1 ∷ framed first), length-framed first, ap length first_log);
    counted = refl;
    state = subst (λ (l : List ℕ). Every new (ClosedAfter l)) first_log closed;
  }

  pub begun : (c : List ℕ) → length first ≤ 1073741824 → ClosedAfter [] c ⊎ StagedAfter [] (magic ++ 1 ∷ framed first) c → ClosedAfter [] c ⊎ Recovers magic c (first ∷ [])
  begun c fits (inl closed) = inl closed
  begun c fits (inr staged) = elim (cases_eq staged.gate 1) [
    | inl is_one ↦
        let behind = staged.next ∷ staged.rest in
        let whole : c ≡ log_of magic (first ∷ []) ++ behind = staged.parts ∙ ap (λ (g : ℕ). g ∷ ((magic ++ 1 ∷ framed first) ++ behind)) is_one ∙ ap (λ (l : List ℕ). l ++ behind) first_log in
        let fit : length first < 2 ^ 32 = omega (arith, fits) in
        inr record { small = (fit, tt); closed = record { gate = staged.next; rest = staged.rest; shut = staged.shut; parts = whole } }
    | inr shut ↦ inl record { gate = staged.gate; rest = (magic ++ 1 ∷ framed first) ++ staged.next ∷ staged.rest; shut = shut; parts = staged.parts }
  ]

-- ---- what prepare makes of the content

pub prepared_long : (f : List ℕ) → 9 ≤ length f → f ≡ prepared f
prepared_long f long = ap (λ (b : Bool). if b then f else 0 ∷ drop 1 f) (sym (le-leb 9 (length f) long))

pub prepared_short : (f : List ℕ) → length f < 9 → overwritten 0 (0 ∷ []) f ≡ prepared f
prepared_short f short = ap (λ (b : Bool). if b then f else 0 ∷ drop 1 f) (sym (lt-leb 9 (length f) short))
