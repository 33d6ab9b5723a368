-- What settling, an append and a whole reserve leave of a book.
use Rattle.std.proofs.Common.{◌≡◌, inl, inr, ℕ, ◌+◌, ◌<◌, ◌≤◌, Bool, true, false, List, [], ◌∷◌, ◌++◌, length, Option, Some, None, Result, Ok, Err, refl, sym, ap, subst, arith}
use Rattle.std.specs.Prelude.{IsTrue, is_some, is_ok, OnErr, ◌||◌, nat_le, nat_lt, ◌==◌, if◌then◌else◌}
use Rattle.std.proofs.lemmas.Bool.Decides.{nat_tests}
use Rattle.journal_core.specs.declared.journal.Journal.{Journal}
use Rattle.journal_core.specs.Log.{log_of, IsBeforeOrAfter}
use Rattle.journal_core.specs.Journal.{IsKept, IsAtRest, is_doubtful, is_past_limit}
use Rattle.lms_tree.specs.Keys.{Secret}
use Rattle.hss_sig.specs.OneLevel.{power_of, leaf_count}
use Rattle.leaf_book.specs.Leaves.{Digests, magic, leaf_payload, payloads_of, lms_key, IsOwnSet, AreDigests}
use Rattle.leaf_book.specs.Images.{RecoversWith, IsDoubt, doubtful, Keeps}
use Rattle.leaf_book.proofs.LeafLemmas.{payloads_push, length-leaf_payload, length-leaves_from, length-log}
use Rattle.leaf_book.proofs.Kept.{either_with}

-- nothing is in doubt
pub rests : (s : Secret) (given : Digests) (doubt : Option (List ℕ)) (journal : Journal) (images : List ℕ → Type 0) → doubt ≡ None → Keeps s given doubt journal images → IsAtRest magic (payloads_of (lms_key s) given) journal images
rests s given doubt journal images none keeps = subst (λ (d : Option (List ℕ)). Keeps s given d journal images) none keeps

pub still : (s : Secret) (given : Digests) (doubt : Option (List ℕ)) (journal : Journal) (images : List ℕ → Type 0) → doubt ≡ None → IsAtRest magic (payloads_of (lms_key s) given) journal images → Keeps s given doubt journal images
still s given doubt journal images none rest = subst (λ (d : Option (List ℕ)). Keeps s given d journal images) (sym none) rest

pub given_keeps : (s : Secret) (given items : Digests) (d : List ℕ) (doubt : Option (List ℕ)) (entry : List ℕ) (journal : Journal) (images : List ℕ → Type 0) → doubt ≡ None → entry ≡ leaf_payload (length given) d → items ≡ given ++ d ∷ []
    → IsAtRest magic (payloads_of (lms_key s) given ++ entry ∷ []) journal images → Keeps s items doubt journal images
given_keeps s given items d doubt entry journal images none spelled grown rest =
    let there = subst (λ (e : List ℕ). IsAtRest magic (payloads_of (lms_key s) given ++ e ∷ []) journal images) spelled rest in
    let here = subst (λ (l : List (List ℕ)). IsAtRest magic l journal images) (sym (payloads_push (lms_key s) given d)) there in
    still s items doubt journal images none (subst (λ (l : Digests). IsAtRest magic (payloads_of (lms_key s) l) journal images) (sym grown) here)

pub doubt_keeps : (s : Secret) (given : Digests) (d entry : List ℕ) (journal : Journal) (images : List ℕ → Type 0) → entry ≡ leaf_payload (length given) d → IsKept magic (payloads_of (lms_key s) given) entry journal images × (is_doubtful journal ≡ true) → Keeps s given (Some d) journal images
doubt_keeps s given d entry journal images spelled o = (subst (λ (e : List ℕ). IsKept magic (payloads_of (lms_key s) given) e journal images) spelled o.0, o.1)

-- a push where there is room
pub pushed : {T E X : Type 0} (result : Result T E) (items old : List X) (x : X) (len capacity : ℕ) → items ≡ (if is_ok result then old ++ x ∷ [] else old) → OnErr result (capacity ≤ len) → len < capacity → items ≡ old ++ x ∷ []
pushed (Ok t) items old x len capacity grown full room = grown
pushed (Err e) items old x len capacity grown full room = absurd (omega (arith, full, room))

-- what an append leaves at each moment
pub own_left : (s : Secret) (given : Digests) (d entry image : List ℕ) → entry ≡ leaf_payload (length given) d → IsBeforeOrAfter magic (payloads_of (lms_key s) given) entry image → RecoversWith s given (λ x. x ≡ d) image
own_left s given d entry image spelled left = either_with s given d image (λ x. x ≡ d) refl (subst (λ (e : List ℕ). IsBeforeOrAfter magic (payloads_of (lms_key s) given) e image) spelled left)

-- what settling leaves at each moment
pub doubt_left : (s : Secret) (given : Digests) (doubt : Option (List ℕ)) (image : List ℕ) → is_some doubt ≡ true → IsBeforeOrAfter magic (payloads_of (lms_key s) given) (doubtful given doubt) image → RecoversWith s given (IsDoubt doubt) image
doubt_left s given None image some left = absurd (cc some)
doubt_left s given (Some d) image some left = either_with s given d image (IsDoubt (Some d)) refl left

-- what says more of the digest behind the leaves says less
pub with_less : (s : Secret) (given : Digests) (A B : List ℕ → Type 0) (image : List ℕ) → ((d : List ℕ) → A d → B d) → RecoversWith s given A image → RecoversWith s given B image
with_less s given A B image less (inl before) = inl before
with_less s given A B image less (inr longer) = inr (longer.0, less longer.0 longer.1, longer.2)

pub same_less : (s t : Secret) (given before : Digests) (A B : List ℕ → Type 0) (image : List ℕ) → t ≡ s → given ≡ before → ((d : List ℕ) → A d → B d) → RecoversWith t given A image → RecoversWith s before B image
same_less s t given before A B image key same less left = with_less s before A B image less (subst (λ (l : Digests). RecoversWith s l A image) same (subst (λ (k : Secret). RecoversWith k given A image) key left))

-- ---- a book is never full

few_in : (a b c d e : Bool) → d ≡ false → e ≡ false → power_of (if a then Some 5 else (if b then Some 10 else (if c then Some 15 else (if d then Some 20 else (if e then Some 25 else None))))) ≤ 32768
few_in true b c d e not_d not_e = omega arith
few_in false true c d e not_d not_e = omega arith
few_in false false true d e not_d not_e = omega arith
few_in false false false true e not_d not_e = absurd (cc not_d)
few_in false false false false true not_d not_e = absurd (cc not_e)
few_in false false false false false not_d not_e = omega arith

-- a tree of a book has at most 2^15 leaves
pub few : (code : ℕ) → code ≤ 7 → leaf_count code ≤ 32768
few code high =
    let not_8 : (code == 8) ≡ false = grind (arith, nat_tests) in
    let not_9 : (code == 9) ≡ false = grind (arith, nat_tests) in
    few_in (code == 5) (code == 6) (code == 7) (code == 8) (code == 9) not_8 not_9

or_false : (a b : Bool) → a ≡ false → b ≡ false → IsTrue (a || b) → ⊥
or_false true b not_a not_b is = cc not_a
or_false false true not_a not_b is = cc not_b
or_false false false not_a not_b is = cc is

pub has_room : (s : Secret) (given : Digests) (entry d : List ℕ) → IsOwnSet s → length (lms_key s) ≡ 56 → AreDigests given → length given < leaf_count s.tree → entry ≡ leaf_payload (length given) d → length d ≡ 32
    → IsTrue (is_past_limit (length (payloads_of (lms_key s) given)) (length (log_of magic (payloads_of (lms_key s) given))) (length entry + 5)) → ⊥
has_room s given entry d own size are below spelled digest past =
    let most = few s.tree own.1 in
    let count : length (payloads_of (lms_key s) given) ≡ length given + 1 = omega (arith, length-leaves_from 0 given) in
    let long : length entry ≡ 37 = omega (arith, ap (λ (l : List ℕ). length l) spelled, length-leaf_payload (length given) d, digest) in
    let not_many : nat_le 262144 (length (payloads_of (lms_key s) given)) ≡ false = grind (arith, nat_tests) in
    let end = length-log (lms_key s) given size are in
    let not_long : nat_lt 1073741824 (length (log_of magic (payloads_of (lms_key s) given)) + (length entry + 5)) ≡ false = grind (arith, nat_tests) in
    or_false _ _ not_many not_long past
