-- What a stop leaves of a book opens with its leaves.
use Rattle.std.proofs.Common.{◌≡◌, inl, inr, ℕ, true, List, [], ◌∷◌, ◌++◌, sym, ◌∙◌, subst, arith, append-nil}
use Rattle.std.proofs.lemmas.Bool.Decides.{nat_tests}
use Rattle.journal_core.specs.Log.{records, log_of, framed, is_founded}
use Rattle.journal_core.specs.Log as log
use Rattle.lms_tree.specs.Keys.{Secret}
use Rattle.leaf_book.specs.Leaves.{Digests, magic, payloads_of, key_payload, leaves_from, lms_key}
use Rattle.leaf_book.specs.Images.{Recovers, RecoversWith}
use Rattle.leaf_book.specs.Mounted.{Opens}
use Rattle.leaf_book.specs.Laws.{IsAny}
use Rattle.leaf_book.proofs.LeafLemmas.{given_same}

-- an image recovers to one list of payloads at most
abbrev pub OneLog : Type 0
OneLog = (magic image : List ℕ) (payloads others : List (List ℕ)) → log.Recovers magic image payloads → log.Recovers magic image others → payloads ≡ others

founded_parts : (x : List ℕ) → is_founded (1 ∷ 67 ∷ 77 ∷ 80 ∷ 76 ∷ 69 ∷ 65 ∷ 70 ∷ 1 ∷ x) ≡ true
founded_parts x = grind (arith, nat_tests)

-- the disk of a book is founded
pub founded : (s : Secret) (given : Digests) (image : List ℕ) → Recovers s given image → is_founded image ≡ true
founded s given image r = subst (λ (l : List ℕ). is_founded l ≡ true) (sym r.closed.parts) (founded_parts ((framed (key_payload (lms_key s)) ++ records (leaves_from 0 given)) ++ r.closed.gate ∷ r.closed.rest))

same_given : OneLog → (s : Secret) (given later : Digests) (image : List ℕ) → Recovers s given image → Opens s image later → later ≡ given
same_given one s given later image r (inl none) = absurd (cc (none.0, founded s given image r))
same_given one s given later image r (inr is) = given_same (lms_key s) later given (one magic image (payloads_of (lms_key s) later) (payloads_of (lms_key s) given) is.1 r)

pub stays : OneLog → (s : Secret) (given later : Digests) (image : List ℕ) → RecoversWith s given IsAny image → Opens s image later → (more : Digests) × (later ≡ given ++ more)
stays one s given later image (inl r) opens = ([], same_given one s given later image r opens ∙ sym (append-nil given))
stays one s given later image (inr with) opens = (with.0 ∷ [], same_given one s (given ++ with.0 ∷ []) later image with.2 opens)
