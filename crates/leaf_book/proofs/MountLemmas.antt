-- What mount leaves and what it reads.
use Rattle.std.proofs.Common.{◌≡◌, ◌≢◌, ◌⊎◌, inl, inr, ℕ, suc, ◌+◌, ◌*◌, ◌<◌, ◌≤◌, ◌^◌, Bool, true, false, List, [], ◌∷◌, ◌++◌, length, get_or, take, drop, Result, refl, sym, ◌∙◌, ap, subst, arith}
use Rattle.std.specs.Prelude.{◌&&◌, ◌==◌, nat_le, is_ok, if◌then◌else◌}
use Rattle.std.proofs.lemmas.Bool.{eqb-true}
use Rattle.std.proofs.lemmas.List.{take_more, drop_more, take-append-drop}
use Rattle.journal_core.specs.Log as log
use Rattle.journal_core.specs.Log.{ClosedAfter, is_founded, is_open}
use Rattle.lms_tree.specs.Keys.{Secret}
use Rattle.cmp_ports.specs.Disk.{Among}
use Rattle.journal_core.specs.declared.journal.Journal.{Journal}
use Rattle.journal_core.specs.Journal.{IsAtRest}
use Rattle.leaf_book.specs.declared.fault.BookFault.{BookFault}
use Rattle.leaf_book.specs.declared.fault.BookFault.TheVariants.{BadSet, Damaged, KeyMismatch, DiskFault, NoMemory}
use Rattle.leaf_book.specs.declared.reading.LeavesFault.{LeavesFault}
use Rattle.leaf_book.specs.declared.reading.LeavesFault.TheVariants.{Other}
use Rattle.leaf_book.specs.Leaves.{Digests, magic, key_payload, leaf_payload, leaves_from, payloads_of, AreDigests, lms_key}
use Rattle.leaf_book.specs.Mounted.{IsAt, AreGiven, IsBook, IsStuck, IsMisformed, StopsBook, Opens, Bars, IsBegun}
use Rattle.leaf_book.specs.Reading.{HasOther, StopsLeaves}
use Rattle.leaf_book.proofs.LeafLemmas.{first_push, digests_push, length-log, length-leaves_from}

-- ---- what the two calls that begin a log leave

and_false : (a b : Bool) → b ≡ false → (a && b) ≡ false
and_false true b e = e
and_false false b e = refl

not_true : (b : Bool) → (b ≡ true → ⊥) → b ≡ false
not_true true f = absurd (f refl)
not_true false f = refl

shut_gate : (gate : ℕ) (rest : List ℕ) → gate ≢ 1 → is_founded (gate ∷ rest) ≡ false
shut_gate gate rest shut = and_false (nat_le 9 (length (gate ∷ rest))) (gate == 1) (not_true (gate == 1) (λ t. shut (eqb-true gate 1 t)))

-- a disk that begins with a closed gate isn't founded
unfounded : (image : List ℕ) → ClosedAfter [] image → is_founded image ≡ false
unfounded image closed = subst (λ (l : List ℕ). is_founded l ≡ false) (sym closed.parts) (shut_gate closed.gate closed.rest closed.shut)

pub prepared_left : (before : List ℕ → Type 0) (s : Secret) (image : List ℕ) → before image ⊎ (is_founded image ≡ false) → IsBegun before s image
prepared_left before s image (inl was) = inl was
prepared_left before s image (inr shut) = inr (inl shut)

pub begun_left : (before : List ℕ → Type 0) (s : Secret) (first image : List ℕ) → first ≡ key_payload (lms_key s) → ClosedAfter [] image ⊎ log.Recovers magic image (first ∷ []) → IsBegun before s image
begun_left before s first image is (inl closed) = inr (inl (unfounded image closed))
begun_left before s first image is (inr done) = inr (inr (subst (λ (l : List ℕ). log.Recovers magic image (l ∷ [])) is done))

-- ---- the leaves that are read, one after the other

-- the first so many payloads are those of these leaves
abbrev pub IsRead : List (List ℕ) → ℕ → Digests → Type 0
IsRead payloads count given = (take count payloads ≡ leaves_from 0 given) × AreDigests given × (length given ≡ count) × (length given ≤ 2 ^ 32)

pub joined : {T E X : Type 0} (result : Result T E) (items old : List X) (x : X) → items ≡ (if is_ok result then old ++ x ∷ [] else old) → is_ok result ≡ true → items ≡ old ++ x ∷ []
joined result items old x grown done = subst (λ (b : Bool). items ≡ (if b then old ++ x ∷ [] else old)) done grown

-- what next_digest says of a payload that is the next leaf's
abbrev pub IsNext : ℕ → List ℕ → List ℕ → Type 0
IsNext leaf payload d = (length d ≡ 32) × (leaf < 2 ^ 32) × (payload ≡ leaf_payload leaf d)

length_push : (given : Digests) (d : List ℕ) → length (given ++ d ∷ []) ≡ length given + 1
length_push [] d = omega arith
length_push (x ∷ xs) d = omega (arith, length_push xs d)

pub read_more : (payloads : List (List ℕ)) (i leaf : ℕ) (given items : Digests) (d payload : List ℕ) → IsRead payloads i given → i < length payloads
    → payload ≡ get_or payloads i payload → leaf ≡ length given → IsNext leaf payload d → items ≡ given ++ d ∷ [] → IsRead payloads (i + 1) items
read_more payloads i leaf given items d payload so_far within item count next grown =
    let spelled : payload ≡ leaf_payload (length given) d = next.2 ∙ ap (λ (n : ℕ). leaf_payload n d) count in
    let front : take (i + 1) payloads ≡ leaves_from 0 (given ++ d ∷ []) = take_more payloads i payload within ∙ ap (λ (x : List ℕ). take i payloads ++ x ∷ []) (sym item ∙ spelled) ∙ ap (λ (l : List (List ℕ)). l ++ leaf_payload (length given) d ∷ []) so_far.0 ∙ sym (first_push given d) in
    let long : length (given ++ d ∷ []) ≡ i + 1 = length_push given d ∙ ap (λ (n : ℕ). n + 1) so_far.2 in
    let few : length (given ++ d ∷ []) ≤ 2 ^ 32 = omega (arith, next.1, count, length_push given d) in
    subst (λ (l : Digests). IsRead payloads (i + 1) l) (sym grown) (front, digests_push given d so_far.1 next.0, long, few)

pub read_other : (payloads : List (List ℕ)) (i leaf : ℕ) (given : Digests) (payload : List ℕ) → IsRead payloads i given → i < length payloads
    → payload ≡ get_or payloads i payload → leaf ≡ length given → (IsAt (suc leaf) payload → ⊥) → HasOther payloads leaf
read_other payloads i leaf given payload so_far within item count other = record {
  given = given;
  payload = payload;
  more = drop (i + 1) payloads;
  parts = sym (take-append-drop i payloads) ∙ ap (λ (l : List (List ℕ)). l ++ drop i payloads) so_far.0 ∙ ap (λ (l : List (List ℕ)). leaves_from 0 given ++ l) (drop_more payloads i payload within ∙ ap (λ (x : List ℕ). x ∷ drop (i + 1) payloads) (sym item));
  are = (so_far.1, so_far.3);
  count = sym count;
  other = other;
}

pub other_of : (payloads : List (List ℕ)) (fault : LeavesFault) (leaf : ℕ) → fault ≡ Other leaf → StopsLeaves payloads fault → HasOther payloads leaf
other_of payloads fault leaf is stops = subst (λ (e : LeavesFault). StopsLeaves payloads e) is stops

-- ---- the payloads

pub no_first : (payloads : List (List ℕ)) → payloads ≡ [] → IsMisformed payloads 8
no_first payloads none = record { front = []; rest = payloads; parts = refl; good = inl refl; offset = refl; stuck = subst (λ (l : List (List ℕ)). IsStuck 0 l) (sym none) refl }

pub other_first : (payloads more : List (List ℕ)) (first : List ℕ) → payloads ≡ first ∷ more → (IsAt 0 first → ⊥) → IsMisformed payloads 8
other_first payloads more first is other = record { front = []; rest = payloads; parts = refl; good = inl refl; offset = refl; stuck = subst (λ (l : List (List ℕ)). IsStuck 0 l) (sym is) other }

pub other_leaf : (payloads leaves : List (List ℕ)) (first key : List ℕ) (leaf at : ℕ) → payloads ≡ first ∷ leaves → first ≡ key_payload key → length key ≡ 56 → HasOther leaves leaf → at ≡ 70 + 42 * leaf → IsMisformed payloads at
other_leaf payloads leaves first key leaf at is begins size h offset =
    let front = payloads_of key h.given in
    let place : length front ≡ suc leaf = ap suc (length-leaves_from 0 h.given ∙ h.count) in
    record {
      front = front;
      rest = h.payload ∷ h.more;
      parts = is ∙ ap (λ (x : List ℕ). x ∷ leaves) begins ∙ ap (λ (l : List (List ℕ)). key_payload key ∷ l) h.parts;
      good = inr (key, h.given, (refl, size, h.are));
      offset = offset ∙ ap (λ (n : ℕ). 70 + 42 * n) (sym h.count) ∙ sym (length-log key h.given size h.are.0);
      stuck = λ here. h.other (subst (λ (n : ℕ). IsAt n h.payload) place here);
    }

pub whole_book : (payloads leaves : List (List ℕ)) (first key : List ℕ) (given : Digests) → payloads ≡ first ∷ leaves → first ≡ key_payload key → length key ≡ 56 → (leaves ≡ leaves_from 0 given) × AreGiven given → IsBook key given payloads
whole_book payloads leaves first key given is begins size h = (is ∙ ap (λ (x : List ℕ). x ∷ leaves) begins ∙ ap (λ (l : List (List ℕ)). key_payload key ∷ l) h.0, size, h.1)

-- ---- the content

-- a book of this key is read from a content that recovers to its payloads
pub opened : (s : Secret) (key f : List ℕ) (payloads : List (List ℕ)) (given : Digests) → key ≡ lms_key s → (is_founded f ≡ true) × log.Recovers magic f payloads → IsBook key given payloads → Opens s f given
opened s key f payloads given is r book =
    let spelled : payloads ≡ payloads_of (lms_key s) given = book.0 ∙ ap (λ (k : List ℕ). payloads_of k given) is in
    inr (r.0, subst (λ (l : List (List ℕ)). log.Recovers magic f l) spelled r.1, book.2)

pub rests_with : (s : Secret) (key : List ℕ) (payloads : List (List ℕ)) (given : Digests) (journal : Journal) (images : List ℕ → Type 0) → key ≡ lms_key s → IsBook key given payloads → IsAtRest magic payloads journal images → IsAtRest magic (payloads_of (lms_key s) given) journal images
rests_with s key payloads given journal images is book rest = subst (λ (l : List (List ℕ)). IsAtRest magic l journal images) (book.0 ∙ ap (λ (k : List ℕ). payloads_of k given) is) rest

-- what the payloads say against a book of this key bars it from the content that recovers to them
pub barred : (s : Secret) (key f : List ℕ) (payloads : List (List ℕ)) (fault : BookFault) → key ≡ lms_key s → (is_founded f ≡ true) × log.Recovers magic f payloads → StopsBook key payloads fault → Bars s f fault
barred s key f payloads BadSet is r stops = absurd stops
barred s key f payloads (Damaged at) is r stops = (r.0, inr (payloads, r.1, stops))
barred s key f payloads (KeyMismatch file journal) is r stops = (r.0, stops.0 ∙ is, (payloads, r.1, stops.1))
barred s key f payloads DiskFault is r stops = absurd stops
barred s key f payloads NoMemory is r stops = tt

-- the payloads refuse no sets, and tell of no fault of the disk
pub stops_sets : (key : List ℕ) (payloads : List (List ℕ)) (fault : BookFault) → StopsBook key payloads fault → fault ≡ BadSet → ⊥
stops_sets key payloads fault stops is = subst (λ (e : BookFault). StopsBook key payloads e) is stops

pub stops_disk : (key : List ℕ) (payloads : List (List ℕ)) (fault : BookFault) → StopsBook key payloads fault → fault ≡ DiskFault → ⊥
stops_disk key payloads fault stops is = subst (λ (e : BookFault). StopsBook key payloads e) is stops

-- what is begun after a look is begun from before it
pub begun_more : (before mid : List ℕ → Type 0) (s : Secret) (image : List ℕ) → Among before mid → IsBegun mid s image → IsBegun before s image
begun_more before mid s image among (inl was) = inl (among image was)
begun_more before mid s image among (inr later) = inr later
