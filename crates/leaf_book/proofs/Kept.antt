-- What a book keeps has one proof, so it may be taken out of the type.
use Rattle.std.proofs.Common.{◌≡◌, ◌≢◌, ◌⊎◌, inl, inr, ℕ, ◌+◌, ◌<◌, ◌≤◌, ◌^◌, Bool, false, List, [], ◌∷◌, ◌++◌, length, get_or, drop, Option, Some, None, refl, sym, ◌∙◌, ap, subst, arith, append_assoc, append-nil, length-append}
use Rattle.std.proofs.Math.Logic.{∥∥₁_elim}
use Rattle.std.proofs.Props.{props}
use Rattle.std.proofs.lemmas.List.{drop_at}
use Rattle.std.proofs.lemmas.Bool.{cases_eq}
use Rattle.std.proofs.lemmas.Grind.{common_steps}
use Rattle.cmp_ports.specs.Disk.{Every}
use Rattle.journal_core.specs.declared.journal.Journal.{Journal}
use Rattle.journal_core.specs.declared.journal.Doubt.{Doubt}
use Rattle.journal_core.specs.declared.journal.Doubt.TheVariants.{Clear, Before, Gate}
use Rattle.journal_core.specs.Log.{framed, records, log_of, ClosedAfter, AreSmall}
use Rattle.journal_core.specs.Log as log
use Rattle.journal_core.specs.Staged.{StagedAfter}
use Rattle.journal_core.specs.Journal.{IsInState, IsKeptAs, IsAtRest, is_in_doubt}
use Rattle.lms_tree.specs.Keys.{Secret}
use Rattle.leaf_book.specs.Leaves.{Digests, magic, leaf_payload, payloads_of, lms_key}
use Rattle.leaf_book.specs.Images.{Recovers, RecoversWith, IsDoubt, doubtful, Keeps}
use Rattle.leaf_book.proofs.LeafLemmas.{payloads_push}

-- the image goes on behind these octets with a closed gate, told by its octets
abbrev Shut : List ℕ → List ℕ → Type 0
Shut front image = (image ≡ front ++ get_or image (length front) 0 ∷ drop (length front + 1) image) × (get_or image (length front) 0 ≢ 1)

shut_prop : (front image : List ℕ) → IsProp (Shut front image)
shut_prop front image = Prim.hlevel props

small_prop : (payloads : List (List ℕ)) → IsProp (AreSmall payloads)
small_prop payloads = Prim.hlevel props

below_prop : (m n : ℕ) → IsProp (m < n)
below_prop m n = Prim.hlevel props

within_prop : (m n : ℕ) → IsProp (m ≤ n)
within_prop m n = Prim.hlevel props

number_prop : (m n : ℕ) → IsProp (m ≡ n)
number_prop m n = Prim.hlevel props

pub bool_prop : (a b : Bool) → IsProp (a ≡ b)
bool_prop a b = Prim.hlevel props

gate_at : (front rest : List ℕ) (gate : ℕ) → get_or (front ++ gate ∷ rest) (length front) 0 ≡ gate
gate_at front rest gate = grind (arith, common_steps)

rest_at : (front rest : List ℕ) (gate : ℕ) → drop (length front + 1) (front ++ gate ∷ rest) ≡ rest
rest_at front rest gate = ap (λ (l : List ℕ). drop (length front + 1) l) (sym (append_assoc front (gate ∷ []) rest)) ∙ drop_at (front ++ gate ∷ []) rest (length front + 1) (length-append front (gate ∷ []))

shut_of : (front image : List ℕ) → ClosedAfter front image → Shut front image
shut_of front image closed =
    let gate : get_or image (length front) 0 ≡ closed.gate = ap (λ (l : List ℕ). get_or l (length front) 0) closed.parts ∙ gate_at front closed.rest closed.gate in
    let rest : drop (length front + 1) image ≡ closed.rest = ap (λ (l : List ℕ). drop (length front + 1) l) closed.parts ∙ rest_at front closed.rest closed.gate in
    (closed.parts ∙ ap (λ (n : ℕ). front ++ n ∷ closed.rest) (sym gate) ∙ ap (λ (l : List ℕ). front ++ get_or image (length front) 0 ∷ l) (sym rest), λ one. closed.shut (sym gate ∙ one))

closed_of : (front image : List ℕ) → Shut front image → ClosedAfter front image
closed_of front image s = record { gate = get_or image (length front) 0; rest = drop (length front + 1) image; shut = s.1; parts = s.0 }

abbrev Staged : List ℕ → List ℕ → List ℕ → Type 0
Staged front body image = Shut (front ++ get_or image (length front) 0 ∷ body) image

staged_shut : (front body image : List ℕ) → StagedAfter front body image → Staged front body image
staged_shut front body image s =
    let gate : get_or image (length front) 0 ≡ s.gate = ap (λ (l : List ℕ). get_or l (length front) 0) s.parts ∙ gate_at front (body ++ s.next ∷ s.rest) s.gate in
    subst (λ (n : ℕ). Shut (front ++ n ∷ body) image) (sym gate) (shut_of (front ++ s.gate ∷ body) image (record { gate = s.next; rest = s.rest; shut = s.shut; parts = s.parts ∙ sym (append_assoc front (s.gate ∷ body) (s.next ∷ s.rest)) }))

staged_of : (front body image : List ℕ) → Staged front body image → StagedAfter front body image
staged_of front body image s =
    let gate = get_or image (length front) 0 in
    let whole = front ++ gate ∷ body in
    record { gate = gate; next = get_or image (length whole) 0; rest = drop (length whole + 1) image; shut = s.1; parts = s.0 ∙ append_assoc front (gate ∷ body) (get_or image (length whole) 0 ∷ drop (length whole + 1) image) }

state_out : {X : Type 0} (doubt : Doubt) (front body : List ℕ) (images : List ℕ → Type 0) → ∥ X ∥₁ → (X → IsInState doubt front body images) → IsInState doubt front body images
state_out Clear front body images t state = λ c image. closed_of front c (∥∥₁_elim t (shut_prop front c) (λ x. shut_of front c (state x c image)))
state_out Before front body images t state = λ c image. closed_of front c (∥∥₁_elim t (shut_prop front c) (λ x. shut_of front c (state x c image)))
state_out Gate front body images t state = (
  ∥∥₁_elim t (within_prop (length front) 1073741824) (λ x. (state x).0),
  λ c image. staged_of front body c (∥∥₁_elim t (shut_prop (front ++ get_or c (length front) 0 ∷ body) c) (λ x. staged_shut front body c ((state x).1 c image))),
)

kept_out : {X : Type 0} (magic : List ℕ) (payloads : List (List ℕ)) (payload : List ℕ) (last count : ℕ) (doubt : Doubt) (images : List ℕ → Type 0) → ∥ X ∥₁ → (X → IsKeptAs magic payloads payload last count doubt images) → IsKeptAs magic payloads payload last count doubt images
kept_out magic payloads payload last count doubt images t kept = record {
  small = ∥∥₁_elim t (small_prop payloads) (λ x. (kept x).small);
  fits = ∥∥₁_elim t (below_prop (length payload) (2 ^ 32)) (λ x. (kept x).fits);
  end = ∥∥₁_elim t (number_prop last (length (log_of magic payloads))) (λ x. (kept x).end);
  counted = ∥∥₁_elim t (number_prop count (length payloads)) (λ x. (kept x).counted);
  state = state_out doubt (log_of magic payloads) (framed payload) images t (λ x. (kept x).state);
}

pub keeps_out : (s : Secret) (given : Digests) (doubt : Option (List ℕ)) (journal : Journal) (images : List ℕ → Type 0) → ∥ Keeps s given doubt journal images ∥₁ → Keeps s given doubt journal images
keeps_out s given doubt journal images t = (
  kept_out magic (payloads_of (lms_key s) given) (doubtful given doubt) journal.end journal.count journal.doubt images t (λ x. x.0),
  ∥∥₁_elim t (bool_prop _ _) (λ x. x.1),
)

-- ---- what the images recover to

records_push : (payloads : List (List ℕ)) (payload : List ℕ) → records (payloads ++ payload ∷ []) ≡ records payloads ++ 1 ∷ framed payload
records_push [] payload = ap (λ (l : List ℕ). 1 ∷ l) (append-nil (framed payload))
records_push (p ∷ ps) payload = ap (λ (l : List ℕ). 1 ∷ (framed p ++ l)) (records_push ps payload) ∙ ap (λ (l : List ℕ). 1 ∷ l) (sym (append_assoc (framed p) (records ps) (1 ∷ framed payload)))

log_push : (magic : List ℕ) (payloads : List (List ℕ)) (payload : List ℕ) → log_of magic (payloads ++ payload ∷ []) ≡ log_of magic payloads ++ 1 ∷ framed payload
log_push magic payloads payload = ap (λ (l : List ℕ). 1 ∷ (magic ++ l)) (records_push payloads payload) ∙ ap (λ (l : List ℕ). 1 ∷ l) (sym (append_assoc magic (records payloads) (1 ∷ framed payload)))

small_push : (payloads : List (List ℕ)) (payload : List ℕ) → AreSmall payloads → length payload < 2 ^ 32 → AreSmall (payloads ++ payload ∷ [])
small_push [] payload small fits = (fits, tt)
small_push (p ∷ ps) payload small fits = (small.0, small_push ps payload small.1 fits)

-- a body behind a gate counts where the gate is open
pub staged_recovers : (magic : List ℕ) (payloads : List (List ℕ)) (payload c : List ℕ) → AreSmall payloads → length payload < 2 ^ 32 → StagedAfter (log_of magic payloads) (framed payload) c
    → log.Recovers magic c payloads ⊎ log.Recovers magic c (payloads ++ payload ∷ [])
staged_recovers magic payloads payload c small fits staged = elim (cases_eq staged.gate 1) [
  | inl is_open ↦
      let front = log_of magic payloads in
      let behind = staged.next ∷ staged.rest in
      let whole : c ≡ log_of magic (payloads ++ payload ∷ []) ++ behind = staged.parts ∙ ap (λ (g : ℕ). front ++ g ∷ (framed payload ++ behind)) is_open ∙ sym (append_assoc front (1 ∷ framed payload) behind) ∙ ap (λ (l : List ℕ). l ++ behind) (sym (log_push magic payloads payload)) in
      inr record { small = small_push payloads payload small fits; closed = record { gate = staged.next; rest = staged.rest; shut = staged.shut; parts = whole } }
  | inr shut ↦ inl record { small = small; closed = record { gate = staged.gate; rest = framed payload ++ staged.next ∷ staged.rest; shut = shut; parts = staged.parts } }
]

pub either_with : (s : Secret) (given : Digests) (d image : List ℕ) (Extra : List ℕ → Type 0) → Extra d → log.Recovers magic image (payloads_of (lms_key s) given) ⊎ log.Recovers magic image (payloads_of (lms_key s) given ++ leaf_payload (length given) d ∷ []) → RecoversWith s given Extra image
either_with s given d image Extra is (inl before) = inl before
either_with s given d image Extra is (inr after) = inr (d, is, subst (λ (l : List (List ℕ)). log.Recovers magic image l) (sym (payloads_push (lms_key s) given d)) after)

in_state : (state : Doubt) (payloads : List (List ℕ)) (payload image : List ℕ) (images : List ℕ → Type 0) → AreSmall payloads → length payload < 2 ^ 32 → IsInState state (log_of magic payloads) (framed payload) images → images image
    → log.Recovers magic image payloads ⊎ log.Recovers magic image (payloads ++ payload ∷ [])
in_state Clear payloads payload image images small fits state here = inl record { small = small; closed = state image here }
in_state Before payloads payload image images small fits state here = inl record { small = small; closed = state image here }
in_state Gate payloads payload image images small fits state here = staged_recovers magic payloads payload image small fits (state.1 image here)

at_rest : (state : Doubt) (payloads : List (List ℕ)) (image body : List ℕ) (images : List ℕ → Type 0) → is_in_doubt state ≡ false → AreSmall payloads → IsInState state (log_of magic payloads) body images → images image → log.Recovers magic image payloads
at_rest Clear payloads image body images clear small state here = record { small = small; closed = state image here }
at_rest Before payloads image body images clear small state here = absurd (cc clear)
at_rest Gate payloads image body images clear small state here = absurd (cc clear)

-- where nothing is in doubt each image recovers to the book
pub resting_images : (s : Secret) (given : Digests) (journal : Journal) (images : List ℕ → Type 0) → IsAtRest magic (payloads_of (lms_key s) given) journal images → Every images (λ image. Recovers s given image)
resting_images s given journal images rest = λ image here. at_rest journal.doubt (payloads_of (lms_key s) given) image (framed []) images rest.1 rest.0.small rest.0.state here

pub keeps_images : (s : Secret) (given : Digests) (doubt : Option (List ℕ)) (journal : Journal) (images : List ℕ → Type 0) → Keeps s given doubt journal images → Every images (RecoversWith s given (IsDoubt doubt))
keeps_images s given None journal images keeps = λ image here. inl (resting_images s given journal images keeps image here)
keeps_images s given (Some d) journal images keeps = λ image here. either_with s given d image (IsDoubt (Some d)) refl (in_state journal.doubt (payloads_of (lms_key s) given) (leaf_payload (length given) d) image images keeps.0.small keeps.0.fits keeps.0.state here)
