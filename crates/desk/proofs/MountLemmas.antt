-- Payloads that are read as a history, one after the other.
use Rattle.std.proofs.Common.{◌≡◌, ℕ, ◌+◌, ◌<◌, Bool, true, List, [], ◌∷◌, ◌++◌, length, get_or, take, drop, Result, sym, ◌∙◌, ap, subst, arith}
use Rattle.std.specs.Prelude.{is_ok, if◌then◌else◌}
use Rattle.std.proofs.lemmas.List.{take_more, drop_more, take-append-drop}
use Rattle.std.proofs.lemmas.List.Sums.{sum_by_push}
use Rattle.deal_changes.specs.declared.change.Change.{Change}
use Rattle.deal_changes.specs.Spelling.{spelling}
use Rattle.deal_model.specs.Views.{History}
use Rattle.deal_model.specs.Rules.{size_of, log_size, Allowed, AllowedFrom}
use Rattle.deal_rules.proofs.Histories.{from_push}
use Rattle.desk.specs.Images.{spellings}
use Rattle.desk.specs.Mounts.{IsStopped, IsStuck, IsUnlawful}
use Rattle.desk.proofs.Kept.{spellings_push}

-- the first so many payloads spell this history, whose log ends there
abbrev pub IsReplayed : List (List ℕ) → ℕ → ℕ → History → Type 0
IsReplayed payloads count at h = AllowedFrom [] h × (at ≡ log_size h) × (take count payloads ≡ spellings h)

pub joined : {T E : Type 0} (result : Result T E) (items old : History) (c : Change) → items ≡ (if is_ok result then old ++ c ∷ [] else old) → is_ok result ≡ true → items ≡ old ++ c ∷ []
joined result items old c grown done = subst (λ (b : Bool). items ≡ (if b then old ++ c ∷ [] else old)) done grown

log_push : (h : History) (c : Change) (at size : ℕ) → at ≡ log_size h → size ≡ length (spelling c) → at + (5 + size) ≡ log_size (h ++ c ∷ [])
log_push h c at size end long = omega (arith, end, long, sum_by_push size_of h c)

pub replayed_more : (payloads : List (List ℕ)) (i at size : ℕ) (h g : History) (c : Change) (payload : List ℕ) → IsReplayed payloads i at h → i < length payloads
    → payload ≡ get_or payloads i payload → size ≡ length payload → Allowed h c × (payload ≡ spelling c) → g ≡ h ++ c ∷ [] → IsReplayed payloads (i + 1) (at + (5 + size)) g
replayed_more payloads i at size h g c payload so_far within item long comes grown =
    let front : take (i + 1) payloads ≡ spellings (h ++ c ∷ []) = take_more payloads i payload within ∙ ap (λ (x : List ℕ). take i payloads ++ x ∷ []) (sym item ∙ comes.1) ∙ ap (λ (l : List (List ℕ)). l ++ spelling c ∷ []) so_far.2 ∙ sym (spellings_push h c) in
    let size_is : size ≡ length (spelling c) = long ∙ ap (λ (l : List ℕ). length l) comes.1 in
    subst (λ (l : History). IsReplayed payloads (i + 1) (at + (5 + size)) l) (sym grown) (from_push [] h c so_far.0 comes.0, log_push h c at size so_far.1 size_is, front)

pub replayed_stuck : (payloads : List (List ℕ)) (i at : ℕ) (h : History) (payload : List ℕ) → IsReplayed payloads i at h → i < length payloads
    → payload ≡ get_or payloads i payload → IsStopped h payload → IsUnlawful payloads at
replayed_stuck payloads i at h payload so_far within item stopped = record {
  history = h;
  rest = drop i payloads;
  parts = sym (take-append-drop i payloads) ∙ ap (λ (l : List (List ℕ)). l ++ drop i payloads) so_far.2;
  allowed = so_far.0;
  offset = so_far.1;
  stuck = subst (λ (l : List (List ℕ)). IsStuck h l) (sym (drop_more payloads i payload within)) (subst (λ (p : List ℕ). IsStopped h p) item stopped);
}
