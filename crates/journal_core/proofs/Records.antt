-- The log of the payloads so far, with the record that comes next.
use Rattle.std.proofs.Common.{◌≡◌, ◌≢◌, ℕ, ◌+◌, ◌<◌, ◌≤◌, ◌^◌, nat_le, true, List, [], ◌∷◌, ◌++◌, length, take, drop, slice_index_or, sym, ◌∙◌, ap, subst, arith, append_assoc, length-append, take-append-drop}
use Rattle.std.proofs.lemmas.List.{append-nil, take_all}
use Rattle.std.proofs.Math.Seq.{take-add}
use Rattle.std.proofs.lemmas.Bool.{and_parts, eqb-true, leb-true}
use Rattle.journal_core.specs.Log.{framed, log_of, is_open, is_founded, ClosedAfter, AreSmall, IsWhole, IsBroken}
use Rattle.journal_core.proofs.Logs.{log_push, length-log_push, small_push}

-- the first octet is cut off
pub headed : (rest : List ℕ) → 0 < length rest → slice_index_or rest 0 0 ≡ 1 → rest ≡ 1 ∷ drop 1 rest
headed [] some one = absurd (omega (arith, some))
headed (x ∷ rest) some one = ap (λ (n : ℕ). n ∷ rest) one

pub shut_rest : (rest : List ℕ) (front c : List ℕ) → 0 < length rest → slice_index_or rest 0 0 ≢ 1 → c ≡ front ++ rest → ClosedAfter front c
shut_rest [] front c some shut is = absurd (omega (arith, some))
shut_rest (x ∷ rest) front c some shut is = record { gate = x; rest = rest; shut = shut; parts = is }

-- before the first record
pub begins : (magic image : List ℕ) → is_founded image ≡ true → take 7 (drop 1 image) ≡ magic → image ≡ log_of magic [] ++ drop 8 image
begins magic [] founded is = absurd (cc founded)
begins magic (x ∷ image) founded is =
    let one : x ≡ 1 = eqb-true x 1 (and_parts (nat_le 9 (length (x ∷ image))) (is_open (x ∷ image)) founded).1 in
    let rest : image ≡ magic ++ drop 7 image = sym (take-append-drop 7 image) ∙ ap (λ (l : List ℕ). l ++ drop 7 image) is in
    ap (λ (n : ℕ). n ∷ image) one ∙ ap (λ (l : List ℕ). 1 ∷ l) rest ∙ ap (λ (l : List ℕ). 1 ∷ (l ++ drop 7 image)) (sym (append-nil magic))

pub founded_size : (image : List ℕ) → is_founded image ≡ true → 9 ≤ length image
founded_size image founded = leb-true 9 (length image) (and_parts (nat_le 9 (length image)) (is_open image) founded).0

-- one record more
module _ (magic payload : List ℕ) (payloads new : List (List ℕ)) (pushed : new ≡ payloads ++ payload ∷ []) where
  pub next_small : AreSmall payloads → length payload < 2 ^ 32 → AreSmall new
  next_small small fits = subst (λ (l : List (List ℕ)). AreSmall l) (sym pushed) (small_push payloads payload small fits)

  pub next_record : (image rest next : List ℕ) → image ≡ log_of magic payloads ++ rest → rest ≡ 1 ∷ drop 1 rest → drop 1 rest ≡ framed payload ++ next → image ≡ log_of magic new ++ next
  next_record image rest next is one whole =
      is ∙ ap (λ (l : List ℕ). log_of magic payloads ++ l) (one ∙ ap (λ (l : List ℕ). 1 ∷ l) whole)
      ∙ sym (append_assoc (log_of magic payloads) (1 ∷ framed payload) next)
      ∙ ap (λ (l : List ℕ). l ++ next) (sym (log_push magic payloads payload))
      ∙ ap (λ (l : List (List ℕ)). log_of magic l ++ next) (sym pushed)

  pub next_offset : (at n : ℕ) → at ≡ length (log_of magic payloads) → n ≡ length payload → at + (5 + n) ≡ length (log_of magic new)
  next_offset at n is size =
      let grown : at + (5 + n) ≡ length (log_of magic (payloads ++ payload ∷ [])) = omega (arith, is, size, length-log_push magic payloads payload) in
      grown ∙ ap (λ (l : List (List ℕ)). length (log_of magic l)) (sym pushed)

-- the record isn't whole
pub broken_at : (magic image rest : List ℕ) (payloads : List (List ℕ)) (at : ℕ) → AreSmall payloads → image ≡ log_of magic payloads ++ rest → rest ≡ 1 ∷ drop 1 rest → at ≡ length (log_of magic payloads) → (IsWhole (drop 1 rest) → ⊥) → IsBroken magic image at
broken_at magic image rest payloads at small is one offset broken = record {
  payloads = payloads;
  rest = drop 1 rest;
  small = small;
  parts = is ∙ ap (λ (l : List ℕ). log_of magic payloads ++ l) one;
  offset = offset;
  broken = broken;
}

-- the log lies in the image
pub log_within : (magic image rest : List ℕ) (payloads : List (List ℕ)) → image ≡ log_of magic payloads ++ rest → length (log_of magic payloads) ≤ length image
log_within magic image rest payloads is = omega (arith, ap length is, length-append (log_of magic payloads) rest)

-- a piece more of a content
pub read_more : (image new piece f : List ℕ) (count : ℕ) → image ≡ take (length image) f → new ≡ image ++ take count piece → length (take count piece) ≡ count → take count piece ≡ take count (drop (length image) f) → new ≡ take (length new) f
read_more image new piece f count so_far is size same =
    let long : length new ≡ length image + count = ap length is ∙ length-append image (take count piece) ∙ ap (λ (n : ℕ). length image + n) size in
    is ∙ ap (λ (l : List ℕ). l ++ take count piece) so_far ∙ ap (λ (l : List ℕ). take (length image) f ++ l) same ∙ sym (take-add (length image) count f) ∙ ap (λ (n : ℕ). take n f) (sym long)

pub read_whole : (image f : List ℕ) → image ≡ take (length image) f → length f ≤ length image → image ≡ f
read_whole image f so_far end = so_far ∙ take_all (length image) f end
