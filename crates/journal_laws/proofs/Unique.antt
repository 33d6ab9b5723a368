-- Two logs in one image.
use Rattle.std.proofs.Common.{◌≡◌, ◌≢◌, inl, inr, ℕ, ◌<◌, ◌^◌, List, [], ◌∷◌, ◌++◌, length, take, drop, refl, sym, ◌∙◌, ap, append_assoc}
use Rattle.std.proofs.lemmas.List.{take_at, drop_at}
use Rattle.std.proofs.lemmas.Nat.{from_be_bytes-to_be_bytes_4}
use Rattle.std.specs.Int.{w32, to_be_bytes, from_be_bytes}
use Rattle.journal_core.specs.Log.{framed, records, log_of, AreSmall, Recovers, IsWhole, IsDamaged}

four : (n : ℕ) → length (to_be_bytes w32 n) ≡ 4
four n = refl

pub framed_parts : (p q x y : List ℕ) → length p < 2 ^ 32 → length q < 2 ^ 32 → framed p ++ x ≡ framed q ++ y → (p ≡ q) × (x ≡ y)
unfolding framed
framed_parts p q x y small small' same =
    let sizes = to_be_bytes w32 (length p) in
    let sizes' = to_be_bytes w32 (length q) in
    let split : sizes ++ (p ++ x) ≡ sizes' ++ (q ++ y) = sym (append_assoc sizes p x) ∙ same ∙ append_assoc sizes' q y in
    let heads : sizes ≡ sizes' = sym (take_at sizes (p ++ x) 4 (four (length p))) ∙ ap (λ (l : List ℕ). take 4 l) split ∙ take_at sizes' (q ++ y) 4 (four (length q)) in
    let bodies : p ++ x ≡ q ++ y = sym (drop_at sizes (p ++ x) 4 (four (length p))) ∙ ap (λ (l : List ℕ). drop 4 l) split ∙ drop_at sizes' (q ++ y) 4 (four (length q)) in
    let long : length p ≡ length q = sym (from_be_bytes-to_be_bytes_4 (length p) small) ∙ ap (λ (l : List ℕ). from_be_bytes w32 l) heads ∙ from_be_bytes-to_be_bytes_4 (length q) small' in
    let first : p ≡ q = sym (take_at p x (length q) long) ∙ ap (λ (l : List ℕ). take (length q) l) bodies ∙ take_at q y (length q) refl in
    let second : x ≡ y = sym (drop_at p x (length q) long) ∙ ap (λ (l : List ℕ). drop (length q) l) bodies ∙ drop_at q y (length q) refl in
    (first, second)

tails : (x y : ℕ) (xs ys : List ℕ) → x ∷ xs ≡ y ∷ ys → xs ≡ ys
tails x y xs ys same = cc same

heads : (x y : ℕ) (xs ys : List ℕ) → x ∷ xs ≡ y ∷ ys → x ≡ y
heads x y xs ys same = cc same

next : (p : List ℕ) (payloads : List (List ℕ)) (x : List ℕ) → records (p ∷ payloads) ++ x ≡ 1 ∷ (framed p ++ (records payloads ++ x))
next p payloads x = ap (λ (l : List ℕ). 1 ∷ l) (append_assoc (framed p) (records payloads) x)

-- the first records are one, and so is what stands behind them
step : (p q : List ℕ) (ps qs : List (List ℕ)) (x y : List ℕ) → length p < 2 ^ 32 → length q < 2 ^ 32 → records (p ∷ ps) ++ x ≡ records (q ∷ qs) ++ y → (p ≡ q) × (records ps ++ x ≡ records qs ++ y)
step p q ps qs x y small small' same =
    framed_parts p q (records ps ++ x) (records qs ++ y) small small' (tails 1 1 (framed p ++ (records ps ++ x)) (framed q ++ (records qs ++ y)) (sym (next p ps x) ∙ same ∙ next q qs y))

-- behind an open gate a record stands whole, if anything stands behind it
whole_of : (p body x : List ℕ) (ps : List (List ℕ)) (gate : ℕ) (rest : List ℕ) → length p < 2 ^ 32 → x ≡ gate ∷ rest → records (p ∷ ps) ++ x ≡ 1 ∷ body → IsWhole body
whole_of p body x [] gate rest small is same = record {
  payload = p;
  gate = gate;
  more = rest;
  fits = small;
  parts = sym (tails 1 1 (framed p ++ x) body (sym (next p [] x) ∙ same)) ∙ ap (λ (l : List ℕ). framed p ++ l) is;
}
whole_of p body x (q ∷ ps) gate rest small is same = record {
  payload = p;
  gate = 1;
  more = framed q ++ records ps ++ x;
  fits = small;
  parts = sym (tails 1 1 (framed p ++ (records (q ∷ ps) ++ x)) body (sym (next p (q ∷ ps) x) ∙ same));
}

same_records : (ps qs : List (List ℕ)) (gate gate' : ℕ) (rest rest' : List ℕ) → AreSmall ps → AreSmall qs → gate ≢ 1 → gate' ≢ 1 → records ps ++ gate ∷ rest ≡ records qs ++ gate' ∷ rest' → ps ≡ qs
same_records [] [] gate gate' rest rest' small small' shut shut' same = refl
same_records [] (q ∷ qs) gate gate' rest rest' small small' shut shut' same = absurd (shut (heads gate 1 rest (framed q ++ records qs ++ gate' ∷ rest') same))
same_records (p ∷ ps) [] gate gate' rest rest' small small' shut shut' same = absurd (shut' (sym (heads 1 gate' (framed p ++ records ps ++ gate ∷ rest) rest' same)))
same_records (p ∷ ps) (q ∷ qs) gate gate' rest rest' small small' shut shut' same =
    let parts = step p q ps qs (gate ∷ rest) (gate' ∷ rest') small.0 small'.0 same in
    let behind : ps ≡ qs = same_records ps qs gate gate' rest rest' small.1 small'.1 shut shut' parts.1 in
    ap (λ (x : List ℕ). x ∷ ps) parts.0 ∙ ap (λ (l : List (List ℕ)). q ∷ l) behind

never_both : (ps qs : List (List ℕ)) (gate : ℕ) (rest body : List ℕ) → AreSmall ps → AreSmall qs → gate ≢ 1 → (IsWhole body → ⊥) → records ps ++ gate ∷ rest ≡ records qs ++ 1 ∷ body → ⊥
never_both [] [] gate rest body small small' shut broken same = shut (heads gate 1 rest body same)
never_both [] (q ∷ qs) gate rest body small small' shut broken same = shut (heads gate 1 rest (framed q ++ records qs ++ 1 ∷ body) same)
never_both (p ∷ ps) [] gate rest body small small' shut broken same = broken (whole_of p body (gate ∷ rest) ps gate rest small.0 refl same)
never_both (p ∷ ps) (q ∷ qs) gate rest body small small' shut broken same =
    let parts = step p q ps qs (gate ∷ rest) (1 ∷ body) small.0 small'.0 same in
    never_both ps qs gate rest body small.1 small'.1 shut broken parts.1

same_broken : (ps qs : List (List ℕ)) (body body' : List ℕ) → AreSmall ps → AreSmall qs → (IsWhole body → ⊥) → (IsWhole body' → ⊥) → records ps ++ 1 ∷ body ≡ records qs ++ 1 ∷ body' → ps ≡ qs
same_broken [] [] body body' small small' broken broken' same = refl
same_broken [] (q ∷ qs) body body' small small' broken broken' same = absurd (broken (whole_of q body (1 ∷ body') qs 1 body' small'.0 refl (sym same)))
same_broken (p ∷ ps) [] body body' small small' broken broken' same = absurd (broken' (whole_of p body' (1 ∷ body) ps 1 body small.0 refl same))
same_broken (p ∷ ps) (q ∷ qs) body body' small small' broken broken' same =
    let parts = step p q ps qs (1 ∷ body) (1 ∷ body') small.0 small'.0 same in
    let behind : ps ≡ qs = same_broken ps qs body body' small.1 small'.1 broken broken' parts.1 in
    ap (λ (x : List ℕ). x ∷ ps) parts.0 ∙ ap (λ (l : List (List ℕ)). q ∷ l) behind

-- one magic in front
behind_magic : (magic : List ℕ) (ps qs : List (List ℕ)) (x y image : List ℕ) → image ≡ log_of magic ps ++ x → image ≡ log_of magic qs ++ y → records ps ++ x ≡ records qs ++ y
behind_magic magic ps qs x y image is is' =
    let same : magic ++ (records ps ++ x) ≡ magic ++ (records qs ++ y) = sym (append_assoc magic (records ps) x) ∙ tails 1 1 ((magic ++ records ps) ++ x) ((magic ++ records qs) ++ y) (sym is ∙ is') ∙ append_assoc magic (records qs) y in
    sym (drop_at magic (records ps ++ x) (length magic) refl) ∙ ap (λ (l : List ℕ). drop (length magic) l) same ∙ drop_at magic (records qs ++ y) (length magic) refl

magic_of : (magic image x : List ℕ) (ps : List (List ℕ)) → length magic ≡ 7 → image ≡ log_of magic ps ++ x → take 7 (drop 1 image) ≡ magic
magic_of magic image x ps seven is = ap (λ (l : List ℕ). take 7 (drop 1 l)) is ∙ ap (λ (l : List ℕ). take 7 l) (append_assoc magic (records ps) x) ∙ take_at magic (records ps ++ x) 7 seven

pub one_log : (magic image : List ℕ) (ps qs : List (List ℕ)) → Recovers magic image ps → Recovers magic image qs → ps ≡ qs
one_log magic image ps qs r s =
    same_records ps qs r.closed.gate s.closed.gate r.closed.rest s.closed.rest r.small s.small r.closed.shut s.closed.shut
    (behind_magic magic ps qs (r.closed.gate ∷ r.closed.rest) (s.closed.gate ∷ s.closed.rest) image r.closed.parts s.closed.parts)

pub undamaged : (magic image : List ℕ) (ps : List (List ℕ)) (at : ℕ) → length magic ≡ 7 → Recovers magic image ps → IsDamaged magic image at → ⊥
undamaged magic image ps at seven r (inl foreign) = foreign.1 (magic_of magic image (r.closed.gate ∷ r.closed.rest) ps seven r.closed.parts)
undamaged magic image ps at seven r (inr b) =
    never_both ps b.payloads r.closed.gate r.closed.rest b.rest r.small b.small r.closed.shut b.broken
    (behind_magic magic ps b.payloads (r.closed.gate ∷ r.closed.rest) (1 ∷ b.rest) image r.closed.parts b.parts)

pub one_damage : (magic image : List ℕ) (at other : ℕ) → length magic ≡ 7 → IsDamaged magic image at → IsDamaged magic image other → at ≡ other
one_damage magic image at other seven (inl foreign) (inl foreign') = foreign.0 ∙ sym foreign'.0
one_damage magic image at other seven (inl foreign) (inr b) = absurd (foreign.1 (magic_of magic image (1 ∷ b.rest) b.payloads seven b.parts))
one_damage magic image at other seven (inr b) (inl foreign) = absurd (foreign.1 (magic_of magic image (1 ∷ b.rest) b.payloads seven b.parts))
one_damage magic image at other seven (inr b) (inr d) =
    let same = same_broken b.payloads d.payloads b.rest d.rest b.small d.small b.broken d.broken (behind_magic magic b.payloads d.payloads (1 ∷ b.rest) (1 ∷ d.rest) image b.parts d.parts) in
    b.offset ∙ ap (λ (l : List (List ℕ)). length (log_of magic l)) same ∙ sym d.offset
