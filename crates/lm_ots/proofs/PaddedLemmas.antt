-- A message that is written from the front, with zeros behind it, and its padding (FIPS 180-4, 5.1.1).
use Rattle.std.proofs.Common.{◌≡◌, ℕ, ◌+◌, ◌-◌, ◌*◌, ◌/◌, ◌%◌, ◌^◌, ◌≤◌, List, [], ◌∷◌, ◌++◌, length, take, drop, replicate, refl, sym, ◌∙◌, ap, ap₂, arith, append_assoc, append-nil, length-append, length-drop}
use Rattle.std.specs.Int.{w16, w32, w64, to_be_bytes}
use Rattle.std.proofs.lemmas.List.{take_at, drop_at, length-replicate, length-take-le, replicate-append-replicate}
use Rattle.sha2.specs.Sha256.{padded_message, padding}
use Rattle.lm_ots.specs.Chains.{joined, prefix}
use Rattle.lm_ots.specs.Runs.{BeginsPadded, IsFilled}
use Rattle.lm_ots.proofs.Messages.{take-put}
use Rattle.lm_ots.proofs.Parts.{joined-next, joined-none}

pub length-prefix : (id : List ℕ) (n kind : ℕ) → length id ≡ 16 → length (prefix id n kind) ≡ 22
unfolding prefix
length-prefix id n kind size =
    let rest : length (to_be_bytes w32 n ++ to_be_bytes w16 kind) ≡ 6 = refl in
    ap length (append_assoc id (to_be_bytes w32 n) (to_be_bytes w16 kind))
    ∙ length-append id (to_be_bytes w32 n ++ to_be_bytes w16 kind) ∙ ap₂ (λ (a b : ℕ). a + b) size rest

-- so many zeros
abbrev zeros_of : ℕ → List ℕ
zeros_of n = replicate n 0

length-zeros : (n : ℕ) → length (zeros_of n) ≡ n
length-zeros n = length-replicate n 0

-- zeros behind the first k
zeros_split : (n k : ℕ) → k ≤ n → zeros_of n ≡ zeros_of k ++ zeros_of (n - k)
zeros_split n k le =
    let whole : n ≡ k + (n - k) = omega arith in
    ap zeros_of whole ∙ sym (replicate-append-replicate k (n - k) 0)

drop_zeros : (m z : List ℕ) (at more : ℕ) → length m ≡ at → more ≤ length z → z ≡ zeros_of (length z)
    → drop (at + more) (m ++ z) ≡ zeros_of (length z - more)
drop_zeros m z at more size within are =
    let split = are ∙ zeros_split (length z) more within in
    let long : length (m ++ zeros_of more) ≡ at + more = omega (arith, length-append m (zeros_of more), length-zeros more) in
    ap (λ (l : List ℕ). drop (at + more) (m ++ l)) split
    ∙ ap (drop (at + more)) (sym (append_assoc m (zeros_of more) (zeros_of (length z - more))))
    ∙ drop_at (m ++ zeros_of more) (zeros_of (length z - more)) (at + more) long

-- one part more
pub filled_more : (old new m part : List ℕ) (at : ℕ) → IsFilled old m at
    → new ≡ take at old ++ part ++ drop (at + length part) old → at + length part ≤ 8512 → IsFilled new (m ++ part) (at + length part)
filled_more old new m part at is put within =
    let z = zeros_of (8512 - at) in
    let long : length z ≡ 8512 - at = length-zeros (8512 - at) in
    let front = ap (take at) is.1 ∙ take_at m z at is.0 in
    let rest = ap (drop (at + length part)) is.1 ∙ drop_zeros m z at (length part) is.0 (omega arith) (ap zeros_of (sym long)) in
    let left : length z - length part ≡ 8512 - (at + length part) = omega arith in (
      omega (arith, is.0, length-append m part),
      put ∙ ap₂ (λ (a b : List ℕ). a ++ part ++ b) front (rest ∙ ap zeros_of left),
    )

pub filled_none : (zeros : List ℕ) → zeros ≡ zeros_of 8512 → IsFilled zeros [] 0
filled_none zeros is = (refl, is)

-- one end more
pub filled_end : (f : ℕ → List ℕ) (old new front part : List ℕ) (i : ℕ) → IsFilled old (front ++ joined f i) (22 + 32 * i)
    → length part ≡ 32 → part ≡ f i → i ≤ 264
    → new ≡ take (22 + 32 * i) old ++ part ++ drop (22 + 32 * i + length part) old
    → IsFilled new (front ++ joined f (i + 1)) (22 + 32 * (i + 1))
filled_end f old new front part i is size same few put =
    let more = filled_more old new (front ++ joined f i) part (22 + 32 * i) is put (omega arith) in
    let message : (front ++ joined f i) ++ part ≡ front ++ joined f (i + 1) =
    append_assoc front (joined f i) part ∙ ap (λ (l : List ℕ). front ++ l) (ap (λ (l : List ℕ). joined f i ++ l) same ∙ sym (joined-next f i)) in
    let next : 22 + 32 * i + length part ≡ 22 + 32 * (i + 1) = omega arith in
    rw (message, next) at more

-- no end
pub filled_front : (f : ℕ → List ℕ) (zeros new front : List ℕ) → zeros ≡ zeros_of 8512 → length front ≡ 22
    → new ≡ take 0 zeros ++ front ++ drop (0 + length front) zeros → IsFilled new (front ++ joined f 0) (22 + 32 * 0)
filled_front f zeros new front are size put =
    let first = filled_more zeros new [] front 0 (filled_none zeros are) put (omega arith) in
    let message : front ≡ front ++ joined f 0 = sym (ap (λ (l : List ℕ). front ++ l) (joined-none f) ∙ append-nil front) in
    (omega (arith, size, ap length message), first.1 ∙ rw (size, ← message) refl)

-- the octet 0x80, and the length in the last 8 octets of a block
pub padded_is : (old one two m number : List ℕ) (n size : ℕ) → IsFilled old m n → n ≤ 8502 → size ≡ 64 * ((n + 72) / 64)
    → one ≡ take n old ++ (0x80 ∷ []) ++ drop (n + 1) old
    → two ≡ take (size - 8) one ++ number ++ drop (size - 8 + length number) one
    → number ≡ to_be_bytes w64 (8 * n) → BeginsPadded two m size
padded_is old one two m number n size is few whole first second number_is =
    let marked = filled_more old one m (0x80 ∷ []) n is first (omega arith) in
    let zeros = size - 8 - (n + 1) in
    let eight : length number ≡ 8 = ap length number_is in
    let long : length one ≡ 8512 =
    ap length marked.1 ∙ length-append (m ++ 0x80 ∷ []) (zeros_of (8512 - (n + 1)))
    ∙ ap₂ (λ (a b : ℕ). a + b) marked.0 (length-zeros (8512 - (n + 1))) ∙ omega arith in
    let split : zeros_of (8512 - (n + 1)) ≡ zeros_of zeros ++ zeros_of (8512 - (n + 1) - zeros) = zeros_split (8512 - (n + 1)) zeros (omega arith) in
    let at : length ((m ++ 0x80 ∷ []) ++ zeros_of zeros) ≡ size - 8 =
    omega (arith, marked.0, length-append (m ++ 0x80 ∷ []) (zeros_of zeros), length-zeros zeros) in
    let front : take (size - 8) one ≡ (m ++ 0x80 ∷ []) ++ zeros_of zeros =
    ap (take (size - 8)) (marked.1 ∙ ap (λ (l : List ℕ). (m ++ 0x80 ∷ []) ++ l) split
    ∙ sym (append_assoc (m ++ 0x80 ∷ []) (zeros_of zeros) (zeros_of (8512 - (n + 1) - zeros))))
    ∙ take_at ((m ++ 0x80 ∷ []) ++ zeros_of zeros) (zeros_of (8512 - (n + 1) - zeros)) (size - 8) at in
    let octets : take size two ≡ take (size - 8) one ++ number =
    ap (take size) second ∙ take-put (size - 8) size one number _ (omega arith) (omega arith) in
    let count : zeros ≡ (119 - n % 64) % 64 = omega arith in
    let bits : 8 * n ≡ n * 8 % 2 ^ 64 = omega arith in
    let begins : take size two ≡ padded_message m =
    octets ∙ ap₂ (λ (a b : List ℕ). a ++ b) front (number_is ∙ ap (to_be_bytes w64) bits)
    ∙ append_assoc (m ++ 0x80 ∷ []) (zeros_of zeros) (to_be_bytes w64 (n * 8 % 2 ^ 64))
    ∙ append_assoc m (0x80 ∷ []) (zeros_of zeros ++ to_be_bytes w64 (n * 8 % 2 ^ 64))
    ∙ ap (λ (k : ℕ). m ++ ((0x80 ∷ []) ++ (zeros_of k ++ to_be_bytes w64 (n * 8 % 2 ^ 64)))) count
    ∙ ap (λ (k : ℕ). m ++ padding k) (sym is.0) in
    let behind = drop (size - 8 + length number) one in
    let reach : length two ≡ 8512 =
    ap length second ∙ length-append (take (size - 8) one ++ number) behind
    ∙ omega (arith, length-append (take (size - 8) one) number, length-take-le (size - 8) one (omega arith), length-drop (size - 8 + length number) one) in
    (sym (ap length begins) ∙ length-take-le size two (omega arith), begins)
