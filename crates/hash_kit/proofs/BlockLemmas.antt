-- Blocks, read octet by octet.
use Rattle.std.proofs.Common.{◌≡◌, ℕ, zero, suc, ◌<◌, List, [], ◌∷◌, length, get_or, refl, ap, sym, ◌∙◌, arith, bit_xor, map}
use Rattle.std.proofs.lemmas.Grind.{same_number_lists}
use Rattle.std.proofs.lemmas.List.{get_or-map, length-map}
use Rattle.hash_kit.specs.Keyed.{padded}
use Rattle.hash_kit.specs.Pbkdf2.{block_xor}

-- a list that has the combined octet at each index is the padded block
pub is_padded : (block out : List ℕ) (octet : ℕ) → length out ≡ length block → ((k : ℕ) → k < length block → get_or out k 0 ≡ bit_xor (get_or block k 0) octet) → out ≡ padded octet block
is_padded block out octet same each =
    same_number_lists out (map (λ b. bit_xor b octet) block) (same ∙ sym (length-map block (λ b. bit_xor b octet)))
    (λ k h. each k (omega arith) ∙ sym (get_or-map (λ b. bit_xor b octet) block k 0 0 (omega arith)))

pub length-block_xor : (xs ys : List ℕ) → length xs ≡ length ys → length (block_xor xs ys) ≡ length xs
length-block_xor [] ys h = refl
length-block_xor (x ∷ xs) [] h = absurd (omega arith)
length-block_xor (x ∷ xs) (y ∷ ys) h = ap suc (length-block_xor xs ys (omega arith))

pub get_or-block_xor : (xs ys : List ℕ) (k : ℕ) → length xs ≡ length ys → k < length xs → get_or (block_xor xs ys) k 0 ≡ bit_xor (get_or xs k 0) (get_or ys k 0)
get_or-block_xor [] ys k e h = absurd (omega arith)
get_or-block_xor (x ∷ xs) [] k e h = absurd (omega arith)
get_or-block_xor (x ∷ xs) (y ∷ ys) zero e h = refl
get_or-block_xor (x ∷ xs) (y ∷ ys) (suc k) e h = get_or-block_xor xs ys k (omega arith) (omega arith)

-- a list that has the combined octet at each index is the combined block
pub is_xor : (xs ys out : List ℕ) → length out ≡ length xs → length xs ≡ length ys → ((k : ℕ) → k < length xs → get_or out k 0 ≡ bit_xor (get_or xs k 0) (get_or ys k 0)) → out ≡ block_xor xs ys
is_xor xs ys out same e each =
    same_number_lists out (block_xor xs ys) (same ∙ sym (length-block_xor xs ys e))
    (λ k h. each k (omega arith) ∙ sym (get_or-block_xor xs ys k e (omega arith)))
