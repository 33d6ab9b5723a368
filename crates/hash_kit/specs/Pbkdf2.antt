-- PBKDF2 with HMAC-SHA-256 for a key of one block (RFC 8018, section 5.2), on lists of octets.
-- Keys of several blocks, or of a part of one, are left out.
use Rattle.std.specs.Prelude.{ℕ, zero, suc, List, [], ◌∷◌, ◌++◌, ◌-◌, bit_xor}
use Rattle.hash_kit.specs.Hmac.{hmac}

-- the exclusive or of two blocks, octet by octet
abbrev pub block_xor : List ℕ → List ℕ → List ℕ
block_xor [] ys = []
block_xor (x ∷ xs) [] = []
block_xor (x ∷ xs) (y ∷ ys) = bit_xor x y ∷ block_xor xs ys

-- U_1 is the HMAC of the salt and the block's number 1 in four octets, and each next one the HMAC of the
-- one before; this is U_(n + 1)
unfoldable pub turn : List ℕ → List ℕ → ℕ → List ℕ
turn secret salt zero = hmac secret (salt ++ 0 ∷ 0 ∷ 0 ∷ 1 ∷ [])
turn secret salt (suc n) = hmac secret (turn secret salt n)

-- U_1 xor .. xor U_(n + 1)
unfoldable pub combined : List ℕ → List ℕ → ℕ → List ℕ
combined secret salt zero = turn secret salt zero
combined secret salt (suc n) = block_xor (combined secret salt n) (turn secret salt (suc n))

-- F(P, S, c, 1) = U_1 xor .. xor U_c, where c is at least 1
abbrev pub pbkdf2 : List ℕ → List ℕ → ℕ → List ℕ
pbkdf2 secret salt rounds = combined secret salt (rounds - 1)
