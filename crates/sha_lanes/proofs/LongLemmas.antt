-- The blocks of a message with its padding.
use Rattle.std.proofs.Common.{◌≡◌, ℕ, zero, suc, ◌+◌, ◌*◌, ◌/◌, ◌-◌, ◌≤◌, List, length, take, drop, sym, ◌∙◌, ap, ap₂, arith, refl}
use Rattle.std.proofs.lemmas.List.{drop-take, take-take}
use Rattle.sha2.specs.Sha256.{compress, digest_bytes, hash_after, initial_hash_256, padded_message, sha256}

-- a block that lies within the first n octets
block_of_first : (n t : ℕ) (p : List ℕ) → t * 64 + 64 ≤ n → take 64 (drop (t * 64) (take n p)) ≡ take 64 (drop (t * 64) p)
block_of_first n t p within =
    let m = n - t * 64 in
    let split : n ≡ t * 64 + m = omega arith in
    ap (λ (k : ℕ). take 64 (drop (t * 64) (take k p))) split ∙ ap (take 64) (drop-take (t * 64) m p)
    ∙ take-take 64 m (drop (t * 64) p) (omega arith)

-- the blocks read are those of the first n octets
hash_of_first : (h p : List ℕ) (n t : ℕ) → 64 * t ≤ n → hash_after h (take n p) t ≡ hash_after h p t
unfolding hash_after
hash_of_first h p n zero le = refl
hash_of_first h p n (suc t) le = ap₂ compress (hash_of_first h p n t (omega arith)) (block_of_first n t p (omega arith))

-- after all blocks of a message with its padding
pub hashed_whole : (p m : List ℕ) (count : ℕ) → length (padded_message m) ≡ 64 * count → take (64 * count) p ≡ padded_message m
    → digest_bytes (hash_after initial_hash_256 p count) 8 ≡ sha256 m
unfolding sha256
hashed_whole p m count long is =
    let size : length (padded_message m) / 64 ≡ count = omega arith in
    ap (λ (h : List ℕ). digest_bytes h 8)
    (sym (hash_of_first initial_hash_256 p (64 * count) count (omega arith)) ∙ ap (λ (q : List ℕ). hash_after initial_hash_256 q count) is
    ∙ ap (hash_after initial_hash_256 (padded_message m)) (sym size))

-- one block more
pub hashed_more : (p h v : List ℕ) (t : ℕ) → h ≡ hash_after initial_hash_256 p t → v ≡ compress h (take 64 (drop (t * 64) p))
    → v ≡ hash_after initial_hash_256 p (t + 1)
unfolding hash_after
hashed_more p h v t before is =
    let next : t + 1 ≡ suc t = omega arith in
    is ∙ ap (λ (l : List ℕ). compress l (take 64 (drop (t * 64) p))) before ∙ ap (hash_after initial_hash_256 p) (sym next)

pub hashed_none : (p h : List ℕ) → h ≡ initial_hash_256 → h ≡ hash_after initial_hash_256 p 0
unfolding hash_after
hashed_none p h is = is
