-- The words of a message in three parts.
use Rattle.std.proofs.Common.{◌≡◌, ℕ, ◌<◌, ◌*◌, ◌/◌, ◌%◌, ◌^◌, List, [], ◌∷◌, ◌++◌, length, take, drop, slice_index, ap, refl, sym, ◌∙◌, subst, arith}
use Rattle.std.proofs.Common.{Fits, Bool, true, false, bit_and, bit_or, ◌-◌}
use Rattle.std.specs.Prelude.{if◌then◌else◌}
use Rattle.std.specs.Int.Bits.{and_zero_r, or_zero_l, or_zero_r}
use Rattle.std.proofs.lemmas.Grind.{and_numeral}
use Rattle.sha_lanes.specs.Blocks.{IsFrontOf}
use Rattle.sha_lanes.proofs.Lanes.{listed, listed_is}
use Rattle.std.proofs.lemmas.Simd.{Each1-get_or}
use lib.Lanes.{Each1}
use Rattle.std.specs.Int.{w32, bit_not, from_be_bytes, to_be_bytes}
use Rattle.sha2.specs.Sha256.{add32, digest_bytes, first_words, padding, word_at}

-- a lane is a word of 32 bits
pub lane_fits : (x : List ℕ) (i : ℕ) → i < 4 → length x ≡ 4 → Each1 (Fits w32) x → slice_index x i < 2 ^ 32
lane_fits x i low size fits = (Each1-get_or (Fits w32) x i 0 (omega arith) fits).fits

pub across_octets : (x y : ℕ) → x < 2 ^ 32 → y < 2 ^ 32
    → add32 (x * 2 ^ 8 % 2 ^ 32) (y / 2 ^ 24) ≡ from_be_bytes w32 (drop 1 (to_be_bytes w32 x) ++ take 1 (to_be_bytes w32 y))
across_octets x y hx hy = omega arith

pub padded_octets : (x : ℕ) → x < 2 ^ 32 → add32 (x * 2 ^ 8 % 2 ^ 32) 0x80 ≡ from_be_bytes w32 (drop 1 (to_be_bytes w32 x) ++ 0x80 ∷ [])
padded_octets x hx = omega arith

pub placed_octets : (f p q j x : ℕ) → f < 2 ^ 32 → j < 2 ^ 8 → x < 2 ^ 32 → f ≡ from_be_bytes w32 (p ∷ q ∷ 0 ∷ 0 ∷ [])
    → add32 (add32 f (j * 256 % 4294967296)) (x / 2 ^ 24) ≡ from_be_bytes w32 (p ∷ q ∷ j ∷ take 1 (to_be_bytes w32 x))
placed_octets f p q j x hf hj hx is = omega arith

-- the words of a message, from those of its front and of its value
abbrev pub joined_words : List ℕ → ℕ → List ℕ → List ℕ
joined_words p j v =
    word_at (p ++ 0 ∷ 0 ∷ []) 0 ∷ word_at (p ++ 0 ∷ 0 ∷ []) 4 ∷ word_at (p ++ 0 ∷ 0 ∷ []) 8 ∷ word_at (p ++ 0 ∷ 0 ∷ []) 12 ∷ word_at (p ++ 0 ∷ 0 ∷ []) 16
    ∷ from_be_bytes w32 (slice_index p 20 ∷ slice_index p 21 ∷ j ∷ take 1 (to_be_bytes w32 (slice_index v 0)))
    ∷ from_be_bytes w32 (drop 1 (to_be_bytes w32 (slice_index v 0)) ++ take 1 (to_be_bytes w32 (slice_index v 1)))
    ∷ from_be_bytes w32 (drop 1 (to_be_bytes w32 (slice_index v 1)) ++ take 1 (to_be_bytes w32 (slice_index v 2)))
    ∷ from_be_bytes w32 (drop 1 (to_be_bytes w32 (slice_index v 2)) ++ take 1 (to_be_bytes w32 (slice_index v 3)))
    ∷ from_be_bytes w32 (drop 1 (to_be_bytes w32 (slice_index v 3)) ++ take 1 (to_be_bytes w32 (slice_index v 4)))
    ∷ from_be_bytes w32 (drop 1 (to_be_bytes w32 (slice_index v 4)) ++ take 1 (to_be_bytes w32 (slice_index v 5)))
    ∷ from_be_bytes w32 (drop 1 (to_be_bytes w32 (slice_index v 5)) ++ take 1 (to_be_bytes w32 (slice_index v 6)))
    ∷ from_be_bytes w32 (drop 1 (to_be_bytes w32 (slice_index v 6)) ++ take 1 (to_be_bytes w32 (slice_index v 7)))
    ∷ from_be_bytes w32 (drop 1 (to_be_bytes w32 (slice_index v 7)) ++ 0x80 ∷ [])
    ∷ 0 ∷ 440 ∷ []

joined_listed : (pf : ℕ → ℕ) (j : ℕ) (v : List ℕ)
    → joined_words (listed pf 22) j v ≡ first_words ((listed pf 22 ++ j ∷ digest_bytes v 8) ++ padding 55) 16
unfolding first_words digest_bytes
joined_listed pf j v = refl

pub joined_are : (p : List ℕ) (j : ℕ) (v : List ℕ) → length p ≡ 22
    → joined_words p j v ≡ first_words ((p ++ j ∷ digest_bytes v 8) ++ padding 55) 16
joined_are p j v h =
    subst (λ (l : List ℕ). joined_words l j v ≡ first_words ((l ++ j ∷ digest_bytes v 8) ++ padding 55) 16) (listed_is 22 p h) (joined_listed (slice_index p) j v)

-- the last word of a front and its two zeros
front_listed : (pf : ℕ → ℕ) → slice_index (first_words (listed pf 22 ++ 0 ∷ 0 ∷ []) 6) 5 ≡ from_be_bytes w32 (pf 20 ∷ pf 21 ∷ 0 ∷ 0 ∷ [])
unfolding first_words
front_listed pf = refl

pub front_last : (p : List ℕ) → length p ≡ 22
    → slice_index (first_words (p ++ 0 ∷ 0 ∷ []) 6) 5 ≡ from_be_bytes w32 (slice_index p 20 ∷ slice_index p 21 ∷ 0 ∷ 0 ∷ [])
front_last p h =
    ap (λ (l : List ℕ). slice_index (first_words (l ++ 0 ∷ 0 ∷ []) 6) 5) (sym (listed_is 22 p h)) ∙ front_listed (slice_index p)

-- a front with what fills it up
pub is_front : (p o : List ℕ) (a b c d e f : ℕ) → length p ≡ 22 → o ≡ p ++ 0 ∷ 0 ∷ []
    → a ≡ word_at o 0 → b ≡ word_at o 4 → c ≡ word_at o 8 → d ≡ word_at o 12 → e ≡ word_at o 16 → f ≡ word_at o 20
    → IsFrontOf p (a ∷ b ∷ c ∷ d ∷ e ∷ f ∷ [])
unfolding first_words
is_front p o a b c d e f size is ha hb hc hd he hf = record { size = size; filled = rw (ha, hb, hc, hd, he, hf, is) refl }

-- 8 words have 32 octets
pub digest_length : (h : List ℕ) → length (digest_bytes h 8) ≡ 32
unfolding digest_bytes
digest_length h = refl

-- a mask of ones takes the new word, one of zeros keeps the old
pub takes_new : (n o : ℕ) → n < 2 ^ 32 → bit_or (bit_and n (2 ^ 32 - 1)) (bit_and o (bit_not w32 (2 ^ 32 - 1))) ≡ n
takes_new n o fits =
    let low : n % 4294967296 ≡ n = omega arith in
    rw (and_numeral n 4294967294 refl, and_zero_r o, or_zero_r) low

pub keeps_old : (n o : ℕ) → o < 2 ^ 32 → bit_or (bit_and n 0) (bit_and o (bit_not w32 0)) ≡ o
keeps_old n o fits =
    let low : o % 4294967296 ≡ o = omega arith in
    rw (and_numeral o 4294967294 refl, and_zero_r n, or_zero_l) low

pub chosen_all : (b : Bool) (m : ℕ) (result new old : List ℕ) → m ≡ (if b then 2 ^ 32 - 1 else 0)
    → (m ≡ 2 ^ 32 - 1 → result ≡ new) → (m ≡ 0 → result ≡ old) → result ≡ (if b then new else old)
chosen_all true m result new old is is_new is_old = is_new is
chosen_all false m result new old is is_new is_old = is_old is
