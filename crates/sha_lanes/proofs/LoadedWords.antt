-- The words of a lane, one more at a time.
use Rattle.std.proofs.Common.{◌≡◌, ℕ, zero, suc, take, drop, ◌++◌, ◌∷◌, refl, ap₂, add-zero, length-drop, ◌≤◌, ◌<◌, ◌+◌, ◌*◌, List, [], length, set, slice_index, ◌∙◌, ap, sym, arith, inl, inr, ext_get_or}
use Rattle.std.specs.Int.{w32, from_be_bytes, to_be_bytes}
use Rattle.std.proofs.Math.Seq.{take-add}
use Rattle.std.proofs.lemmas.Nat.{be_bytes_4}
use Rattle.std.proofs.lemmas.List.{get_or-set_same, get_or-set_other, get_or-take, get_or-drop, length-take-le}
use Rattle.std.proofs.lemmas.Bool.{cases_lt}
use Rattle.sha2.specs.Sha256.{digest_bytes, first_words, word_at}
use Rattle.sha2.proofs.Schedule256.{length-first_words, slice_index-first_words}
use Rattle.sha_lanes.specs.Lanes.{lane}
use Rattle.sha_lanes.proofs.LaneLemmas.{below_four}
use Rattle.sha_lanes.proofs.Lanes.{lane_set, lane_length}

four_small : (a b c d : ℕ) → a < 256 → b < 256 → c < 256 → d < 256 → (i : ℕ) → slice_index (a ∷ b ∷ c ∷ d ∷ []) i < 256
four_small a b c d ha hb hc hd zero = ha
four_small a b c d ha hb hc hd (suc zero) = hb
four_small a b c d ha hb hc hd (suc (suc zero)) = hc
four_small a b c d ha hb hc hd (suc (suc (suc zero))) = hd
four_small a b c d ha hb hc hd (suc (suc (suc (suc i)))) = omega arith

-- the first t words of a lane are those of b
abbrev pub Loaded : List (List ℕ) → ℕ → List ℕ → ℕ → Type 0
Loaded words i b t = (k : ℕ) → k < t → slice_index (lane i words) k ≡ word_at b (4 * k)

-- one word more
pub loaded_more : (words : List (List ℕ)) (v : List ℕ) (i t : ℕ) (b : List ℕ) → t < length words → slice_index v i ≡ word_at b (4 * t)
    → Loaded words i b t → Loaded (set words t v) i b (t + 1)
loaded_more words v i t b long is held k lt =
    let whole = lane_length i words in
    ap (λ (l : List ℕ). slice_index l k) (lane_set i t words v) ∙ elim (cases_lt k t) [
      | inl before ↦ get_or-set_other (lane i words) t k (slice_index v i) 0 (omega arith) ∙ held k before
      | inr last ↦
          let e : t ≡ k = omega arith in
          rw (← e) (get_or-set_same (lane i words) t (slice_index v i) 0 (omega arith) ∙ is)
    ]

-- all n words
pub loaded_whole : (words : List (List ℕ)) (i n : ℕ) (b : List ℕ) → length words ≡ n → Loaded words i b n → lane i words ≡ first_words b n
loaded_whole words i n b long held =
    let whole = lane_length i words in
    ext_get_or 0 (lane i words) (first_words b n) (omega (arith, length-first_words b n))
    (λ k lt. held k (omega arith) ∙ sym (slice_index-first_words b n k (omega arith)))

bytes_of_four : (a b c d : ℕ) → a < 256 → b < 256 → c < 256 → d < 256
    → to_be_bytes w32 (from_be_bytes w32 (a ∷ b ∷ c ∷ d ∷ [])) ≡ a ∷ b ∷ c ∷ d ∷ []
bytes_of_four a b c d ha hb hc hd = be_bytes_4 (a ∷ b ∷ c ∷ d ∷ []) _ refl (four_small a b c d ha hb hc hd) refl

-- four elements from place n on
four_from : (n : ℕ) (x : List ℕ) → n + 4 ≤ length x
    → slice_index x n ∷ slice_index x (n + 1) ∷ slice_index x (n + 2) ∷ slice_index x (n + 3) ∷ [] ≡ take 4 (drop n x)
four_from n x long =
    let four = take 4 (drop n x) in
    let size : length four ≡ 4 = length-take-le 4 (drop n x) (omega (arith, length-drop n x)) in
    let at : (k : ℕ) → k < 4 → slice_index four k ≡ slice_index x (n + k) =
    λ k lt. get_or-take 4 (drop n x) k 0 lt ∙ get_or-drop n x k 0 in
    ext_get_or 0 (slice_index x n ∷ slice_index x (n + 1) ∷ slice_index x (n + 2) ∷ slice_index x (n + 3) ∷ []) four (sym size)
    (below_four _ (sym (at 0 (omega arith) ∙ ap (slice_index x) (add-zero n))) (sym (at 1 (omega arith))) (sym (at 2 (omega arith))) (sym (at 3 (omega arith))))

-- the octets of the words of x are those of x
pub digest_first_words : (x : List ℕ) (m n : ℕ) → n ≤ m → 4 * n ≤ length x → ((k : ℕ) → slice_index x k < 256)
    → digest_bytes (first_words x m) n ≡ take (4 * n) x
unfolding digest_bytes
digest_first_words x m zero le long small = refl
digest_first_words x m (suc n) le long small =
    let before = digest_first_words x m n (omega arith) (omega arith) small in
    let a = 4 * n in
    let word = slice_index-first_words x m n (omega arith) in
    let four = ap (to_be_bytes w32) word ∙ bytes_of_four (slice_index x a) (slice_index x (a + 1)) (slice_index x (a + 2)) (slice_index x (a + 3)) (small a) (small (a + 1)) (small (a + 2)) (small (a + 3))
    ∙ four_from a x (omega arith) in
    let next : 4 * suc n ≡ a + 4 = omega arith in
    ap₂ (λ (p q : List ℕ). p ++ q) before four ∙ sym (take-add a 4 x) ∙ ap (λ (k : ℕ). take k x) (sym next)
