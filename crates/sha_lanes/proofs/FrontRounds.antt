-- The first five rounds of a message take the words of its front alone.
use Rattle.std.proofs.Common.{◌≡◌, ℕ, zero, suc, ◌+◌, ◌*◌, ◌≤◌, List, [], ◌∷◌, ◌++◌, length, slice_index, refl, sym, ◌∙◌, ap, ap₂, arith}
use Rattle.std.proofs.lemmas.List.{get_or_append_left}
use Rattle.sha2.specs.Sha256.{round, round_constants, rounds, schedule, word_at}
use Rattle.sha2.proofs.Schedule256.{slice_index-first_words, slice_index-schedule_first}
use Rattle.sha_lanes.specs.Blocks.{IsFrontOf}

-- a word of the front
front_word : (p x : List ℕ) (n : ℕ) → 4 * n + 4 ≤ length p → word_at (p ++ x) (4 * n) ≡ word_at p (4 * n)
front_word p x n within =
    rw (
      get_or_append_left p x 0 (4 * n) (omega arith),
      get_or_append_left p x 0 (4 * n + 1) (omega arith),
      get_or_append_left p x 0 (4 * n + 2) (omega arith),
      get_or_append_left p x 0 (4 * n + 3) (omega arith),
    ) refl

-- so many rounds
pub front_rounds : (h p words x : List ℕ) (n : ℕ) → IsFrontOf p words → n ≤ 5 → rounds h words n ≡ rounds h (schedule (p ++ x) 48) n
unfolding rounds
front_rounds h p words x zero is few = refl
front_rounds h p words x (suc n) is few =
    let size = is.size in
    let one : slice_index words n ≡ word_at (p ++ 0 ∷ 0 ∷ []) (4 * n) =
    ap (λ (l : List ℕ). slice_index l n) is.filled ∙ slice_index-first_words (p ++ 0 ∷ 0 ∷ []) 6 n (omega arith) in
    let same : slice_index words n ≡ slice_index (schedule (p ++ x) 48) n =
    one ∙ front_word p (0 ∷ 0 ∷ []) n (omega arith) ∙ sym (front_word p x n (omega arith)) ∙ sym (slice_index-schedule_first (p ++ x) 48 n (omega arith)) in
    ap₂ (λ (v : List ℕ) (w : ℕ). round v (slice_index round_constants n) w) (front_rounds h p words x n is (omega arith)) same

-- one round more
pub rounds_more : (h w v next : List ℕ) (t k x : ℕ) → v ≡ rounds h w t → k ≡ slice_index round_constants t → x ≡ slice_index w t
    → next ≡ round v k x → next ≡ rounds h w (suc t)
unfolding rounds
rounds_more h w v next t k x held constant word is =
    is ∙ ap (λ (u : List ℕ). round u k x) held ∙ ap₂ (λ (a b : ℕ). round (rounds h w t) a b) constant word

pub rounds_none : (h w : List ℕ) → h ≡ rounds h w 0
unfolding rounds
rounds_none h w = refl
