use Rattle.std.proofs.Common.{◌≡◌, ◌<◌, ℕ, List, [], ◌∷◌, ◌++◌, ◌*◌, slice_index, slice_index_or, ◌∙◌, ap, sym, arith, length-append}
use Rattle.sha2.specs.Sha256.{digest_bytes, word_at}
use Rattle.sha2.proofs.Schedule256.{slice_index-first_words}
use Rattle.sha_lanes.specs.Lanes.{lane}
use Rattle.sha_lanes.proofs.LaneLemmas.{lane_splat}
use Rattle.sha_lanes.proofs.Lanes.{lane_read}
use Rattle.sha_lanes.proofs.PartWords.{digest_length, front_last, joined_are}
use Rattle.sha_lanes.proofs.parts.part_words.Goals as goal

pub returns : goal.returns
returns c i p low is =
    let front = c.args.front.now in
    let value = c.args.value.now in
    let v = lane i value in
    let read : (t : ℕ) → t < 6 → slice_index (slice_index_or front t []) i ≡ word_at (p ++ 0 ∷ 0 ∷ []) (4 * t) =
    λ t lt. sym (lane_read i t front) ∙ ap (λ (l : List ℕ). slice_index l t) is.filled ∙ slice_index-first_words (p ++ 0 ∷ 0 ∷ []) 6 t lt in
    let last = sym (lane_read i 5 front) ∙ ap (λ (l : List ℕ). slice_index l 5) is.filled ∙ front_last p is.size in
    record {
      size = omega (arith, length-append p (c.args.place ∷ digest_bytes v 8), digest_length v, is.size);
      block = rw (
        read 0 (omega arith),
        read 1 (omega arith),
        read 2 (omega arith),
        read 3 (omega arith),
        read 4 (omega arith),
        c.with_place.ensures i (slice_index p 20) (slice_index p 21) low last,
        c.across.ensures i low,
        c.across-2.ensures i low,
        c.across-3.ensures i low,
        c.across-4.ensures i low,
        c.across-5.ensures i low,
        c.across-6.ensures i low,
        c.across-7.ensures i low,
        c.padded_word.ensures i low,
        lane_splat 0 i low,
        lane_splat 440 i low,
        ← lane_read i 0 value,
        ← lane_read i 1 value,
        ← lane_read i 2 value,
        ← lane_read i 3 value,
        ← lane_read i 4 value,
        ← lane_read i 5 value,
        ← lane_read i 6 value,
        ← lane_read i 7 value,
      ) (joined_are p c.args.place v is.size);
    }
