use Rattle.std.proofs.Common.{List, ℕ, ◌≡◌, ◌∷◌, ◌++◌, ap, sym, ◌∙◌, arith, append_assoc}
use Rattle.sha2.specs.Sha256.{compress, digest_bytes, initial_hash_256, padding, rounds, schedule}
use Rattle.sha_lanes.specs.Lanes.{lane}
use Rattle.sha_lanes.proofs.FrontRounds.{front_rounds}
use Rattle.sha_lanes.proofs.OneBlock.{one_block}
use Rattle.sha_lanes.proofs.parts.digest_parts.Goals as goal

pub returns : goal.returns
returns c = λ i p low is.
    let rest = c.args.place ∷ digest_bytes (lane i c.args.value.now) 8 in
    let m = p ++ rest in
    let b = m ++ padding 55 in
    let block = c.part_words.ensures i p low is.is_front in
    let initial = c.initial_hash.ensures i low in
    let started : lane i c.args.started.now ≡ rounds initial_hash_256 (schedule b 48) 5 =
    is.begun ∙ front_rounds initial_hash_256 p (lane i c.args.front.now) (rest ++ padding 55) 5 is.is_front (omega arith)
    ∙ ap (λ (l : List ℕ). rounds initial_hash_256 (schedule l 48) 5) (sym (append_assoc p rest (padding 55))) in
    ap (λ (h : List ℕ). digest_bytes h 8)
    (c.compress_rest.ensures i b low block.block (started ∙ ap (λ (h : List ℕ). rounds h (schedule b 48) 5) (sym initial))
    ∙ ap (λ (h : List ℕ). compress h b) initial)
    ∙ sym (one_block m block.size)
