use Rattle.std.proofs.Common.{List, ℕ, ◌++◌, ap, sym, ◌∙◌}
use Rattle.sha2.specs.Sha256.{compress, digest_bytes, padding}
use Rattle.sha_lanes.proofs.OneBlock.{one_block}
use Rattle.sha_lanes.proofs.blocks.digest_blocks.Goals as goal

pub returns : goal.returns
returns c = λ i m low is.
    ap (λ (h : List ℕ). digest_bytes h 8) (c.compress4.ensures i (m ++ padding 55) low is.block
    ∙ ap (λ (h : List ℕ). compress h (m ++ padding 55)) (c.initial_hash.ensures i low))
    ∙ sym (one_block m is.size)
