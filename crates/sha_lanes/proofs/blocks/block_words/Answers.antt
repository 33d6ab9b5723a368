use Rattle.std.proofs.Common.{◌≡◌, [], slice_index_or, ◌∙◌, arith}
use Rattle.sha_lanes.proofs.LoadedWords.{loaded_more, loaded_whole}
use Rattle.std.proofs.Math.ListN.{length-set}
use Rattle.sha_lanes.proofs.blocks.block_words.Goals as goal

pub words-preserved : goal.words-preserved
words-preserved c = (
  length-set _ _ _ ∙ c.words.invariant.0,
  λ i low. loaded_more c.words.words c.words_at.result i c.words.t (slice_index_or c.args.blocks.now i []) (omega arith) (c.words_at.ensures i low) (c.words.invariant.1 i low),
)

pub returns : goal.returns
returns c = λ i low.
    let done : c.words.t ≡ 16 = omega arith in
    loaded_whole c.words.words i 16 (slice_index_or c.args.blocks.now i []) c.words.invariant.0 (rw done at (c.words.invariant.1 i low))
