use Rattle.std.proofs.Common.{◌∙◌, arith}
use Rattle.std.proofs.lemmas.List.{take_all}
use Rattle.sha2.specs.Sha256.{first_words}
use Rattle.sha_lanes.proofs.LoadedWords.{digest_first_words}
use Rattle.sha_lanes.proofs.blocks.words_of.Goals as goal

pub returns : goal.returns
unfolding first_words
returns c =
    rw (c.word.ensures, c.word-2.ensures, c.word-3.ensures, c.word-4.ensures, c.word-5.ensures, c.word-6.ensures, c.word-7.ensures, c.word-8.ensures)
    (digest_first_words c.args.value.now 8 8 (omega arith) (omega arith) c.fits-value ∙ take_all 32 c.args.value.now (omega arith))
