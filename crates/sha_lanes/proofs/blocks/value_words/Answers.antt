use Rattle.std.proofs.Common.{ℕ, List, ◌∙◌, ap}
use Rattle.sha2.specs.Sha256.{digest_bytes}
use Rattle.sha_lanes.proofs.LaneLemmas.{below_four}
use Rattle.sha_lanes.proofs.blocks.value_words.Goals as goal

pub returns : goal.returns
returns c =
    let octets = λ (h : List ℕ). digest_bytes h 8 in
    let sides = c.side_by_side.ensures in
    below_four _ (ap octets sides.first ∙ c.words_of.ensures) (ap octets sides.second ∙ c.words_of-2.ensures)
    (ap octets sides.third ∙ c.words_of-3.ensures) (ap octets sides.fourth ∙ c.words_of-4.ensures)
