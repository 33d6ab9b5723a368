use Rattle.std.proofs.Common.{ℕ, List, replicate, ◌++◌, ◌∙◌, ap₂, refl}
use Rattle.sha_lanes.proofs.Padded.{two_parts}
use Rattle.sha_lanes.proofs.blocks.padded.Goals as goal

pub returns : goal.returns
returns c =
    let first = c.copy_from_slice.ensures.after in
    two_parts 55 9 c.copy_from_slice.new.self (replicate 9 0) c.copy_from_slice-2.new.self c.copy_from_slice.ensures.len refl
    ∙ ap₂ (λ (a b : List ℕ). a ++ b) first c.copy_from_slice-2.ensures.after
