-- The hasher takes in the three parts in turn.
use Rattle.lm_ots.specs.Chains.{prefix}
use Rattle.lm_ots.proofs.message.opened.Goals as goal

pub returns : goal.returns
unfolding prefix
returns c =
    let held = c.update-3.ensures _ (c.update-2.ensures _ (c.update.ensures _ c.new-hasher.ensures)) in
    rw (c.to_be_bytes.ensures, c.to_be_bytes-2.ensures) at held
