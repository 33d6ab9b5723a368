use Rattle.std.proofs.Common.{refl}
use Rattle.deal_changes.specs.Spelling.{u32}
use Rattle.registry.proofs.settings.blank_key.Goals as goal

pub returns : goal.returns
unfolding u32
returns c = rw (c.copy_from_slice.ensures.after, c.copy_from_slice-2.ensures.after, c.copy_from_slice-3.ensures.after, c.to_be_bytes.ensures, c.to_be_bytes-2.ensures, c.to_be_bytes-3.ensures) refl
