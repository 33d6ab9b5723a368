-- What is not written over stands, and is zeros.
use Rattle.std.proofs.lemmas.List.{drop-replicate}
use Rattle.hash_kit.proofs.keyed.filled.Goals as goal

pub returns : goal.returns
returns c = simp (c.copy_from_slice.ensures.after, drop-replicate)
