-- A message of 55 octets and its padding are one block.
use Rattle.std.proofs.Common.{◌≡◌, ◌++◌, length, refl, arith, length-append}
use Rattle.std.proofs.lemmas.List.{take_all}
use Rattle.sha2.specs.Sha256.{sha256, hash_after, padding}
use Rattle.sha_lanes.specs.Blocks.{OneBlock}

pub one_block : OneBlock
unfolding sha256 hash_after
one_block m h =
    let tail : length (padding 55) ≡ 9 = refl in
    let size : length (m ++ padding 55) ≡ 64 = omega (arith, length-append m (padding 55)) in
    rw (h, size, take_all 64 (m ++ padding 55) (omega arith)) refl
