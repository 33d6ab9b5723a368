use Rattle.std.proofs.Common.{bit_and, bit_xor, slice_index, refl, ◌∙◌}
use Rattle.std.specs.Simd.Lanes.{zip2}
use Rattle.sha_lanes.proofs.MajLemmas.{maj_short}
use Rattle.sha_lanes.proofs.LaneLemmas.{by_lanes3}
use Rattle.sha_lanes.proofs.words.maj.Goals as goal

pub returns : goal.returns
returns c i h =
    by_lanes3 (λ xs ys zs. zip2 bit_xor ys (zip2 bit_and (zip2 bit_xor xs ys) (zip2 bit_xor ys zs)))
    (λ x y z. bit_xor y (bit_and (bit_xor x y) (bit_xor y z))) (λ p q r s t u v w k l m n. refl)
    c.args.x c.fits-x.0 c.args.y c.fits-y.0 c.args.z c.fits-z.0 i h ∙ maj_short (slice_index c.args.x i) (slice_index c.args.y i) (slice_index c.args.z i)
