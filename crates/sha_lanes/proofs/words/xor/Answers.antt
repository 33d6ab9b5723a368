use Rattle.std.proofs.Common.{bit_xor, refl}
use Rattle.std.specs.Simd.Lanes.{zip2}
use Rattle.sha_lanes.proofs.LaneLemmas.{by_lanes3}
use Rattle.sha_lanes.proofs.words.xor.Goals as goal

pub returns : goal.returns
returns c = by_lanes3 (λ xs ys zs. zip2 bit_xor xs ys) (λ x y z. bit_xor x y) (λ p q r s t u v w k l m n. refl) c.args.x c.fits-x.0 c.args.y c.fits-y.0 c.args.x c.fits-x.0
