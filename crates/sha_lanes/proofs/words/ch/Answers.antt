use Rattle.std.proofs.Common.{bit_and, bit_xor, map, refl}
use Rattle.std.specs.Int.{w32, bit_not}
use Rattle.std.specs.Simd.Lanes.{zip2}
use Rattle.sha2.specs.Sha256.{ch}
use Rattle.sha_lanes.proofs.LaneLemmas.{by_lanes3}
use Rattle.sha_lanes.proofs.words.ch.Goals as goal

pub returns : goal.returns
returns c = by_lanes3 (λ xs ys zs. zip2 bit_xor (zip2 bit_and xs ys) (zip2 bit_and (map (bit_not w32) xs) zs)) ch (λ p q r s t u v w k l m n. refl) c.args.x c.fits-x.0 c.args.y c.fits-y.0 c.args.z c.fits-z.0
