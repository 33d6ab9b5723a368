use Rattle.std.proofs.Common.{◌*◌, ◌%◌, ◌^◌, [], ◌∷◌, refl}
use Rattle.std.specs.Simd.Lanes.{zip2}
use Rattle.sha_lanes.proofs.LaneLemmas.{by_lanes}
use Rattle.sha_lanes.proofs.words.shift_left.Goals as goal

pub returns : goal.returns
returns c = by_lanes (λ xs. zip2 (λ a n. a * 2 ^ n % 2 ^ 32) xs (c.args.by ∷ c.args.by ∷ c.args.by ∷ c.args.by ∷ [])) (λ a. a * 2 ^ c.args.by % 2 ^ 32) (λ p q r s. refl) c.args.x c.fits-x.0
