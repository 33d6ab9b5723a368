use Rattle.std.proofs.Common.{ℕ, bit_and, bit_or, map, slice_index, ◌∙◌, ap, refl}
use Rattle.std.specs.Int.{w32, bit_not}
use Rattle.std.specs.Simd.Lanes.{zip2}
use Rattle.sha_lanes.proofs.LaneLemmas.{by_lanes3}
use Rattle.sha_lanes.proofs.PartWords.{keeps_old, lane_fits, takes_new}
use Rattle.sha_lanes.proofs.parts.chosen.Goals as goal

pub returns-clause-new : goal.returns-clause-new
returns-clause-new c i low is =
    let n = slice_index c.args.new i in
    let o = slice_index c.args.old i in
    by_lanes3 (λ ms ns os. zip2 bit_or (zip2 bit_and ns ms) (zip2 bit_and os (map (bit_not w32) ms)))
    (λ m x y. bit_or (bit_and x m) (bit_and y (bit_not w32 m))) (λ p q r s t u v w k l m n. refl)
    c.args.mask c.fits-mask.0 c.args.new c.fits-new.0 c.args.old c.fits-old.0 i low
    ∙ ap (λ (m : ℕ). bit_or (bit_and n m) (bit_and o (bit_not w32 m))) is ∙ takes_new n o (lane_fits c.args.new i low c.fits-new.0 c.fits-new.1)

pub returns-clause-old : goal.returns-clause-old
returns-clause-old c i low is =
    let n = slice_index c.args.new i in
    let o = slice_index c.args.old i in
    by_lanes3 (λ ms ns os. zip2 bit_or (zip2 bit_and ns ms) (zip2 bit_and os (map (bit_not w32) ms)))
    (λ m x y. bit_or (bit_and x m) (bit_and y (bit_not w32 m))) (λ p q r s t u v w k l m n. refl)
    c.args.mask c.fits-mask.0 c.args.new c.fits-new.0 c.args.old c.fits-old.0 i low
    ∙ ap (λ (m : ℕ). bit_or (bit_and n m) (bit_and o (bit_not w32 m))) is ∙ keeps_old n o (lane_fits c.args.old i low c.fits-old.0 c.fits-old.1)
