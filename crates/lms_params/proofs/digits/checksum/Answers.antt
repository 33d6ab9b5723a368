-- Each term is at most the greatest digit, so that the sum has 16 bits.
use Rattle.std.proofs.Common.{◌≡◌, ℕ, ◌-◌, ◌*◌, ◌/◌, ◌^◌, arith, ap, ◌∙◌}
use Rattle.lms_params.specs.Digits.{coef_of, checksum_of, sum_below}
use Rattle.lms_params.proofs.Sums.{greatest, sum_fits}
use Rattle.lms_params.proofs.digits.checksum.Goals as goal

pub overflow_add-sum : goal.overflow_add-sum
overflow_add-sum c =
    let f : ℕ → ℕ = λ i. 2 ^ c.args.w - 1 - coef_of c.args.q.now i c.args.w in
    let small = sum_fits f c.args.w c.args.ls c.loop-i.i c.requires (λ i. omega arith) (omega arith) in
    let most = greatest c.args.w c.args.ls c.requires in
    let next = sum_fits (λ i. 2 ^ c.args.w - 1) c.args.w c.args.ls 1 c.requires (λ i. omega arith) (omega arith) in
    omega (arith, small.0, next.0, most, c.loop-i.invariant)

pub overflow_cast-result : goal.overflow_cast-result
overflow_cast-result c =
    let f : ℕ → ℕ = λ i. 2 ^ c.args.w - 1 - coef_of c.args.q.now i c.args.w in
    let small = sum_fits f c.args.w c.args.ls c.loop-i.i c.requires (λ i. omega arith) c.loop-i.auto.i-end in
    omega (arith, ap (λ n. n * 2 ^ c.args.ls) c.loop-i.invariant, small.1)

pub returns : goal.returns
unfolding checksum_of
returns c =
    let f : ℕ → ℕ = λ i. 2 ^ c.args.w - 1 - coef_of c.args.q.now i c.args.w in
    let small = sum_fits f c.args.w c.args.ls c.loop-i.i c.requires (λ i. omega arith) c.loop-i.auto.i-end in
    let whole : c.loop-i.i ≡ 256 / c.args.w = omega arith in
    let shifted = ap (λ n. n * 2 ^ c.args.ls) (c.loop-i.invariant ∙ ap (sum_below f) whole) in
    let same = ap (λ n. n * 2 ^ c.args.ls) c.loop-i.invariant in
    omega (arith, shifted, same, small.1)
