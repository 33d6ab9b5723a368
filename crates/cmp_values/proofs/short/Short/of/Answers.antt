use Rattle.cmp_values.proofs.ShortLemmas.{filled_copy}
use Rattle.cmp_values.proofs.short.Short.of.Goals as goal

-- src/short.rt:55:9
pub invariant_of-result : goal.invariant_of-result
invariant_of-result c =
    filled_copy c.copy_from_slice.new.self c.args.bytes.now c.copy_from_slice.ensures.after c.if-bytes-gt-SHORT_LIMIT.false
