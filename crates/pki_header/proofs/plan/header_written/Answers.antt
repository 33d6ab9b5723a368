-- the fields fit their length
use Rattle.std.proofs.Common.{ℕ, ◌^◌, ◌<◌, length, arith}
use Rattle.pki_header.proofs.PlanLemmas.{fields_counted}
use Rattle.pki_header.proofs.plan.header_written.Goals as goal

pub wrap-requires-clause-counted : goal.wrap-requires-clause-counted
wrap-requires-clause-counted c =
    let h : length c.put_fields.new.writer < 2 ^ 32 = fields_counted c.args.plan.now c.in_ok-text.text c.new-writer.result c.put_fields.new.writer c.new-writer.ensures c.in_ok-put_fields.ensures c.in_ok-text.ensures.short c.requires.counted in
    omega (arith, h)
