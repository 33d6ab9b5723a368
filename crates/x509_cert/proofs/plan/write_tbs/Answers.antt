-- the signed part fits its length
use Rattle.std.proofs.Common.{◌^◌, ◌<◌, length, arith}
use Rattle.x509_cert.proofs.PlanLemmas.{fields_counted}
use Rattle.x509_cert.proofs.plan.write_tbs.Goals as goal

pub wrap-requires-clause-counted : goal.wrap-requires-clause-counted
wrap-requires-clause-counted c =
    let h : length c.put_fields.new.writer < 2 ^ 32 = fields_counted c.args.plan.now c.new-writer.result c.put_fields.new.writer c.in_ok-dates.dates c.as_slice.result.now c.new-writer.ensures c.in_ok-put_fields.ensures c.as_slice.ensures c.in_ok-dates.ensures.short c.requires.counted in
    omega (arith, h)
