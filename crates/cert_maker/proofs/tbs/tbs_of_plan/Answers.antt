-- by the function that its octets are, and by their length
use Rattle.std.proofs.lemmas.Result.{IfOk-weaker}
use Rattle.cert_maker.proofs.MomentLemmas.{planned_octets}
use Rattle.cert_maker.proofs.SizeLemmas.{plan_short}
use Rattle.cert_maker.proofs.tbs.tbs_of_plan.Goals as goal

pub returns-clause-written : goal.returns-clause-written
returns-clause-written c = IfOk-weaker c.write_tbs.result _ _ (λ octets h. planned_octets c.args.plan.now octets h) c.write_tbs.ensures

pub returns-clause-short : goal.returns-clause-short
returns-clause-short c = IfOk-weaker c.write_tbs.result _ _ (λ octets h. plan_short c.args.plan.now octets h) c.write_tbs.ensures
