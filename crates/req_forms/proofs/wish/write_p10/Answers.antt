-- what was written is read again
use Rattle.req_forms.proofs.WrittenP10Lemmas.{p10_result}
use Rattle.req_forms.proofs.wish.write_p10.Goals as goal

pub returns-clause-again : goal.returns-clause-again
returns-clause-again c = p10_result c.p10_written.result c.args.info.now c.args.sig.now c.requires c.p10_written.ensures
