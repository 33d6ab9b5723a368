-- what was written is read again
use Rattle.req_forms.proofs.WrittenLemmas.{crmf_result}
use Rattle.req_forms.proofs.wish.write_crmf.Goals as goal

pub returns-clause-again : goal.returns-clause-again
returns-clause-again c = crmf_result c.crmf_written.result c.args.wish.now c.requires c.crmf_written.ensures
