-- what was written is read again
use Rattle.req_forms.proofs.WrittenP10Lemmas.{info_result}
use Rattle.req_forms.proofs.wish.write_p10_info.Goals as goal

pub returns-clause-again : goal.returns-clause-again
returns-clause-again c = info_result c.info_written.result c.args.wish.now c.requires c.info_written.ensures
