-- what was written is read again
use Rattle.req_forms.proofs.WrittenLemmas.{around_result}
use Rattle.req_forms.proofs.wish.write_around.Goals as goal

pub returns-clause-again : goal.returns-clause-again
returns-clause-again c = around_result c.around_written.result c.args.request.now c.args.proof.now c.requires c.around_written.ensures
