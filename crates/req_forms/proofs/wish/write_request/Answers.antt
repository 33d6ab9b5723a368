-- what was written is read again
use Rattle.req_forms.proofs.WrittenLemmas.{request_result}
use Rattle.req_forms.proofs.wish.write_request.Goals as goal

pub returns-clause-again : goal.returns-clause-again
returns-clause-again c = request_result c.request_written.result c.args.wish.now c.requires c.request_written.ensures
