-- what was written is read again
use Rattle.std.proofs.Common.{rules}
use Rattle.pki_parts.specs.Confirmation.{confirm_octets}
use Rattle.pki_parts.proofs.ConfirmationLemmas.{confirm_result, confirm_total}
use Rattle.pki_parts.proofs.ListLemmas.{written_size}
use Rattle.pki_parts.proofs.confirmation.write_confirm.Goals as goal

pub returns-clause-written : goal.returns-clause-written
returns-clause-written c = search rules

pub returns-clause-again : goal.returns-clause-again
returns-clause-again c = confirm_result c.confirm_written.result c.args.hash.now c.args.id c.args.status c.confirm_written.ensures.octet c.requires (returns-clause-written c)

pub returns-clause-size : goal.returns-clause-size
returns-clause-size c = written_size c.confirm_written.result (confirm_octets c.args.hash.now c.args.id c.args.status) _ (confirm_total c.args.hash.now c.args.id c.args.status) (returns-clause-written c)
