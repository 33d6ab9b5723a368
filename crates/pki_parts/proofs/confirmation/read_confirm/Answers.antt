-- by the law of lists
use Rattle.pki_parts.specs.Confirmation.{confirm_of}
use Rattle.pki_parts.proofs.ConfirmationLemmas.{cert_status_is_read}
use Rattle.pki_parts.proofs.ListLemmas.{list_found, list_only}
use Rattle.pki_parts.proofs.confirmation.read_confirm.Goals as goal

pub returns-clause-found : goal.returns-clause-found
returns-clause-found c = list_found cert_status_is_read confirm_of _ _ c.confirm_entries.ensures

pub returns-clause-only : goal.returns-clause-only
returns-clause-only c = list_only cert_status_is_read confirm_of _ _ c.confirm_entries.ensures
