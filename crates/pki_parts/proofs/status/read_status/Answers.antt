-- by the law of statuses
use Rattle.asn_types.proofs.ReadLemmas.{found_in, only_in}
use Rattle.pki_parts.specs.Status.{status_of}
use Rattle.pki_parts.proofs.StatusLemmas.{status_is_read}
use Rattle.pki_parts.proofs.status.read_status.Goals as goal

pub returns-clause-found : goal.returns-clause-found
returns-clause-found c = found_in status_is_read status_of c.status_element.result 0x30 c.args.e.now.tag c.args.e.now.content.now c.status_element.ensures

pub returns-clause-only : goal.returns-clause-only
returns-clause-only c = only_in status_is_read status_of c.status_element.result 0x30 c.args.e.now.tag c.args.e.now.content.now c.status_element.ensures
