-- by the law of error messages
use Rattle.asn_types.proofs.ReadLemmas.{found_in, only_in}
use Rattle.pki_parts.specs.Error.{error_of}
use Rattle.pki_parts.proofs.ErrorLemmas.{error_is_read}
use Rattle.pki_parts.proofs.error.read_error.Goals as goal

pub returns-clause-found : goal.returns-clause-found
returns-clause-found c = found_in error_is_read error_of c.error_element.result 0x30 c.args.e.now.tag c.args.e.now.content.now c.error_element.ensures

pub returns-clause-only : goal.returns-clause-only
returns-clause-only c = only_in error_is_read error_of c.error_element.result 0x30 c.args.e.now.tag c.args.e.now.content.now c.error_element.ensures
