-- by the law of extensions
use Rattle.asn_types.specs.Extension.{extension_of}
use Rattle.asn_types.proofs.ExtensionLemmas.{extension_is_read}
use Rattle.asn_types.proofs.ReadLemmas.{found_in, only_in}
use Rattle.asn_types.proofs.extension.read_extension.Goals as goal

pub returns-clause-found : goal.returns-clause-found
returns-clause-found c = found_in extension_is_read extension_of c.extension_element.result 48 c.args.e.now.tag c.args.e.now.content.now c.extension_element.ensures.exact

pub returns-clause-only : goal.returns-clause-only
returns-clause-only c = only_in extension_is_read extension_of c.extension_element.result 48 c.args.e.now.tag c.args.e.now.content.now c.extension_element.ensures.exact
