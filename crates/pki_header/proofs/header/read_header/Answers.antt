-- by the law of headers
use Rattle.pki_header.proofs.HeadLemmas.{head_found, head_reads}
use Rattle.pki_header.proofs.header.read_header.Goals as goal

pub returns-clause-found : goal.returns-clause-found
returns-clause-found c = head_found c.header_element.result c.args.e.now.tag c.args.e.now.content.now c.header_element.ensures.took

pub returns-clause-only : goal.returns-clause-only
returns-clause-only c = λ f t tag fits time spelled. c.header_element.ensures.only f t tag (head_reads c.args.e.now.content.now f fits spelled) time
