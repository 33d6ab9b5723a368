-- the test tells the general name
use Rattle.der_base.specs.Reading.{part_of}
use Rattle.der_base.proofs.ReaderLemmas.{chain}
use Rattle.asn_types.proofs.GeneralLemmas.{general_test}
use Rattle.asn_types.proofs.general.read_general.Goals as goal

pub returns-clause-reads : goal.returns-clause-reads
returns-clause-reads c = chain c.general_element.ensures.exact (general_test (part_of c.args.e.now))
