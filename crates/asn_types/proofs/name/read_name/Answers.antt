-- the test tells the name
use Rattle.der_base.specs.Reading.{part_of}
use Rattle.der_base.proofs.ReaderLemmas.{chain}
use Rattle.asn_types.proofs.NameLemmas.{name_test}
use Rattle.asn_types.proofs.name.read_name.Goals as goal

pub returns-clause-reads : goal.returns-clause-reads
returns-clause-reads c = chain c.name_element.ensures.exact (name_test (part_of c.args.e.now))
