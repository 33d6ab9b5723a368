-- the test tells the row
use Rattle.der_base.proofs.ReaderLemmas.{chain}
use Rattle.asn_types.proofs.ExtensionLemmas.{extensions_test}
use Rattle.asn_types.proofs.extension.read_extensions.Goals as goal

pub returns-clause-reads : goal.returns-clause-reads
returns-clause-reads c = chain c.extensions_inside.ensures.exact (extensions_test c.args.«content».now)
