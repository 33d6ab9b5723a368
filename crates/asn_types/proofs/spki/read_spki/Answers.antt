-- by the law of keys
use Rattle.asn_types.specs.Key.{key_of}
use Rattle.asn_types.proofs.KeyLemmas.{key_is_read}
use Rattle.asn_types.proofs.ReadLemmas.{found_by, only_by}
use Rattle.asn_types.proofs.spki.read_spki.Goals as goal

pub returns-clause-found : goal.returns-clause-found
returns-clause-found c = found_by key_is_read key_of c.key_inside.result c.args.«content».now c.key_inside.ensures.exact

pub returns-clause-only : goal.returns-clause-only
returns-clause-only c = only_by key_is_read key_of c.key_inside.result c.args.«content».now c.key_inside.ensures.exact
