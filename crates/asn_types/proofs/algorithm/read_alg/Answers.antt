-- by the law of algorithms
use Rattle.asn_types.specs.Algorithm.{algorithm_of}
use Rattle.asn_types.proofs.AlgorithmLemmas.{algorithm_is_read}
use Rattle.asn_types.proofs.ReadLemmas.{found_in, only_in}
use Rattle.asn_types.proofs.algorithm.read_alg.Goals as goal

pub returns-clause-found : goal.returns-clause-found
returns-clause-found c = found_in algorithm_is_read algorithm_of c.algorithm_element.result 48 c.args.e.now.tag c.args.e.now.content.now c.algorithm_element.ensures

pub returns-clause-only : goal.returns-clause-only
returns-clause-only c = only_in algorithm_is_read algorithm_of c.algorithm_element.result 48 c.args.e.now.tag c.args.e.now.content.now c.algorithm_element.ensures
