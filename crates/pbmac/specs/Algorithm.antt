-- AlgorithmIdentifier ::= SEQUENCE { algorithm OBJECT IDENTIFIER, parameters ANY OPTIONAL } (RFC 5280, 4.1.1.2).
use Rattle.std.specs.Prelude.{ℕ, ◌==◌, if◌then◌else◌, List, Option, None}
use Rattle.der_base.specs.Reading.{Part}
use Rattle.asn_types.specs.Algorithm.{algorithm_at}
pub use Rattle.asn_types.specs.Algorithm.{Algorithm, algorithm_of}

-- the algorithm inside the SEQUENCE
abbrev pub alg_inside : List ℕ → Option Algorithm
alg_inside content = algorithm_at content

-- the algorithm that an element is
unfoldable pub alg_at : Part → Option Algorithm
alg_at p = if p.tag == 0x30 then alg_inside p.content else None
