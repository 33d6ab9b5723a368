-- Algorithm identifiers (RFC 5280, 4.1.1.2).
use Rattle.std.specs.Prelude.{ℕ, ◌^◌, ◌<◌, ◌++◌, IsTrue, List, [], ◌∷◌, length, Option, Some, None, unwrap_or}
use Rattle.std.specs.Option.{option_copied}
use Rattle.der_base.specs.Element.{element, IsElement}
use Rattle.der_base.specs.Reading.{whole_at}
use Rattle.der_base.specs.Values.{is_oid, oid_at}
use Rattle.asn_fields.specs.Fields.{◌>>=◌, ok_of, field_at}
use Rattle.asn_types.specs.declared.algorithm.AlgorithmId.{AlgorithmId}

-- an algorithm's object identifier, and its parameters as a whole element, where there are some
pub record Algorithm : Type 0 where
  pub oid : List ℕ
  pub params : Option (List ℕ)

-- Octets are one element of any form.
pub record IsAny (octets : List ℕ) : Type 0 where
  pub tag : ℕ
  pub content : List ℕ
  pub alone : IsElement octets tag content

abbrev pub IfAny : Option (List ℕ) → Type 0
IfAny None = Unit {0}
IfAny (Some octets) = IsAny octets

-- what stands in its SEQUENCE: an object identifier, and the parameters
abbrev pub algorithm_content : Algorithm → List ℕ
algorithm_content a = element 0x06 a.oid ++ unwrap_or a.params []

-- The parts have the forms of their types.
pub record FitsAlgorithm (a : Algorithm) : Type 0 where
  pub identifier : IsTrue (is_oid a.oid)
  pub counted : length a.oid < 2 ^ 32
  pub params : IfAny a.params

-- what an algorithm that was read shows
abbrev pub algorithm_of : AlgorithmId → Algorithm
algorithm_of a = record { oid = a.oid.now; params = option_copied a.params }

-- what is read: one element, where octets are left
unfoldable pub any_at : List ℕ → Option (Option (List ℕ))
any_at [] = Some None
any_at (b ∷ bytes) = do
  p ← ok_of (whole_at (b ∷ bytes))
  Some (Some p.whole)

-- what is read: an object identifier at the front, and what follows it
unfoldable pub oid_field_at : List ℕ → Option (List ℕ × List ℕ)
oid_field_at bytes = do
  f ← field_at 0x06 bytes
  oid ← ok_of (oid_at f.0)
  Some (oid, f.1)

unfoldable pub algorithm_at : List ℕ → Option Algorithm
algorithm_at content = do
  kind ← oid_field_at content
  params ← any_at kind.1
  Some (record { oid = kind.0; params = params })
