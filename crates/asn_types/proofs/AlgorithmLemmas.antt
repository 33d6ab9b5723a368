-- Algorithms are read exactly where they are spelled.
use Rattle.std.proofs.Common.{◌≡◌, ℕ, ◌^◌, ◌<◌, List, [], length, Option, Some, IsTrue, refl, ap, subst}
use Rattle.std.specs.Prelude.{unwrap_or}
use Rattle.der_base.specs.Values.{is_oid}
use Rattle.asn_fields.specs.Forms.{IsRead}
use Rattle.asn_fields.proofs.FieldLemmas.{bound, some_same}
use Rattle.asn_types.specs.Algorithm.{Algorithm, FitsAlgorithm, IfAny, algorithm_content, algorithm_at, any_at, oid_field_at}
use Rattle.asn_types.proofs.ValueLemmas.{IsOidFront, oid_field_takes, oid_field_again, any_takes, any_again}

algorithm_made : (content : List ℕ) (a : Algorithm) (oid rest : List ℕ) (o : Option (List ℕ)) → IsOidFront content oid rest → IfAny o → rest ≡ unwrap_or o [] → oid ≡ a.oid → o ≡ a.params → FitsAlgorithm a × (content ≡ algorithm_content a)
algorithm_made content a oid rest o front any e h k = (
  record {
    identifier = subst (λ (l : List ℕ). IsTrue (is_oid l)) h front.identifier;
    counted = subst (λ (l : List ℕ). length l < 2 ^ 32) h front.counted;
    params = subst IfAny k any;
  },
  cc (front.parts),
)

algorithm_takes : (content : List ℕ) (a : Algorithm) → algorithm_at content ≡ Some a → FitsAlgorithm a × (content ≡ algorithm_content a)
unfolding algorithm_at
algorithm_takes content a e =
    bound (FitsAlgorithm a × (content ≡ algorithm_content a)) (oid_field_at content) _ a e (λ kind read e1.
    bound (FitsAlgorithm a × (content ≡ algorithm_content a)) (any_at kind.1) _ a e1 (λ params got e2.
    let any = any_takes kind.1 params got in
    let same = some_same (record { oid = kind.0; params = params }) a e2 in
    algorithm_made content a kind.0 kind.1 params (oid_field_takes content kind.0 kind.1 read) any.0 any.1 (ap (λ (x : Algorithm). x.oid) same) (ap (λ (x : Algorithm). x.params) same)))

algorithm_again : (a : Algorithm) → FitsAlgorithm a → algorithm_at (algorithm_content a) ≡ Some a
unfolding algorithm_at
algorithm_again a fits = rw (oid_field_again a.oid (unwrap_or a.params []) fits.identifier fits.counted, any_again a.params fits.params) refl

pub algorithm_is_read : IsRead algorithm_at algorithm_content FitsAlgorithm
algorithm_is_read = record { takes = algorithm_takes; again = algorithm_again }
