-- An algorithm, and HMAC-SHA-256, are read exactly where they are spelled.
use Rattle.std.proofs.Common.{◌≡◌, ℕ, ◌⊎◌, true, eqb, List, [], ◌∷◌, Option, Some, None, append-nil, eqb-true, refl, sym, ap, subst, inl, inr, ◌∙◌}
use Rattle.std.specs.Str.{bytes_eq}
use Rattle.std.proofs.lemmas.Slice.Eq.{bytes_eq-Decides}
use Rattle.der_base.specs.Element.{IsElement}
use Rattle.der_base.specs.Reading.{Part}
use Rattle.der_base.proofs.ElementLemmas.{begins_no_other}
use Rattle.asn_fields.specs.Fields.{sole_at}
use Rattle.asn_fields.proofs.FieldLemmas.{bound, passed, sole_takes, sole_reads}
use Rattle.asn_types.specs.Algorithm.{Algorithm, FitsAlgorithm, algorithm_content}
use Rattle.asn_types.proofs.AlgorithmLemmas.{algorithm_is_read}
use Rattle.pbmac.specs.Algorithm.{alg_inside, alg_at}
use Rattle.pbmac.specs.Params.{hmac_sha256, is_blank, is_hmac_sha256, sole_hmac_at}
use Rattle.pbmac_grammar.specs.Pbmac1.{IsAlgorithm, IsHmac, AlgorithmIsSpelled}
use Rattle.pbmac_grammar.proofs.CountLemmas.{both, both_true, chosen}

pub same_octets : (xs ys : List ℕ) → bytes_eq xs ys ≡ true → xs ≡ ys
same_octets xs ys h = (bytes_eq-Decides xs ys).0 h

pub octets_same : (xs ys : List ℕ) → xs ≡ ys → bytes_eq xs ys ≡ true
octets_same xs ys h = (bytes_eq-Decides xs ys).1 h

-- an algorithm
pub alg_stands : (octets content : List ℕ) (a : Algorithm) → IsElement octets 0x30 content → alg_inside content ≡ Some a → IsAlgorithm octets a
alg_stands octets content a is e =
    let t = algorithm_is_read.takes content a e in
    record { fits = t.0; alone = subst (λ (l : List ℕ). IsElement octets 0x30 l) t.1 is }

pub alg_again : (a : Algorithm) → FitsAlgorithm a → alg_inside (algorithm_content a) ≡ Some a
alg_again a fits = algorithm_is_read.again a fits

element_takes_alg : (p : Part) (a : Algorithm) → IsElement p.whole p.tag p.content → alg_at p ≡ Some a → IsAlgorithm p.whole a
unfolding alg_at
element_takes_alg p a is e =
    let c = chosen (eqb p.tag 0x30) (alg_inside p.content) a e in
    alg_stands p.whole p.content a (subst (λ (n : ℕ). IsElement p.whole n p.content) (eqb-true p.tag 0x30 c.0) is) c.1

alg_at_same : (p : Part) (content : List ℕ) → p.tag ≡ 0x30 → p.content ≡ content → alg_at p ≡ alg_inside content
unfolding alg_at
alg_at_same p content t c = rw (t, c) refl

element_gives_alg : (p : Part) (a : Algorithm) → IsElement p.whole p.tag p.content → IsAlgorithm p.whole a → alg_at p ≡ Some a
element_gives_alg p a is h =
    let same = begins_no_other p.whole p.whole [] [] p.tag 0x30 p.content (algorithm_content a) is h.alone refl in
    alg_at_same p (algorithm_content a) same.1 same.2 ∙ alg_again a h.fits

pub algorithm_is_spelled : AlgorithmIsSpelled
algorithm_is_spelled p a is = (element_takes_alg p a is, element_gives_alg p a is)

-- HMAC-SHA-256
blank_takes : (o : Option (List ℕ)) → is_blank o ≡ true → (o ≡ None) ⊎ (o ≡ Some (5 ∷ 0 ∷ []))
blank_takes None h = inl refl
blank_takes (Some params) h = inr (ap (λ (x : List ℕ). Some x) (same_octets params (5 ∷ 0 ∷ []) h))

blank_again : (o : Option (List ℕ)) → (o ≡ None) ⊎ (o ≡ Some (5 ∷ 0 ∷ [])) → is_blank o ≡ true
blank_again o (inl e) = rw e refl
blank_again o (inr e) = rw e refl

hmac_by : (octets : List ℕ) (a : Algorithm) → IsAlgorithm octets a → is_hmac_sha256 a ≡ true → IsHmac octets
hmac_by octets a is h =
    let t = both (bytes_eq a.oid hmac_sha256) (is_blank a.params) h in
    record { algorithm = a; is_algorithm = is; named = same_octets a.oid hmac_sha256 t.0; params = blank_takes a.params t.1 }

pub hmac_takes : (bytes out : List ℕ) → sole_hmac_at bytes ≡ Some out → IsHmac bytes
unfolding sole_hmac_at
hmac_takes bytes out e =
    bound (IsHmac bytes) (sole_at 0x30 bytes) _ out e (λ s read e1.
    bound (IsHmac bytes) (alg_inside s.content) _ out e1 (λ a inside e2.
    passed (IsHmac bytes) (is_hmac_sha256 a) [] out e2 (λ named same.
    let t = sole_takes 0x30 bytes s read in
    let is : IsElement bytes 0x30 s.content = subst (λ (l : List ℕ). IsElement l 0x30 s.content) (sym (t.parts ∙ append-nil s.whole)) t.element_is in
    hmac_by bytes a (alg_stands bytes s.content a is inside) named)))

named_again : (a : Algorithm) → a.oid ≡ hmac_sha256 → (a.params ≡ None) ⊎ (a.params ≡ Some (5 ∷ 0 ∷ [])) → is_hmac_sha256 a ≡ true
named_again a named params = both_true (bytes_eq a.oid hmac_sha256) (is_blank a.params) (octets_same a.oid hmac_sha256 named) (blank_again a.params params)

pub hmac_again : (bytes : List ℕ) → IsHmac bytes → sole_hmac_at bytes ≡ Some []
unfolding sole_hmac_at
hmac_again bytes h =
    let a = h.algorithm in
    rw (
      sole_reads 0x30 bytes (algorithm_content a) h.is_algorithm.alone,
      alg_again a h.is_algorithm.fits,
      named_again a h.named h.params,
    ) refl
