-- Keys are read exactly where they are spelled.
use Rattle.std.proofs.Common.{◌≡◌, ℕ, ◌^◌, ◌<◌, ◌++◌, List, [], ◌∷◌, length, Some, append-nil, refl, sym, ap, subst, ◌∙◌, arith}
use Rattle.der_base.specs.Element.{element, IsElement}
use Rattle.der_base.specs.Reading.{Part}
use Rattle.asn_fields.specs.Fields.{field_at, sole_at}
use Rattle.asn_fields.specs.Forms.{IsRead}
use Rattle.asn_fields.proofs.FieldLemmas.{IsTagged, bound, some_same, field_takes, field_again, sole_takes, sole_reads}
use Rattle.asn_types.specs.Algorithm.{Algorithm, FitsAlgorithm, algorithm_content, algorithm_at}
use Rattle.asn_types.specs.Key.{Key, FitsKey, key_content, key_at, plain_bits_at}
use Rattle.asn_types.proofs.AlgorithmLemmas.{algorithm_is_read}
use Rattle.asn_types.proofs.ValueLemmas.{plain_bits_takes, plain_bits_again}

key_made : (content : List ℕ) (k : Key) (a : Part) (rest : List ℕ) (alg : Algorithm) (s : Part) (key : List ℕ) → IsTagged 0x30 content a rest → FitsAlgorithm alg → a.content ≡ algorithm_content alg → IsTagged 0x03 rest s [] → s.content ≡ 0 ∷ key → alg ≡ k.alg → key ≡ k.key → content ≡ k.content → FitsKey k × (content ≡ key_content k)
key_made content k a rest alg s key t fits inner u bits same_alg same_key same_content =
    let spelled : s.content ≡ 0 ∷ k.key = bits ∙ ap (λ (l : List ℕ). 0 ∷ l) same_key in
    let counted : length (0 ∷ k.key) < 2 ^ 32 = subst (λ (l : List ℕ). length l < 2 ^ 32) spelled u.element_is.counted in
    let all : rest ≡ s.whole = u.parts ∙ append-nil s.whole in
    let is : content ≡ key_content k =
    t.parts ∙ ap (λ (l : List ℕ). l ++ rest) (t.element_is.spelled ∙ ap (element 0x30) (inner ∙ ap algorithm_content same_alg))
    ∙ ap (λ (l : List ℕ). element 0x30 (algorithm_content k.alg) ++ l) (all ∙ u.element_is.spelled ∙ ap (element 0x03) spelled) in (
      record {
        whole = sym same_content ∙ is;
        alg = subst FitsAlgorithm same_alg fits;
        alg_counted = subst (λ (l : List ℕ). length l < 2 ^ 32) (inner ∙ ap algorithm_content same_alg) t.element_is.counted;
        key_counted = omega (arith, counted);
      },
      is,
    )

key_takes : (content : List ℕ) (k : Key) → key_at content ≡ Some k → FitsKey k × (content ≡ key_content k)
unfolding key_at
key_takes content k e =
    bound (FitsKey k × (content ≡ key_content k)) (field_at 0x30 content) _ k e (λ a read e1.
    bound (FitsKey k × (content ≡ key_content k)) (algorithm_at a.0.content) _ k e1 (λ alg got e2.
    bound (FitsKey k × (content ≡ key_content k)) (sole_at 0x03 a.1) _ k e2 (λ s alone e3.
    bound (FitsKey k × (content ≡ key_content k)) (plain_bits_at s) _ k e3 (λ key bits e4.
    let law = algorithm_is_read.takes a.0.content alg got in
    let same = some_same (record { alg = alg; key = key; content = content }) k e4 in
    key_made content k a.0 a.1 alg s key (field_takes 0x30 content a.0 a.1 read) law.0 law.1 (sole_takes 0x03 a.1 s alone) (plain_bits_takes s key bits).1 (ap (λ (x : Key). x.alg) same) (ap (λ (x : Key). x.key) same) (ap (λ (x : Key). x.content) same)))))

key_again : (k : Key) → FitsKey k → key_at (key_content k) ≡ Some k
unfolding key_at
key_again k fits =
    let is : IsElement (element 0x03 (0 ∷ k.key)) 0x03 (0 ∷ k.key) = record { low_tag = omega arith; counted = omega (arith, fits.key_counted); spelled = refl } in
    rw (field_again 0x30 (algorithm_content k.alg) (element 0x03 (0 ∷ k.key)) (omega arith) fits.alg_counted, algorithm_is_read.again k.alg fits.alg, sole_reads 0x03 (element 0x03 (0 ∷ k.key)) (0 ∷ k.key) is, plain_bits_again k.key) (ap (λ (l : List ℕ). let again : Key = record { alg = k.alg; key = k.key; content = l } in Some again) (sym fits.whole))

pub key_is_read : IsRead key_at key_content FitsKey
key_is_read = record { takes = key_takes; again = key_again }
