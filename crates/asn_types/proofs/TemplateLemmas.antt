-- Templates are read exactly where they are spelled.
use Rattle.std.proofs.Common.{◌≡◌, ◌≢◌, ℕ, ◌+◌, ◌%◌, ◌^◌, ◌<◌, ◌++◌, Bool, true, false, ◌||◌, cond, eqb, IsTrue, List, [], ◌∷◌, length, Option, Some, None, append-nil, eqb-true, eq-eqb, refl, sym, ap, subst, ◌∙◌, arith, rules}
use Rattle.std.specs.List.{list_any}
use Rattle.der_base.specs.Element.{element, IsElement}
use Rattle.der_base.specs.Reading.{Part, part}
use Rattle.der_base.specs.Values.{is_integer, is_bits}
use Rattle.asn_fields.specs.Fields.{◌>>=◌, sole_at, optional_at, inside_with, optional_with}
use Rattle.asn_fields.specs.Forms.{IsRead, IsField, optional_spelling, FitsOptional}
use Rattle.asn_fields.proofs.FieldLemmas.{IsTagged, bound, passed, some_same, sole_takes, sole_reads, optional_field}
use Rattle.asn_types.specs.Name.{is_name}
use Rattle.asn_types.specs.Algorithm.{FitsAlgorithm, algorithm_content, algorithm_at}
use Rattle.asn_types.specs.Key.{FitsKey, key_content, key_at}
use Rattle.asn_types.specs.Extension.{is_extensions}
use Rattle.asn_types.specs.Template.{TemplateForm, FitsTemplate, IsWholeName, IsAnything, Passes, same, template_content, tested_at, anything_at, name_at, template_at}
use Rattle.asn_types.proofs.AlgorithmLemmas.{algorithm_is_read}
use Rattle.asn_types.proofs.KeyLemmas.{key_is_read}
use Rattle.asn_types.proofs.GeneralLemmas.{left_or, right_or}
use Rattle.asn_types.proofs.NameLemmas.{false_true}
use Rattle.asn_types.proofs.OptionalLemmas.{IsNotAt, optional_there, optional_not}

-- a list of no length is empty
pub empty_of : (l : List ℕ) → eqb (length l) 0 ≡ true → l ≡ []
empty_of [] h = refl
empty_of (x ∷ l) h = absurd (omega (arith, eqb-true (length (x ∷ l)) 0 h))

-- the values inside
tested_takes : (test : List ℕ → Bool) (bytes x : List ℕ) → tested_at test bytes ≡ Some x → Passes test x × (bytes ≡ same x)
unfolding tested_at
tested_takes test bytes x e =
    passed (Passes test x × (bytes ≡ same x)) (test bytes) bytes x e (λ t k. (subst (Passes test) k t, k))

tested_again : (test : List ℕ → Bool) (x : List ℕ) → Passes test x → tested_at test (same x) ≡ Some x
unfolding tested_at
tested_again test x h = rw h refl

pub tested_is_read : (test : List ℕ → Bool) → IsRead (tested_at test) same (Passes test)
tested_is_read test = record { takes = tested_takes test; again = tested_again test }

anything_takes : (bytes x : List ℕ) → anything_at bytes ≡ Some x → IsAnything x × (bytes ≡ same x)
unfolding anything_at
anything_takes bytes x e = (tt, some_same bytes x e)

anything_again : (x : List ℕ) → IsAnything x → anything_at (same x) ≡ Some x
unfolding anything_at
anything_again x h = refl

pub anything_is_read : IsRead anything_at same IsAnything
anything_is_read = record { takes = anything_takes; again = anything_again }

name_by : (bytes x : List ℕ) (p : Part) → IsTagged 0x30 bytes p [] → is_name p ≡ true → p.whole ≡ x → IsWholeName x × (bytes ≡ same x)
name_by bytes x p t h k = (
  record {
    content = p.content;
    alone = subst (λ (l : List ℕ). IsElement l 0x30 p.content) k t.element_is;
    is_name = subst (λ (q : Part). IsTrue (is_name q)) t.part_is h;
  },
  t.parts ∙ append-nil p.whole ∙ k,
)

name_takes : (bytes x : List ℕ) → name_at bytes ≡ Some x → IsWholeName x × (bytes ≡ same x)
unfolding name_at
name_takes bytes x e =
    bound (IsWholeName x × (bytes ≡ same x)) (sole_at 0x30 bytes) (λ (p : Part). cond (is_name p) (Some p.whole) None) x e (λ p read e1.
    passed (IsWholeName x × (bytes ≡ same x)) (is_name p) p.whole x e1 (λ h k. name_by bytes x p (sole_takes 0x30 bytes p read) h k))

name_again : (x : List ℕ) → IsWholeName x → name_at (same x) ≡ Some x
unfolding name_at
name_again x h = rw (sole_reads 0x30 x h.content h.alone, h.is_name) (ap (λ (l : List ℕ). Some l) (sym h.alone.spelled))

name_is_read : IsRead name_at same IsWholeName
name_is_read = record { takes = name_takes; again = name_again }

-- a field that may be left out is read where another tag follows
pub field_not : {X : Type 0} (inner : List ℕ → Option X) (tag : ℕ) (spelling : X → List ℕ) (Fits : X → Type 0) → tag % 32 ≢ 31 → IsRead inner spelling Fits → (o : Option X) (rest : List ℕ) → FitsOptional spelling Fits o → IsNotAt tag rest → optional_with inner tag (optional_spelling tag spelling o ++ rest) ≡ Some (o, rest)
field_not inner tag spelling Fits low law None rest fits h = rw (optional_not tag rest h) refl
field_not inner tag spelling Fits low law (Some x) rest fits h = rw (optional_there tag (spelling x) rest low fits.1, law.again x fits.0) refl

-- The octets are none, or one of these tags stands at the front.
abbrev Heads : List ℕ → List ℕ → Type 0
Heads tags [] = Unit {0}
Heads tags (first ∷ rest) = IsTrue (list_any (λ t. eqb t first) tags)

heads_more : (tag : ℕ) (tags bytes : List ℕ) → Heads tags bytes → Heads (tag ∷ tags) bytes
heads_more tag tags [] h = tt
heads_more tag tags (first ∷ rest) h = right_or (eqb tag first) (list_any (λ t. eqb t first) tags) h

heads_optional : {X : Type 0} (tag : ℕ) (spelling : X → List ℕ) (o : Option X) (tags rest : List ℕ) → Heads tags rest → Heads (tag ∷ tags) (optional_spelling tag spelling o ++ rest)
unfolding element
heads_optional tag spelling None tags rest h = heads_more tag tags rest h
heads_optional tag spelling (Some x) tags rest h = left_or (eqb tag tag) (list_any (λ t. eqb t tag) tags) (eq-eqb tag tag refl)

not_first : (tag : ℕ) (tags : List ℕ) (first : ℕ) (b : Bool) → eqb first tag ≡ b → list_any (λ t. eqb t tag) tags ≡ false → IsTrue (list_any (λ t. eqb t first) tags) → b ≡ false
not_first tag tags first false e none h = refl
not_first tag tags first true e none h =
    let is : first ≡ tag = eqb-true first tag e in
    let there : list_any (λ t. eqb t tag) tags ≡ true = subst (λ (x : ℕ). list_any (λ t. eqb t x) tags ≡ true) is h in
    absurd (false_true (sym none ∙ there))

not_at : (tag : ℕ) (tags bytes : List ℕ) → list_any (λ t. eqb t tag) tags ≡ false → Heads tags bytes → IsNotAt tag bytes
not_at tag tags [] none h = tt
not_at tag tags (first ∷ rest) none h = not_first tag tags first (eqb first tag) refl none h

-- where nothing follows
pub field_last : {X : Type 0} (inner : List ℕ → Option X) (tag : ℕ) (spelling : X → List ℕ) (Fits : X → Type 0) → tag % 32 ≢ 31 → IsRead inner spelling Fits → (o : Option X) → FitsOptional spelling Fits o → optional_with inner tag (optional_spelling tag spelling o) ≡ Some (o, [])
field_last inner tag spelling Fits low law o fits =
    ap (optional_with inner tag) (sym (append-nil (optional_spelling tag spelling o))) ∙ field_not inner tag spelling Fits low law o [] fits tt

-- what follows each field
abbrev after_subject_uid : TemplateForm → List ℕ
after_subject_uid t = optional_spelling 0xA9 same t.exts

abbrev after_issuer_uid : TemplateForm → List ℕ
after_issuer_uid t = optional_spelling 0x88 same t.subject_uid ++ after_subject_uid t

abbrev after_key : TemplateForm → List ℕ
after_key t = optional_spelling 0x87 same t.issuer_uid ++ after_issuer_uid t

abbrev after_subject : TemplateForm → List ℕ
after_subject t = optional_spelling 0xA6 key_content t.key ++ after_key t

abbrev after_validity : TemplateForm → List ℕ
after_validity t = optional_spelling 0xA5 same t.subject ++ after_subject t

abbrev after_issuer : TemplateForm → List ℕ
after_issuer t = optional_spelling 0xA4 same t.validity ++ after_validity t

abbrev after_alg : TemplateForm → List ℕ
after_alg t = optional_spelling 0xA3 same t.issuer ++ after_issuer t

abbrev after_serial : TemplateForm → List ℕ
after_serial t = optional_spelling 0xA2 algorithm_content t.alg ++ after_alg t

abbrev after_version : TemplateForm → List ℕ
after_version t = optional_spelling 0x81 same t.serial ++ after_serial t

pub template_made : (content : List ℕ) (t : TemplateForm) (r0 r1 r2 r3 r4 r5 r6 r7 r8 r9 : List ℕ)
    → content ≡ optional_spelling 0x80 same t.version ++ r0
    → r0 ≡ optional_spelling 0x81 same t.serial ++ r1
    → r1 ≡ optional_spelling 0xA2 algorithm_content t.alg ++ r2
    → r2 ≡ optional_spelling 0xA3 same t.issuer ++ r3
    → r3 ≡ optional_spelling 0xA4 same t.validity ++ r4
    → r4 ≡ optional_spelling 0xA5 same t.subject ++ r5
    → r5 ≡ optional_spelling 0xA6 key_content t.key ++ r6
    → r6 ≡ optional_spelling 0x87 same t.issuer_uid ++ r7
    → r7 ≡ optional_spelling 0x88 same t.subject_uid ++ r8
    → r8 ≡ optional_spelling 0xA9 same t.exts ++ r9
    → r9 ≡ [] → content ≡ template_content t
template_made content t r0 r1 r2 r3 r4 r5 r6 r7 r8 r9 e0 e1 e2 e3 e4 e5 e6 e7 e8 e9 end =
    let last : r8 ≡ after_subject_uid t = e9 ∙ ap (λ (l : List ℕ). optional_spelling 0xA9 same t.exts ++ l) end ∙ append-nil (optional_spelling 0xA9 same t.exts) in
    let s7 : r7 ≡ after_issuer_uid t = e8 ∙ ap (λ (l : List ℕ). optional_spelling 0x88 same t.subject_uid ++ l) last in
    let s6 : r6 ≡ after_key t = e7 ∙ ap (λ (l : List ℕ). optional_spelling 0x87 same t.issuer_uid ++ l) s7 in
    let s5 : r5 ≡ after_subject t = e6 ∙ ap (λ (l : List ℕ). optional_spelling 0xA6 key_content t.key ++ l) s6 in
    let s4 : r4 ≡ after_validity t = e5 ∙ ap (λ (l : List ℕ). optional_spelling 0xA5 same t.subject ++ l) s5 in
    let s3 : r3 ≡ after_issuer t = e4 ∙ ap (λ (l : List ℕ). optional_spelling 0xA4 same t.validity ++ l) s4 in
    let s2 : r2 ≡ after_alg t = e3 ∙ ap (λ (l : List ℕ). optional_spelling 0xA3 same t.issuer ++ l) s3 in
    let s1 : r1 ≡ after_serial t = e2 ∙ ap (λ (l : List ℕ). optional_spelling 0xA2 algorithm_content t.alg ++ l) s2 in
    let s0 : r0 ≡ after_version t = e1 ∙ ap (λ (l : List ℕ). optional_spelling 0x81 same t.serial ++ l) s1 in
    e0 ∙ ap (λ (l : List ℕ). optional_spelling 0x80 same t.version ++ l) s0

heads_last : (o : Option (List ℕ)) → Heads (0xA9 ∷ []) (optional_spelling 0xA9 same o)
unfolding element
heads_last None = tt
heads_last (Some x) = refl

exts_again : (t : TemplateForm) → FitsOptional same (Passes is_extensions) t.exts → optional_with (tested_at is_extensions) 0xA9 (optional_spelling 0xA9 same t.exts) ≡ Some (t.exts, [])
exts_again t h = field_last (tested_at is_extensions) 0xA9 same (Passes is_extensions) (omega arith) (tested_is_read is_extensions) t.exts h

version_field : IsField (optional_with (tested_at is_integer) 0x80) 0x80 same (Passes is_integer)
version_field = optional_field (tested_at is_integer) 0x80 same (Passes is_integer) (omega arith) (tested_is_read is_integer)

serial_field : IsField (optional_with (tested_at is_integer) 0x81) 0x81 same (Passes is_integer)
serial_field = optional_field (tested_at is_integer) 0x81 same (Passes is_integer) (omega arith) (tested_is_read is_integer)

alg_field : IsField (optional_with algorithm_at 0xA2) 0xA2 algorithm_content FitsAlgorithm
alg_field = optional_field algorithm_at 0xA2 algorithm_content FitsAlgorithm (omega arith) algorithm_is_read

issuer_field : IsField (optional_with name_at 0xA3) 0xA3 same IsWholeName
issuer_field = optional_field name_at 0xA3 same IsWholeName (omega arith) name_is_read

validity_field : IsField (optional_with anything_at 0xA4) 0xA4 same IsAnything
validity_field = optional_field anything_at 0xA4 same IsAnything (omega arith) anything_is_read

subject_field : IsField (optional_with name_at 0xA5) 0xA5 same IsWholeName
subject_field = optional_field name_at 0xA5 same IsWholeName (omega arith) name_is_read

key_field : IsField (optional_with key_at 0xA6) 0xA6 key_content FitsKey
key_field = optional_field key_at 0xA6 key_content FitsKey (omega arith) key_is_read

issuer_uid_field : IsField (optional_with (tested_at is_bits) 0x87) 0x87 same (Passes is_bits)
issuer_uid_field = optional_field (tested_at is_bits) 0x87 same (Passes is_bits) (omega arith) (tested_is_read is_bits)

subject_uid_field : IsField (optional_with (tested_at is_bits) 0x88) 0x88 same (Passes is_bits)
subject_uid_field = optional_field (tested_at is_bits) 0x88 same (Passes is_bits) (omega arith) (tested_is_read is_bits)

exts_field : IsField (optional_with (tested_at is_extensions) 0xA9) 0xA9 same (Passes is_extensions)
exts_field = optional_field (tested_at is_extensions) 0xA9 same (Passes is_extensions) (omega arith) (tested_is_read is_extensions)

template_takes : (content : List ℕ) (t : TemplateForm) → template_at content ≡ Some t → FitsTemplate t × (content ≡ template_content t)
unfolding template_at
template_takes content t e =
    bound (FitsTemplate t × (content ≡ template_content t)) (optional_with (tested_at is_integer) 0x80 content) _ t e (λ v0 r0 e0.
    bound (FitsTemplate t × (content ≡ template_content t)) (optional_with (tested_at is_integer) 0x81 v0.1) _ t e0 (λ v1 r1 e1.
    bound (FitsTemplate t × (content ≡ template_content t)) (optional_with algorithm_at 0xA2 v1.1) _ t e1 (λ v2 r2 e2.
    bound (FitsTemplate t × (content ≡ template_content t)) (optional_with name_at 0xA3 v2.1) _ t e2 (λ v3 r3 e3.
    bound (FitsTemplate t × (content ≡ template_content t)) (optional_with anything_at 0xA4 v3.1) _ t e3 (λ v4 r4 e4.
    bound (FitsTemplate t × (content ≡ template_content t)) (optional_with name_at 0xA5 v4.1) _ t e4 (λ v5 r5 e5.
    bound (FitsTemplate t × (content ≡ template_content t)) (optional_with key_at 0xA6 v5.1) _ t e5 (λ v6 r6 e6.
    bound (FitsTemplate t × (content ≡ template_content t)) (optional_with (tested_at is_bits) 0x87 v6.1) _ t e6 (λ v7 r7 e7.
    bound (FitsTemplate t × (content ≡ template_content t)) (optional_with (tested_at is_bits) 0x88 v7.1) _ t e7 (λ v8 r8 e8.
    bound (FitsTemplate t × (content ≡ template_content t)) (optional_with (tested_at is_extensions) 0xA9 v8.1) _ t e8 (λ v9 r9 e9.
    passed (FitsTemplate t × (content ≡ template_content t)) (eqb (length v9.1) 0) (record { version = v0.0; serial = v1.0; alg = v2.0; issuer = v3.0; validity = v4.0; subject = v5.0; key = v6.0; issuer_uid = v7.0; subject_uid = v8.0; exts = v9.0 }) t e9 (λ none is.
    let f0 = version_field.takes content v0.0 v0.1 r0 in
    let f1 = serial_field.takes v0.1 v1.0 v1.1 r1 in
    let f2 = alg_field.takes v1.1 v2.0 v2.1 r2 in
    let f3 = issuer_field.takes v2.1 v3.0 v3.1 r3 in
    let f4 = validity_field.takes v3.1 v4.0 v4.1 r4 in
    let f5 = subject_field.takes v4.1 v5.0 v5.1 r5 in
    let f6 = key_field.takes v5.1 v6.0 v6.1 r6 in
    let f7 = issuer_uid_field.takes v6.1 v7.0 v7.1 r7 in
    let f8 = subject_uid_field.takes v7.1 v8.0 v8.1 r8 in
    let f9 = exts_field.takes v8.1 v9.0 v9.1 r9 in
    subst (λ (x : TemplateForm). FitsTemplate x × (content ≡ template_content x)) is (
      record { version = f0.0; serial = f1.0; alg = f2.0; issuer = f3.0; validity = f4.0; subject = f5.0; key = f6.0; issuer_uid = f7.0; subject_uid = f8.0; exts = f9.0 },
      template_made content (record { version = v0.0; serial = v1.0; alg = v2.0; issuer = v3.0; validity = v4.0; subject = v5.0; key = v6.0; issuer_uid = v7.0; subject_uid = v8.0; exts = v9.0 }) v0.1 v1.1 v2.1 v3.1 v4.1 v5.1 v6.1 v7.1 v8.1 v9.1 f0.1 f1.1 f2.1 f3.1 f4.1 f5.1 f6.1 f7.1 f8.1 f9.1 (empty_of v9.1 none),
    ))))))))))))

template_again : (t : TemplateForm) → FitsTemplate t → template_at (template_content t) ≡ Some t
unfolding template_at
template_again t fits =
    let h8 : Heads (0xA9 ∷ []) (after_subject_uid t) = heads_last t.exts in
    let h7 : Heads (0x88 ∷ 0xA9 ∷ []) (after_issuer_uid t) = heads_optional 0x88 same t.subject_uid (0xA9 ∷ []) (after_subject_uid t) h8 in
    let h6 : Heads (0x87 ∷ 0x88 ∷ 0xA9 ∷ []) (after_key t) = heads_optional 0x87 same t.issuer_uid (0x88 ∷ 0xA9 ∷ []) (after_issuer_uid t) h7 in
    let h5 : Heads (0xA6 ∷ 0x87 ∷ 0x88 ∷ 0xA9 ∷ []) (after_subject t) = heads_optional 0xA6 key_content t.key (0x87 ∷ 0x88 ∷ 0xA9 ∷ []) (after_key t) h6 in
    let h4 : Heads (0xA5 ∷ 0xA6 ∷ 0x87 ∷ 0x88 ∷ 0xA9 ∷ []) (after_validity t) = heads_optional 0xA5 same t.subject (0xA6 ∷ 0x87 ∷ 0x88 ∷ 0xA9 ∷ []) (after_subject t) h5 in
    let h3 : Heads (0xA4 ∷ 0xA5 ∷ 0xA6 ∷ 0x87 ∷ 0x88 ∷ 0xA9 ∷ []) (after_issuer t) = heads_optional 0xA4 same t.validity (0xA5 ∷ 0xA6 ∷ 0x87 ∷ 0x88 ∷ 0xA9 ∷ []) (after_validity t) h4 in
    let h2 : Heads (0xA3 ∷ 0xA4 ∷ 0xA5 ∷ 0xA6 ∷ 0x87 ∷ 0x88 ∷ 0xA9 ∷ []) (after_alg t) = heads_optional 0xA3 same t.issuer (0xA4 ∷ 0xA5 ∷ 0xA6 ∷ 0x87 ∷ 0x88 ∷ 0xA9 ∷ []) (after_issuer t) h3 in
    let h1 : Heads (0xA2 ∷ 0xA3 ∷ 0xA4 ∷ 0xA5 ∷ 0xA6 ∷ 0x87 ∷ 0x88 ∷ 0xA9 ∷ []) (after_serial t) = heads_optional 0xA2 algorithm_content t.alg (0xA3 ∷ 0xA4 ∷ 0xA5 ∷ 0xA6 ∷ 0x87 ∷ 0x88 ∷ 0xA9 ∷ []) (after_alg t) h2 in
    let h0 : Heads (0x81 ∷ 0xA2 ∷ 0xA3 ∷ 0xA4 ∷ 0xA5 ∷ 0xA6 ∷ 0x87 ∷ 0x88 ∷ 0xA9 ∷ []) (after_version t) = heads_optional 0x81 same t.serial (0xA2 ∷ 0xA3 ∷ 0xA4 ∷ 0xA5 ∷ 0xA6 ∷ 0x87 ∷ 0x88 ∷ 0xA9 ∷ []) (after_serial t) h1 in
    rw (
      field_not (tested_at is_integer) 0x80 same (Passes is_integer) (omega arith) (tested_is_read is_integer) t.version (after_version t) fits.version (not_at 0x80 (0x81 ∷ 0xA2 ∷ 0xA3 ∷ 0xA4 ∷ 0xA5 ∷ 0xA6 ∷ 0x87 ∷ 0x88 ∷ 0xA9 ∷ []) (after_version t) refl h0),
      field_not (tested_at is_integer) 0x81 same (Passes is_integer) (omega arith) (tested_is_read is_integer) t.serial (after_serial t) fits.serial (not_at 0x81 (0xA2 ∷ 0xA3 ∷ 0xA4 ∷ 0xA5 ∷ 0xA6 ∷ 0x87 ∷ 0x88 ∷ 0xA9 ∷ []) (after_serial t) refl h1),
      field_not algorithm_at 0xA2 algorithm_content FitsAlgorithm (omega arith) algorithm_is_read t.alg (after_alg t) fits.alg (not_at 0xA2 (0xA3 ∷ 0xA4 ∷ 0xA5 ∷ 0xA6 ∷ 0x87 ∷ 0x88 ∷ 0xA9 ∷ []) (after_alg t) refl h2),
      field_not name_at 0xA3 same IsWholeName (omega arith) name_is_read t.issuer (after_issuer t) fits.issuer (not_at 0xA3 (0xA4 ∷ 0xA5 ∷ 0xA6 ∷ 0x87 ∷ 0x88 ∷ 0xA9 ∷ []) (after_issuer t) refl h3),
      field_not anything_at 0xA4 same IsAnything (omega arith) anything_is_read t.validity (after_validity t) fits.validity (not_at 0xA4 (0xA5 ∷ 0xA6 ∷ 0x87 ∷ 0x88 ∷ 0xA9 ∷ []) (after_validity t) refl h4),
      field_not name_at 0xA5 same IsWholeName (omega arith) name_is_read t.subject (after_subject t) fits.subject (not_at 0xA5 (0xA6 ∷ 0x87 ∷ 0x88 ∷ 0xA9 ∷ []) (after_subject t) refl h5),
      field_not key_at 0xA6 key_content FitsKey (omega arith) key_is_read t.key (after_key t) fits.key (not_at 0xA6 (0x87 ∷ 0x88 ∷ 0xA9 ∷ []) (after_key t) refl h6),
      field_not (tested_at is_bits) 0x87 same (Passes is_bits) (omega arith) (tested_is_read is_bits) t.issuer_uid (after_issuer_uid t) fits.issuer_uid (not_at 0x87 (0x88 ∷ 0xA9 ∷ []) (after_issuer_uid t) refl h7),
      field_not (tested_at is_bits) 0x88 same (Passes is_bits) (omega arith) (tested_is_read is_bits) t.subject_uid (after_subject_uid t) fits.subject_uid (not_at 0x88 (0xA9 ∷ []) (after_subject_uid t) refl h8),
      exts_again t fits.exts,
    ) refl

-- The law of templates.
pub template_is_read : IsRead template_at template_content FitsTemplate
template_is_read = record { takes = template_takes; again = template_again }
