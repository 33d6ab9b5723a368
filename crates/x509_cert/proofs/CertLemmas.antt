-- Certificates are read exactly where they are spelled.
use Rattle.std.proofs.Common.{◌≡◌, ℕ, ◌^◌, ◌<◌, ◌++◌, ◌&&◌, true, cond, eqb, List, [], ◌∷◌, length, Some, None, Result, Ok, Err, IfOk, eqb-true, refl, sym, ap, subst, ◌∙◌, arith}
use Rattle.der_base.specs.Element.{element, length_octets, IsElement}
use Rattle.der_base.specs.Reading.{Part}
use Rattle.der_base.specs.Values.{is_integer, is_bits}
use Rattle.asn_fields.specs.Fields.{field_at}
use Rattle.asn_fields.specs.Forms.{IsRead, IsFront}
use Rattle.asn_fields.proofs.FieldLemmas.{IsTagged, bound, passed, some_same, field_takes, field_again}
use Rattle.asn_fields.specs.declared.fault.BadForm.{BadForm}
use Rattle.asn_types.specs.Algorithm.{FitsAlgorithm, algorithm_content, algorithm_at}
use Rattle.asn_types.specs.Key.{Key, FitsKey, key_content, key_at}
use Rattle.asn_types.specs.Extension.{is_extensions}
use Rattle.asn_types.specs.Template.{IsAnything, Passes, same, tested_at, anything_at}
use Rattle.asn_types.proofs.AlgorithmLemmas.{algorithm_is_read}
use Rattle.asn_types.proofs.KeyLemmas.{key_is_read}
use Rattle.asn_types.proofs.RowLemmas.{both}
use Rattle.asn_types.proofs.NameLemmas.{false_true}
use Rattle.asn_parts.specs.Parts.{tagged, FitsTagged, required_with, sole_with, name_front_at}
use Rattle.asn_parts.proofs.PartLemmas.{tested_is_read, anything_is_read, required_front, sole_is_read, name_front}
use Rattle.x509_cert.specs.declared.cert.Cert.{Cert}
use Rattle.x509_cert.specs.Cert.{cert_of, cert_octets, tbs_octets, TbsForm, CertForm, FitsTbs, FitsCert, IsWholeKey, version_octets, tbs_content, cert_content, is_version, version_at, key_front_at, extensions_at, tbs_at, cert_inside, cert_at}

-- the version
version_is : (content : List ℕ) → is_version content ≡ true → content ≡ 2 ∷ 1 ∷ 2 ∷ []
version_is [] h = absurd (false_true h)
version_is (a ∷ []) h = absurd (false_true h)
version_is (a ∷ b ∷ []) h = absurd (false_true h)
version_is (a ∷ b ∷ c ∷ []) h =
    let p = both (eqb a 2) (eqb b 1 && eqb c 2) h in
    let q = both (eqb b 1) (eqb c 2) p.1 in
    rw (eqb-true a 2 p.0, eqb-true b 1 q.0, eqb-true c 2 q.1) refl
version_is (a ∷ b ∷ c ∷ d ∷ more) h = absurd (false_true h)

version_content : element 0x02 (2 ∷ []) ≡ 2 ∷ 1 ∷ 2 ∷ []
unfolding element length_octets
version_content = refl

version_takes : (bytes rest : List ℕ) → version_at bytes ≡ Some rest → bytes ≡ version_octets ++ rest
unfolding version_at
version_takes bytes rest e =
    bound (bytes ≡ version_octets ++ rest) (field_at 0xA0 bytes) (λ (f : Part × List ℕ). cond (is_version f.0.content) (Some f.1) None) rest e (λ f read e1.
    passed (bytes ≡ version_octets ++ rest) (is_version f.0.content) f.1 rest e1 (λ h k.
    let t = field_takes 0xA0 bytes f.0 f.1 read in
    let spelled : f.0.whole ≡ version_octets = t.element_is.spelled ∙ ap (element 0xA0) (version_is f.0.content h ∙ sym version_content) in
    t.parts ∙ ap (λ (l : List ℕ). l ++ f.1) spelled ∙ ap (λ (l : List ℕ). version_octets ++ l) k))

version_plain : (rest : List ℕ) → version_at (element 0xA0 (2 ∷ 1 ∷ 2 ∷ []) ++ rest) ≡ Some rest
unfolding version_at
version_plain rest = rw (field_again 0xA0 (2 ∷ 1 ∷ 2 ∷ []) rest (omega arith) (omega arith)) refl

version_again : (rest : List ℕ) → version_at (version_octets ++ rest) ≡ Some rest
version_again rest = subst (λ (l : List ℕ). version_at (element 0xA0 l ++ rest) ≡ Some rest) (sym version_content) (version_plain rest)

-- a key at the front
key_by : (bytes x rest : List ℕ) (p : Part) (more : List ℕ) (k : Key) → IsTagged 0x30 bytes p more → FitsKey k → p.content ≡ key_content k → ◌≡◌ {A = List ℕ × List ℕ} (element 0x30 p.content, more) (x, rest) → IsWholeKey x × (bytes ≡ same x ++ rest)
key_by bytes x rest p more k t fits spelled e =
    let is : x ≡ element 0x30 (key_content k) = sym (ap (λ (z : List ℕ × List ℕ). z.0) e) ∙ ap (element 0x30) spelled in (
      record {
        key = k;
        fits = fits;
        alone = record { low_tag = omega arith; counted = subst (λ (l : List ℕ). length l < 2 ^ 32) spelled t.element_is.counted; spelled = is };
      },
      t.parts ∙ ap (λ (l : List ℕ). l ++ more) t.element_is.spelled ∙ ap (λ (z : List ℕ × List ℕ). z.0 ++ z.1) e,
    )

key_front_takes : (bytes x rest : List ℕ) → key_front_at bytes ≡ Some (x, rest) → IsWholeKey x × (bytes ≡ same x ++ rest)
unfolding key_front_at
key_front_takes bytes x rest e =
    bound (IsWholeKey x × (bytes ≡ same x ++ rest)) (field_at 0x30 bytes) _ (x, rest) e (λ f read e1.
    bound (IsWholeKey x × (bytes ≡ same x ++ rest)) (key_at f.0.content) _ (x, rest) e1 (λ k got e2.
    let w = key_is_read.takes f.0.content k got in
    key_by bytes x rest f.0 f.1 k (field_takes 0x30 bytes f.0 f.1 read) w.0 w.1 (some_same (element 0x30 f.0.content, f.1) (x, rest) e2)))

key_front_spelled : (k : Key) (rest : List ℕ) → FitsKey k → length (key_content k) < 2 ^ 32 → key_front_at (element 0x30 (key_content k) ++ rest) ≡ Some (element 0x30 (key_content k), rest)
unfolding key_front_at
key_front_spelled k rest fits counted = rw (field_again 0x30 (key_content k) rest (omega arith) counted, key_is_read.again k fits) refl

key_front_again : (x rest : List ℕ) → IsWholeKey x → key_front_at (same x ++ rest) ≡ Some (x, rest)
key_front_again x rest h = subst (λ (l : List ℕ). key_front_at (l ++ rest) ≡ Some (l, rest)) (sym h.alone.spelled) (key_front_spelled h.key rest h.fits h.alone.counted)

key_front : IsFront key_front_at same IsWholeKey
key_front = record { takes = key_front_takes; again = key_front_again }

-- the other fields
serial_front : IsFront (required_with (tested_at is_integer) 0x02) (tagged 0x02 same) (FitsTagged same (Passes is_integer))
serial_front = required_front (tested_at is_integer) 0x02 same (Passes is_integer) (omega arith) (tested_is_read is_integer)

alg_front : IsFront (required_with algorithm_at 0x30) (tagged 0x30 algorithm_content) (FitsTagged algorithm_content FitsAlgorithm)
alg_front = required_front algorithm_at 0x30 algorithm_content FitsAlgorithm (omega arith) algorithm_is_read

validity_front : IsFront (required_with anything_at 0x30) (tagged 0x30 same) (FitsTagged same IsAnything)
validity_front = required_front anything_at 0x30 same IsAnything (omega arith) anything_is_read

exts_inner : IsRead (sole_with (tested_at is_extensions) 0x30) (tagged 0x30 same) (FitsTagged same (Passes is_extensions))
exts_inner = sole_is_read (tested_at is_extensions) 0x30 same (Passes is_extensions) (omega arith) (tested_is_read is_extensions)

exts_read : IsRead extensions_at (tagged 0xA3 (tagged 0x30 same)) (FitsTagged (tagged 0x30 same) (FitsTagged same (Passes is_extensions)))
exts_read = sole_is_read (sole_with (tested_at is_extensions) 0x30) 0xA3 (tagged 0x30 same) (FitsTagged same (Passes is_extensions)) (omega arith) exts_inner

-- what follows each field
tbs_made : (content : List ℕ) (t : TbsForm) (r0 r1 r2 r3 r4 r5 r6 : List ℕ)
    → content ≡ version_octets ++ r0
    → r0 ≡ element 0x02 t.serial ++ r1
    → r1 ≡ element 0x30 (algorithm_content t.alg) ++ r2
    → r2 ≡ t.issuer ++ r3
    → r3 ≡ element 0x30 t.validity ++ r4
    → r4 ≡ t.subject ++ r5
    → r5 ≡ t.spki ++ r6
    → r6 ≡ element 0xA3 (element 0x30 t.exts) → content ≡ tbs_content t
tbs_made content t r0 r1 r2 r3 r4 r5 r6 e0 e1 e2 e3 e4 e5 e6 e7 =
    let s5 = e6 ∙ ap (λ (l : List ℕ). t.spki ++ l) e7 in
    let s4 = e5 ∙ ap (λ (l : List ℕ). t.subject ++ l) s5 in
    let s3 = e4 ∙ ap (λ (l : List ℕ). element 0x30 t.validity ++ l) s4 in
    let s2 = e3 ∙ ap (λ (l : List ℕ). t.issuer ++ l) s3 in
    let s1 = e2 ∙ ap (λ (l : List ℕ). element 0x30 (algorithm_content t.alg) ++ l) s2 in
    let s0 = e1 ∙ ap (λ (l : List ℕ). element 0x02 t.serial ++ l) s1 in
    e0 ∙ ap (λ (l : List ℕ). version_octets ++ l) s0

tbs_takes : (content : List ℕ) (t : TbsForm) → tbs_at content ≡ Some t → FitsTbs t × (content ≡ tbs_content t)
unfolding tbs_at
tbs_takes content t e =
    bound (FitsTbs t × (content ≡ tbs_content t)) (version_at content) _ t e (λ v0 r0 e0.
    bound (FitsTbs t × (content ≡ tbs_content t)) (required_with (tested_at is_integer) 0x02 v0) _ t e0 (λ v1 r1 e1.
    bound (FitsTbs t × (content ≡ tbs_content t)) (required_with algorithm_at 0x30 v1.1) _ t e1 (λ v2 r2 e2.
    bound (FitsTbs t × (content ≡ tbs_content t)) (name_front_at v2.1) _ t e2 (λ v3 r3 e3.
    bound (FitsTbs t × (content ≡ tbs_content t)) (required_with anything_at 0x30 v3.1) _ t e3 (λ v4 r4 e4.
    bound (FitsTbs t × (content ≡ tbs_content t)) (name_front_at v4.1) _ t e4 (λ v5 r5 e5.
    bound (FitsTbs t × (content ≡ tbs_content t)) (key_front_at v5.1) _ t e5 (λ v6 r6 e6.
    bound (FitsTbs t × (content ≡ tbs_content t)) (extensions_at v6.1) _ t e6 (λ v7 r7 e7.
    let f1 = serial_front.takes v0 v1.0 v1.1 r1 in
    let f2 = alg_front.takes v1.1 v2.0 v2.1 r2 in
    let f3 = name_front.takes v2.1 v3.0 v3.1 r3 in
    let f4 = validity_front.takes v3.1 v4.0 v4.1 r4 in
    let f5 = name_front.takes v4.1 v5.0 v5.1 r5 in
    let f6 = key_front.takes v5.1 v6.0 v6.1 r6 in
    let f7 = exts_read.takes v6.1 v7 r7 in
    let made : TbsForm = record { serial = v1.0; alg = v2.0; issuer = v3.0; validity = v4.0; subject = v5.0; spki = v6.0; exts = v7 } in
    subst (λ (x : TbsForm). FitsTbs x × (content ≡ tbs_content x)) (some_same made t e7) (
      record { serial = f1.0; alg = f2.0; issuer = f3.0; validity = f4.0; subject = f5.0; spki = f6.0; exts = f7.0 },
      tbs_made content made v0 v1.1 v2.1 v3.1 v4.1 v5.1 v6.1 (version_takes content v0 r0) f1.1 f2.1 f3.1 f4.1 f5.1 f6.1 f7.1,
    )))))))))

-- what stands behind each field
abbrev after_subject : TbsForm → List ℕ
after_subject t = t.spki ++ element 0xA3 (element 0x30 t.exts)

abbrev after_validity : TbsForm → List ℕ
after_validity t = t.subject ++ after_subject t

abbrev after_issuer : TbsForm → List ℕ
after_issuer t = element 0x30 t.validity ++ after_validity t

abbrev after_alg : TbsForm → List ℕ
after_alg t = t.issuer ++ after_issuer t

abbrev after_serial : TbsForm → List ℕ
after_serial t = element 0x30 (algorithm_content t.alg) ++ after_alg t

tbs_again : (t : TbsForm) → FitsTbs t → tbs_at (tbs_content t) ≡ Some t
unfolding tbs_at
tbs_again t fits =
    rw (
      version_again (element 0x02 t.serial ++ after_serial t),
      serial_front.again t.serial (after_serial t) fits.serial,
      alg_front.again t.alg (after_alg t) fits.alg,
      name_front.again t.issuer (after_issuer t) fits.issuer,
      validity_front.again t.validity (after_validity t) fits.validity,
      name_front.again t.subject (after_subject t) fits.subject,
      key_front.again t.spki (element 0xA3 (element 0x30 t.exts)) fits.spki,
      exts_read.again t.exts fits.exts,
    ) refl

-- The law of the signed part.
pub tbs_is_read : IsRead tbs_at tbs_content FitsTbs
tbs_is_read = record { takes = tbs_takes; again = tbs_again }

tbs_front : IsFront (required_with tbs_at 0x30) (tagged 0x30 tbs_content) (FitsTagged tbs_content FitsTbs)
tbs_front = required_front tbs_at 0x30 tbs_content FitsTbs (omega arith) tbs_is_read

sig_read : IsRead (sole_with (tested_at is_bits) 0x03) (tagged 0x03 same) (FitsTagged same (Passes is_bits))
sig_read = sole_is_read (tested_at is_bits) 0x03 same (Passes is_bits) (omega arith) (tested_is_read is_bits)

cert_takes : (content : List ℕ) (c : CertForm) → cert_inside content ≡ Some c → FitsCert c × (content ≡ cert_content c)
unfolding cert_inside
cert_takes content c e =
    bound (FitsCert c × (content ≡ cert_content c)) (required_with tbs_at 0x30 content) _ c e (λ v0 r0 e0.
    bound (FitsCert c × (content ≡ cert_content c)) (required_with algorithm_at 0x30 v0.1) _ c e0 (λ v1 r1 e1.
    bound (FitsCert c × (content ≡ cert_content c)) (sole_with (tested_at is_bits) 0x03 v1.1) _ c e1 (λ v2 r2 e2.
    let f0 = tbs_front.takes content v0.0 v0.1 r0 in
    let f1 = alg_front.takes v0.1 v1.0 v1.1 r1 in
    let f2 = sig_read.takes v1.1 v2 r2 in
    let made : CertForm = record { tbs = v0.0; sig_alg = v1.0; sig = v2 } in
    subst (λ (x : CertForm). FitsCert x × (content ≡ cert_content x)) (some_same made c e2) (
      record { tbs = f0.0; sig_alg = f1.0; sig = f2.0 },
      f0.1 ∙ ap (λ (l : List ℕ). element 0x30 (tbs_content v0.0) ++ l) (f1.1 ∙ ap (λ (l : List ℕ). element 0x30 (algorithm_content v1.0) ++ l) f2.1),
    ))))

cert_again : (c : CertForm) → FitsCert c → cert_inside (cert_content c) ≡ Some c
unfolding cert_inside
cert_again c fits =
    rw (
      tbs_front.again c.tbs (element 0x30 (algorithm_content c.sig_alg) ++ element 0x03 c.sig) fits.tbs,
      alg_front.again c.sig_alg (element 0x03 c.sig) fits.sig_alg,
      sig_read.again c.sig fits.sig,
    ) refl

inside_is_read : IsRead cert_inside cert_content FitsCert
inside_is_read = record { takes = cert_takes; again = cert_again }

-- The law of certificates.
pub cert_is_read : IsRead cert_at (tagged 0x30 cert_content) (FitsTagged cert_content FitsCert)
cert_is_read = sole_is_read cert_inside 0x30 cert_content FitsCert (omega arith) inside_is_read

-- what was read is spelled so
pub cert_found : (r : Result Cert BadForm) (bytes : List ℕ) → IfOk r (λ c. cert_at bytes ≡ Some (cert_of c)) → IfOk r (λ c. FitsTagged cert_content FitsCert (cert_of c) × (bytes ≡ cert_octets (cert_of c)))
cert_found (Ok c) bytes e = cert_is_read.takes bytes (cert_of c) e
cert_found (Err f) bytes e = tt

-- the signed part is an element of what it says
pub tbs_found : (r : Result Cert BadForm) → IfOk r (λ c. (content : List ℕ) × IsElement c.tbs.now 0x30 content × (tbs_at content ≡ Some (cert_of c).tbs)) → IfOk r (λ c. c.tbs.now ≡ tbs_octets (cert_of c).tbs)
tbs_found (Ok c) (content, is, read) = is.spelled ∙ ap (element 0x30) (tbs_is_read.takes content (cert_of c).tbs read).1
tbs_found (Err f) e = tt

pub cert_reads : (bytes : List ℕ) (f : CertForm) → FitsTagged cert_content FitsCert f → bytes ≡ cert_octets f → cert_at bytes ≡ Some f
cert_reads bytes f fits e = ap cert_at e ∙ cert_is_read.again f fits
