-- Certification requests are read exactly where they are spelled.
use Rattle.std.proofs.Common.{◌≡◌, ◌≢◌, ℕ, ◌%◌, ◌^◌, ◌<◌, ◌++◌, IsTrue, List, [], ◌∷◌, length, Option, Some, None, Result, Ok, Err, IfOk, refl, sym, ap, subst, ◌∙◌, arith}
use Rattle.der_base.specs.Element.{element, IsElement}
use Rattle.der_base.specs.Reading.{Part}
use Rattle.der_base.specs.Values.{is_integer}
use Rattle.asn_fields.specs.Fields.{◌>>=◌, Gives, field_at}
use Rattle.asn_fields.specs.Forms.{IsRead, IsFront}
use Rattle.asn_fields.specs.declared.fault.BadForm.{BadForm}
use Rattle.asn_fields.proofs.FieldLemmas.{IsTagged, bound, some_same, field_takes, field_reads}
use Rattle.asn_types.specs.Algorithm.{algorithm_content, algorithm_at}
use Rattle.asn_types.specs.Key.{FitsKey, key_content, key_at}
use Rattle.asn_types.specs.Template.{same, tested_at}
use Rattle.asn_types.proofs.KeyLemmas.{key_is_read}
use Rattle.asn_parts.specs.Parts.{tagged, FitsTagged, required_with, sole_with, name_front_at}
use Rattle.asn_parts.proofs.PartLemmas.{required_front, sole_is_read, name_front}
use Rattle.req_forms.specs.Possession.{signature_element, sole_signature_at}
use Rattle.req_forms.specs.Attributes.{IsAttributes, attributes_content, attributes_at}
use Rattle.req_forms.specs.Pkcs10.{InfoForm, info_content, FitsInfo, P10Form, p10_content, FitsP10, IsP10, p10_of, info_at, info_front_at, p10_inside_at, p10_at}
use Rattle.req_forms.specs.declared.pkcs10.P10.{P10}
use Rattle.req_forms.proofs.FieldLemmas.{signature_is_read}
use Rattle.req_forms.proofs.PossessionLemmas.{alg_front}
use Rattle.req_forms.proofs.RequestLemmas.{id_front}
use Rattle.req_forms.proofs.AttributeLemmas.{attributes_are_read}

key_front : IsFront (required_with key_at 0x30) (tagged 0x30 key_content) (FitsTagged key_content FitsKey)
key_front = required_front key_at 0x30 key_content FitsKey (omega arith) key_is_read

attributes_alone : IsRead (sole_with attributes_at 0xA0) (tagged 0xA0 attributes_content) (FitsTagged attributes_content IsAttributes)
attributes_alone = sole_is_read attributes_at 0xA0 attributes_content IsAttributes (omega arith) attributes_are_read

info_made : (bytes : List ℕ) (i : InfoForm) (r0 r1 r2 : List ℕ) → bytes ≡ element 0x02 i.version ++ r0 → r0 ≡ i.subject ++ r1 → r1 ≡ element 0x30 (key_content i.key) ++ r2 → r2 ≡ element 0xA0 (attributes_content i.attributes) → bytes ≡ info_content i
info_made bytes i r0 r1 r2 e0 e1 e2 e3 =
    e0 ∙ ap (λ (l : List ℕ). element 0x02 i.version ++ l) (e1 ∙ ap (λ (l : List ℕ). i.subject ++ l) (e2 ∙ ap (λ (l : List ℕ). element 0x30 (key_content i.key) ++ l) e3))

info_takes : (bytes : List ℕ) (i : InfoForm) → info_at bytes ≡ Some i → FitsInfo i × (bytes ≡ info_content i)
unfolding info_at
info_takes bytes i e =
    bound (FitsInfo i × (bytes ≡ info_content i)) (required_with (tested_at is_integer) 0x02 bytes) _ i e (λ v r0 e0.
    bound (FitsInfo i × (bytes ≡ info_content i)) (name_front_at v.1) _ i e0 (λ s r1 e1.
    bound (FitsInfo i × (bytes ≡ info_content i)) (required_with key_at 0x30 s.1) _ i e1 (λ k r2 e2.
    bound (FitsInfo i × (bytes ≡ info_content i)) (sole_with attributes_at 0xA0 k.1) _ i e2 (λ a r3 e3.
    let f0 = id_front.takes bytes v.0 v.1 r0 in
    let f1 = name_front.takes v.1 s.0 s.1 r1 in
    let f2 = key_front.takes s.1 k.0 k.1 r2 in
    let f3 = attributes_alone.takes k.1 a r3 in
    subst (λ (x : InfoForm). FitsInfo x × (bytes ≡ info_content x)) (some_same (record { version = v.0; subject = s.0; key = k.0; attributes = a }) i e3) (
      record { version = f0.0; subject = f1.0; key = f2.0; attributes = f3.0 },
      info_made bytes (record { version = v.0; subject = s.0; key = k.0; attributes = a }) v.1 s.1 k.1 f0.1 f1.1 f2.1 f3.1,
    )))))

info_again : (i : InfoForm) → FitsInfo i → info_at (info_content i) ≡ Some i
unfolding info_at
info_again i fits =
    rw (
      id_front.again i.version (i.subject ++ (element 0x30 (key_content i.key) ++ element 0xA0 (attributes_content i.attributes))) fits.version,
      name_front.again i.subject (element 0x30 (key_content i.key) ++ element 0xA0 (attributes_content i.attributes)) fits.subject,
      key_front.again i.key (element 0xA0 (attributes_content i.attributes)) fits.key,
      attributes_alone.again i.attributes fits.attributes,
    ) refl

-- an info as it stands at the front, and what is in it
record IsInfoFront (bytes octets : List ℕ) (i : InfoForm) (rest : List ℕ) : Type 0 where
  fits : FitsInfo i
  alone : IsElement octets 0x30 (info_content i)
  parts : bytes ≡ octets ++ rest

info_front_by : (bytes octets : List ℕ) (i : InfoForm) (rest : List ℕ) (p : Part) (more : List ℕ) (x : InfoForm) → IsTagged 0x30 bytes p more → FitsInfo x → p.content ≡ info_content x → ◌≡◌ {A = (List ℕ × InfoForm) × List ℕ} ((p.whole, x), more) ((octets, i), rest) → IsInfoFront bytes octets i rest
info_front_by bytes octets i rest p more x t fits c e =
    subst (λ (z : (List ℕ × InfoForm) × List ℕ). IsInfoFront bytes z.0.0 z.0.1 z.1) e
    (record { fits = fits; alone = subst (λ (l : List ℕ). IsElement p.whole 0x30 l) c t.element_is; parts = t.parts })

info_front_takes : (bytes octets : List ℕ) (i : InfoForm) (rest : List ℕ) → info_front_at bytes ≡ Some ((octets, i), rest) → IsInfoFront bytes octets i rest
unfolding info_front_at
info_front_takes bytes octets i rest e =
    bound (IsInfoFront bytes octets i rest) (field_at 0x30 bytes) _ ((octets, i), rest) e (λ f read e1.
    bound (IsInfoFront bytes octets i rest) (info_at f.0.content) (λ (x : InfoForm). Some ((f.0.whole, x), f.1)) ((octets, i), rest) e1 (λ x got last.
    let w = info_takes f.0.content x got in
    info_front_by bytes octets i rest f.0 f.1 x (field_takes 0x30 bytes f.0 f.1 read) w.0 w.1 (some_same ((f.0.whole, x), f.1) ((octets, i), rest) last)))

info_front_again : (octets : List ℕ) (i : InfoForm) (rest : List ℕ) → IsElement octets 0x30 (info_content i) → FitsInfo i → info_front_at (octets ++ rest) ≡ Some ((octets, i), rest)
unfolding info_front_at
info_front_again octets i rest is fits =
    rw (field_reads 0x30 (octets ++ rest) octets (info_content i) rest is refl, info_again i fits)
    (ap (λ (l : List ℕ). let x : (List ℕ × InfoForm) × List ℕ = ((l, i), rest) in Some x) (sym is.spelled))

p10_made : (bytes : List ℕ) (p : P10Form) (r0 r1 : List ℕ) → bytes ≡ p.info ++ r0 → r0 ≡ element 0x30 (algorithm_content p.alg) ++ r1 → r1 ≡ signature_element p.sig → bytes ≡ p10_content p
p10_made bytes p r0 r1 e0 e1 e2 = e0 ∙ ap (λ (l : List ℕ). p.info ++ l) (e1 ∙ ap (λ (l : List ℕ). element 0x30 (algorithm_content p.alg) ++ l) e2)

p10_inside_takes : (bytes : List ℕ) (p : P10Form) → p10_inside_at bytes ≡ Some p → FitsP10 p × (bytes ≡ p10_content p)
unfolding p10_inside_at
p10_inside_takes bytes p e =
    bound (FitsP10 p × (bytes ≡ p10_content p)) (info_front_at bytes) _ p e (λ i r0 e0.
    bound (FitsP10 p × (bytes ≡ p10_content p)) (required_with algorithm_at 0x30 i.1) _ p e0 (λ a r1 e1.
    bound (FitsP10 p × (bytes ≡ p10_content p)) (sole_signature_at a.1) _ p e1 (λ s r2 e2.
    let f0 = info_front_takes bytes i.0.0 i.0.1 i.1 r0 in
    let f1 = alg_front.takes i.1 a.0 a.1 r1 in
    let f2 = signature_is_read.takes a.1 s r2 in
    subst (λ (x : P10Form). FitsP10 x × (bytes ≡ p10_content x)) (some_same (record { info = i.0.0; inside = i.0.1; alg = a.0; sig = s }) p e2) (
      record { info = f0.alone; inside = f0.fits; alg = f1.0; sig = f2.0 },
      p10_made bytes (record { info = i.0.0; inside = i.0.1; alg = a.0; sig = s }) i.1 a.1 f0.parts f1.1 f2.1,
    ))))

p10_inside_again : (p : P10Form) → FitsP10 p → p10_inside_at (p10_content p) ≡ Some p
unfolding p10_inside_at
p10_inside_again p fits =
    rw (
      info_front_again p.info p.inside (element 0x30 (algorithm_content p.alg) ++ signature_element p.sig) fits.info fits.inside,
      alg_front.again p.alg (signature_element p.sig) fits.alg,
      signature_is_read.again p.sig fits.sig,
    ) refl

p10_law : IsRead (sole_with p10_inside_at 0x30) (tagged 0x30 p10_content) (FitsTagged p10_content FitsP10)
p10_law = sole_is_read p10_inside_at 0x30 p10_content FitsP10 (omega arith) (record { takes = p10_inside_takes; again = p10_inside_again })

pub p10_takes : (bytes : List ℕ) (p : P10Form) → p10_at bytes ≡ Some p → IsP10 bytes p
unfolding p10_at
p10_takes bytes p e =
    let w = p10_law.takes bytes p e in
    record { fits = w.0.0; alone = record { low_tag = omega arith; counted = w.0.1; spelled = w.1 } }

pub p10_again : (bytes : List ℕ) (p : P10Form) → IsP10 bytes p → p10_at bytes ≡ Some p
unfolding p10_at
p10_again bytes p is = ap (sole_with p10_inside_at 0x30) is.alone.spelled ∙ p10_law.again p (is.fits, is.alone.counted)

pub p10_found : (bytes : List ℕ) (r : Result P10 BadForm) → Gives p10_of r (p10_at bytes) → IfOk r (λ p. IsP10 bytes (p10_of p))
p10_found bytes (Ok p) e = p10_takes bytes (p10_of p) e
p10_found bytes (Err f) e = tt

pub p10_only : (bytes : List ℕ) (r : Result P10 BadForm) → Gives p10_of r (p10_at bytes) → (p : P10Form) → IsP10 bytes p → Gives p10_of r (Some p)
p10_only bytes (Ok x) e p is = sym (p10_again bytes p is) ∙ e
p10_only bytes (Err f) e p is = sym (p10_again bytes p is) ∙ e
