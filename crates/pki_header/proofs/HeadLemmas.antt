-- Headers are read exactly where they are spelled.
use Rattle.std.proofs.Common.{◌≡◌, ◌≢◌, ℕ, ◌%◌, ◌^◌, ◌<◌, ◌++◌, ◌&&◌, Bool, true, false, not, cond, eqb, IsTrue, ◌↔◌, is_some, is_ok, List, [], ◌∷◌, length, Option, Some, None, Result, Ok, Err, IfOk, append-nil, eqb-true, eq-eqb, refl, sym, ap, subst, ◌∙◌, arith}
use Rattle.std.specs.List.{list_all}
use Rattle.std.specs.Str.{is_utf8}
use Rattle.std.proofs.lemmas.Bool.Decides.{nat_tests}
use Rattle.der_base.specs.Element.{element, IsElement}
use Rattle.der_base.specs.Reading.{Part}
use Rattle.der_base.specs.Row.{items_of}
use Rattle.der_base.specs.Values.{is_integer, utf8_at}
use Rattle.der_base.specs.declared.fault.DerFault.{DerFault}
use Rattle.der_base.specs.declared.fault.DerFault.TheVariants.{BadTag, BadLength}
use Rattle.asn_fields.specs.Fields.{optional_with}
use Rattle.asn_fields.specs.Forms.{IsRead, IsFront, IsField, Above, optional_spelling, FitsOptional}
use Rattle.asn_fields.proofs.FieldLemmas.{bound, passed, some_same, optional_field, Above_optional}
use Rattle.asn_types.specs.Algorithm.{Algorithm, FitsAlgorithm, algorithm_content, algorithm_at}
use Rattle.asn_types.specs.Rows.{IsRowOf, passes}
use Rattle.asn_types.specs.Template.{IsAnything, Passes, same, tested_at, anything_at}
use Rattle.asn_types.proofs.AlgorithmLemmas.{algorithm_is_read}
use Rattle.asn_types.proofs.ExtensionLemmas.{extensions_test}
use Rattle.asn_types.proofs.NameLemmas.{false_true, not_empty}
use Rattle.asn_types.proofs.RowLemmas.{both, and_both, row_of}
use Rattle.asn_parts.specs.Parts.{tagged, FitsTagged, IsWholeGeneral, whole_of, required_with, sole_with, general_front_at}
use Rattle.asn_parts.proofs.PartLemmas.{tested_is_read, anything_is_read, required_front, sole_is_read, general_front}
use Rattle.pki_header.specs.Rows.{IsText, IsFreeText, IsInfo, IsGeneralInfo, is_text, is_free_text, is_info, is_general_info}
use Rattle.asn_fields.specs.declared.fault.BadForm.{BadForm}
use Rattle.pki_header.specs.declared.header.Header.{Header}
use Rattle.pki_header.specs.Header.{head_of, HeadForm, FitsHead, FitsExplicit, head_content, explicit_octets, explicit_at, head_at}

-- a test of a content, by what it means
tested_form : (test : List ℕ → Bool) (Form : List ℕ → Type 0) → ((content : List ℕ) → IsTrue (test content) ↔ Form content) → IsRead (tested_at test) same Form
tested_form test Form means = record {
  takes = λ bytes x e. let t = (tested_is_read test).takes bytes x e in ((means x).0 t.0, t.1);
  again = λ x h. (tested_is_read test).again x ((means x).1 h);
}

-- texts
text_tests : (a b : Bool) (content : List ℕ) → IsTrue (is_ok {E = DerFault} (cond a (cond b (Ok content) (Err BadLength)) (Err BadTag))) → (a ≡ true) × (b ≡ true)
text_tests true true content h = (refl, refl)
text_tests true false content h = cc
text_tests false b content h = cc

tests_text : (a b : Bool) (content : List ℕ) → a ≡ true → b ≡ true → IsTrue (is_ok {E = DerFault} (cond a (cond b (Ok content) (Err BadLength)) (Err BadTag)))
tests_text true true content h k = refl
tests_text true false content h k = cc
tests_text false b content h k = cc

text_test : (p : Part) → IsTrue (is_text p) ↔ IsText p
unfolding is_text utf8_at
text_test p = (
  λ h. let t = text_tests (eqb p.tag 0x0C) (is_utf8 p.content) p.content h in record { tagged = eqb-true _ _ t.0; text = t.1 },
  λ r. tests_text (eqb p.tag 0x0C) (is_utf8 p.content) p.content (eq-eqb _ _ r.tagged) r.text,
)

free_text_test : (content : List ℕ) → IsTrue (is_free_text content) ↔ IsFreeText content
unfolding is_free_text
free_text_test content = (
  λ h.
      let parts = both (not (eqb (length content) 0)) _ h in
      record { some = (not_empty content).0 parts.0; row = (row_of is_text IsText text_test content).0 parts.1 },
  λ r. and_both (not (eqb (length content) 0)) _ ((not_empty content).1 r.some) ((row_of is_text IsText text_test content).1 r.row),
)

-- general information
some_there : {X : Type 0} (o : Option X) → IsTrue (is_some o) → (x : X) × (o ≡ Some x)
some_there None h = absurd (false_true h)
some_there (Some x) h = (x, refl)

pub info_test : (p : Part) → IsTrue (is_info p) ↔ IsInfo p
unfolding is_info
info_test p = (
  λ h.
      let parts = both (eqb p.tag 0x30) _ h in
      let there = some_there (algorithm_at p.content) parts.1 in
      let law = algorithm_is_read.takes p.content there.0 there.1 in
      record { form = there.0; is_sequence = eqb-true _ _ parts.0; fits = law.0; spelled = law.1 },
  λ r. and_both (eqb p.tag 0x30) _ (eq-eqb _ _ r.is_sequence) (ap is_some (ap algorithm_at r.spelled ∙ algorithm_is_read.again r.form r.fits)),
)

general_info_test : (content : List ℕ) → IsTrue (is_general_info content) ↔ IsGeneralInfo content
unfolding is_general_info
general_info_test content = (
  λ h.
      let parts = both (not (eqb (length content) 0)) _ h in
      record { some = (not_empty content).0 parts.0; row = (row_of is_info IsInfo info_test content).0 parts.1 },
  λ r. and_both (not (eqb (length content) 0)) _ ((not_empty content).1 r.some) ((row_of is_info IsInfo info_test content).1 r.row),
)

-- the fields
pvno_front : IsFront (required_with (tested_at is_integer) 0x02) (tagged 0x02 same) (FitsTagged same (Passes is_integer))
pvno_front = required_front (tested_at is_integer) 0x02 same (Passes is_integer) (omega arith) (tested_is_read is_integer)

explicit_field : (read : List ℕ → Option (List ℕ)) (Form : List ℕ → Type 0) (tag inner : ℕ) → tag % 32 ≢ 31 → inner % 32 ≢ 31 → IsRead read same Form → IsField (explicit_at read tag inner) tag (tagged inner same) (FitsTagged same Form)
explicit_field read Form tag inner low inner_low law = optional_field (sole_with read inner) tag (tagged inner same) (FitsTagged same Form) low (sole_is_read read inner same Form inner_low law)

octets_field : (tag inner : ℕ) → tag % 32 ≢ 31 → inner % 32 ≢ 31 → IsField (explicit_at anything_at tag inner) tag (tagged inner same) (FitsTagged same IsAnything)
octets_field tag inner low inner_low = explicit_field anything_at IsAnything tag inner low inner_low anything_is_read

time_field : IsField (explicit_at anything_at 0xA0 0x18) 0xA0 (tagged 0x18 same) (FitsTagged same IsAnything)
time_field = octets_field 0xA0 0x18 (omega arith) (omega arith)

alg_field : IsField (optional_with (sole_with algorithm_at 0x30) 0xA1) 0xA1 (tagged 0x30 algorithm_content) (FitsTagged algorithm_content FitsAlgorithm)
alg_field = optional_field (sole_with algorithm_at 0x30) 0xA1 (tagged 0x30 algorithm_content) (FitsTagged algorithm_content FitsAlgorithm) (omega arith) (sole_is_read algorithm_at 0x30 algorithm_content FitsAlgorithm (omega arith) algorithm_is_read)

sender_kid_field : IsField (explicit_at anything_at 0xA2 0x04) 0xA2 (tagged 0x04 same) (FitsTagged same IsAnything)
sender_kid_field = octets_field 0xA2 0x04 (omega arith) (omega arith)

recip_kid_field : IsField (explicit_at anything_at 0xA3 0x04) 0xA3 (tagged 0x04 same) (FitsTagged same IsAnything)
recip_kid_field = octets_field 0xA3 0x04 (omega arith) (omega arith)

tid_field : IsField (explicit_at anything_at 0xA4 0x04) 0xA4 (tagged 0x04 same) (FitsTagged same IsAnything)
tid_field = octets_field 0xA4 0x04 (omega arith) (omega arith)

sender_nonce_field : IsField (explicit_at anything_at 0xA5 0x04) 0xA5 (tagged 0x04 same) (FitsTagged same IsAnything)
sender_nonce_field = octets_field 0xA5 0x04 (omega arith) (omega arith)

recip_nonce_field : IsField (explicit_at anything_at 0xA6 0x04) 0xA6 (tagged 0x04 same) (FitsTagged same IsAnything)
recip_nonce_field = octets_field 0xA6 0x04 (omega arith) (omega arith)

free_text_field : IsField (explicit_at (tested_at is_free_text) 0xA7 0x30) 0xA7 (tagged 0x30 same) (FitsTagged same IsFreeText)
free_text_field = explicit_field (tested_at is_free_text) IsFreeText 0xA7 0x30 (omega arith) (omega arith) (tested_form is_free_text IsFreeText free_text_test)

info_field : IsField (explicit_at (tested_at is_general_info) 0xA8 0x30) 0xA8 (tagged 0x30 same) (FitsTagged same IsGeneralInfo)
info_field = explicit_field (tested_at is_general_info) IsGeneralInfo 0xA8 0x30 (omega arith) (omega arith) (tested_form is_general_info IsGeneralInfo general_info_test)

-- what follows each field
abbrev after_free_text : HeadForm → List ℕ
after_free_text h = explicit_octets 0xA8 0x30 h.info

abbrev after_recip_nonce : HeadForm → List ℕ
after_recip_nonce h = explicit_octets 0xA7 0x30 h.free_text ++ after_free_text h

abbrev after_sender_nonce : HeadForm → List ℕ
after_sender_nonce h = explicit_octets 0xA6 0x04 h.recip_nonce ++ after_recip_nonce h

abbrev after_tid : HeadForm → List ℕ
after_tid h = explicit_octets 0xA5 0x04 h.sender_nonce ++ after_sender_nonce h

abbrev after_recip_kid : HeadForm → List ℕ
after_recip_kid h = explicit_octets 0xA4 0x04 h.tid ++ after_tid h

abbrev after_sender_kid : HeadForm → List ℕ
after_sender_kid h = explicit_octets 0xA3 0x04 h.recip_kid ++ after_recip_kid h

abbrev after_alg : HeadForm → List ℕ
after_alg h = explicit_octets 0xA2 0x04 h.sender_kid ++ after_sender_kid h

abbrev after_time : HeadForm → List ℕ
after_time h = optional_spelling 0xA1 (tagged 0x30 algorithm_content) h.alg ++ after_alg h

abbrev after_recipient : HeadForm → List ℕ
after_recipient h = explicit_octets 0xA0 0x18 h.time ++ after_time h

head_made : (content : List ℕ) (h : HeadForm) (r0 r1 r2 r3 r4 r5 r6 r7 r8 r9 r10 r11 : List ℕ)
    → content ≡ element 0x02 h.pvno ++ r0
    → r0 ≡ h.sender.whole ++ r1
    → r1 ≡ h.recipient.whole ++ r2
    → r2 ≡ explicit_octets 0xA0 0x18 h.time ++ r3
    → r3 ≡ optional_spelling 0xA1 (tagged 0x30 algorithm_content) h.alg ++ r4
    → r4 ≡ explicit_octets 0xA2 0x04 h.sender_kid ++ r5
    → r5 ≡ explicit_octets 0xA3 0x04 h.recip_kid ++ r6
    → r6 ≡ explicit_octets 0xA4 0x04 h.tid ++ r7
    → r7 ≡ explicit_octets 0xA5 0x04 h.sender_nonce ++ r8
    → r8 ≡ explicit_octets 0xA6 0x04 h.recip_nonce ++ r9
    → r9 ≡ explicit_octets 0xA7 0x30 h.free_text ++ r10
    → r10 ≡ explicit_octets 0xA8 0x30 h.info ++ r11
    → r11 ≡ [] → content ≡ head_content h
head_made content h r0 r1 r2 r3 r4 r5 r6 r7 r8 r9 r10 r11 e0 e1 e2 e3 e4 e5 e6 e7 e8 e9 e10 e11 end =
    let s10 : r10 ≡ after_free_text h = e11 ∙ ap (λ (l : List ℕ). explicit_octets 0xA8 0x30 h.info ++ l) end ∙ append-nil (explicit_octets 0xA8 0x30 h.info) in
    let s9 : r9 ≡ after_recip_nonce h = e10 ∙ ap (λ (l : List ℕ). explicit_octets 0xA7 0x30 h.free_text ++ l) s10 in
    let s8 : r8 ≡ after_sender_nonce h = e9 ∙ ap (λ (l : List ℕ). explicit_octets 0xA6 0x04 h.recip_nonce ++ l) s9 in
    let s7 : r7 ≡ after_tid h = e8 ∙ ap (λ (l : List ℕ). explicit_octets 0xA5 0x04 h.sender_nonce ++ l) s8 in
    let s6 : r6 ≡ after_recip_kid h = e7 ∙ ap (λ (l : List ℕ). explicit_octets 0xA4 0x04 h.tid ++ l) s7 in
    let s5 : r5 ≡ after_sender_kid h = e6 ∙ ap (λ (l : List ℕ). explicit_octets 0xA3 0x04 h.recip_kid ++ l) s6 in
    let s4 : r4 ≡ after_alg h = e5 ∙ ap (λ (l : List ℕ). explicit_octets 0xA2 0x04 h.sender_kid ++ l) s5 in
    let s3 : r3 ≡ after_time h = e4 ∙ ap (λ (l : List ℕ). optional_spelling 0xA1 (tagged 0x30 algorithm_content) h.alg ++ l) s4 in
    let s2 : r2 ≡ after_recipient h = e3 ∙ ap (λ (l : List ℕ). explicit_octets 0xA0 0x18 h.time ++ l) s3 in
    let s1 : r1 ≡ h.recipient.whole ++ after_recipient h = e2 ∙ ap (λ (l : List ℕ). h.recipient.whole ++ l) s2 in
    e0 ∙ ap (λ (l : List ℕ). element 0x02 h.pvno ++ l) (e1 ∙ ap (λ (l : List ℕ). h.sender.whole ++ l) s1)

-- a list of no length is empty
empty_of : (l : List ℕ) → eqb (length l) 0 ≡ true → l ≡ []
empty_of [] h = refl
empty_of (x ∷ l) h = absurd (omega (arith, eqb-true (length (x ∷ l)) 0 h))

abbrev Spelled : List ℕ → HeadForm → Type 0
Spelled content h = FitsHead h × (content ≡ head_content h)

head_takes : (content : List ℕ) (h : HeadForm) → head_at content ≡ Some h → FitsHead h × (content ≡ head_content h)
unfolding head_at
head_takes content h e =
    bound (Spelled content h) (required_with (tested_at is_integer) 0x02 content) _ h e (λ v0 r0 e0.
    bound (Spelled content h) (general_front_at v0.1) _ h e0 (λ v1 r1 e1.
    bound (Spelled content h) (general_front_at v1.1) _ h e1 (λ v2 r2 e2.
    bound (Spelled content h) (explicit_at anything_at 0xA0 0x18 v2.1) _ h e2 (λ v3 r3 e3.
    bound (Spelled content h) (optional_with (sole_with algorithm_at 0x30) 0xA1 v3.1) _ h e3 (λ v4 r4 e4.
    bound (Spelled content h) (explicit_at anything_at 0xA2 0x04 v4.1) _ h e4 (λ v5 r5 e5.
    bound (Spelled content h) (explicit_at anything_at 0xA3 0x04 v5.1) _ h e5 (λ v6 r6 e6.
    bound (Spelled content h) (explicit_at anything_at 0xA4 0x04 v6.1) _ h e6 (λ v7 r7 e7.
    bound (Spelled content h) (explicit_at anything_at 0xA5 0x04 v7.1) _ h e7 (λ v8 r8 e8.
    bound (Spelled content h) (explicit_at anything_at 0xA6 0x04 v8.1) _ h e8 (λ v9 r9 e9.
    bound (Spelled content h) (explicit_at (tested_at is_free_text) 0xA7 0x30 v9.1) _ h e9 (λ v10 r10 e10.
    bound (Spelled content h) (explicit_at (tested_at is_general_info) 0xA8 0x30 v10.1) _ h e10 (λ v11 r11 e11.
    let made : HeadForm = record { pvno = v0.0; sender = v1.0; recipient = v2.0; time = v3.0; alg = v4.0; sender_kid = v5.0; recip_kid = v6.0; tid = v7.0; sender_nonce = v8.0; recip_nonce = v9.0; free_text = v10.0; info = v11.0 } in
    passed (Spelled content h) (eqb (length v11.1) 0) made h e11 (λ none is.
    let f0 = pvno_front.takes content v0.0 v0.1 r0 in
    let f1 = general_front.takes v0.1 v1.0 v1.1 r1 in
    let f2 = general_front.takes v1.1 v2.0 v2.1 r2 in
    let f3 = time_field.takes v2.1 v3.0 v3.1 r3 in
    let f4 = alg_field.takes v3.1 v4.0 v4.1 r4 in
    let f5 = sender_kid_field.takes v4.1 v5.0 v5.1 r5 in
    let f6 = recip_kid_field.takes v5.1 v6.0 v6.1 r6 in
    let f7 = tid_field.takes v6.1 v7.0 v7.1 r7 in
    let f8 = sender_nonce_field.takes v7.1 v8.0 v8.1 r8 in
    let f9 = recip_nonce_field.takes v8.1 v9.0 v9.1 r9 in
    let f10 = free_text_field.takes v9.1 v10.0 v10.1 r10 in
    let f11 = info_field.takes v10.1 v11.0 v11.1 r11 in
    subst (Spelled content) is (
      record { pvno = f0.0; sender = f1.0; recipient = f2.0; time = f3.0; alg = f4.0; sender_kid = f5.0; recip_kid = f6.0; tid = f7.0; sender_nonce = f8.0; recip_nonce = f9.0; free_text = f10.0; info = f11.0 },
      head_made content made v0.1 v1.1 v2.1 v3.1 v4.1 v5.1 v6.1 v7.1 v8.1 v9.1 v10.1 v11.1 f0.1 f1.1 f2.1 f3.1 f4.1 f5.1 f6.1 f7.1 f8.1 f9.1 f10.1 f11.1 (empty_of v11.1 none),
    ))))))))))))))

-- the last field, with nothing behind it
above_last : (tag : ℕ) → tag < 0xA8 → (o : Option (List ℕ)) → Above tag (explicit_octets 0xA8 0x30 o)
unfolding element
above_last tag h None = tt
above_last tag h (Some x) = h

info_again : (h : HeadForm) → FitsExplicit 0x30 IsGeneralInfo h.info → explicit_at (tested_at is_general_info) 0xA8 0x30 (explicit_octets 0xA8 0x30 h.info) ≡ Some (h.info, [])
info_again h fits = ap (explicit_at (tested_at is_general_info) 0xA8 0x30) (sym (append-nil (explicit_octets 0xA8 0x30 h.info))) ∙ info_field.again h.info [] fits tt

head_again : (h : HeadForm) → FitsHead h → head_at (head_content h) ≡ Some h
unfolding head_at
head_again h fits =
    let a10 : Above 0xA7 (after_free_text h) = above_last 0xA7 (omega arith) h.info in
    let a9 : Above 0xA6 (after_recip_nonce h) = Above_optional 0xA6 0xA7 (tagged 0x30 same) h.free_text (after_free_text h) (omega arith) a10 in
    let a8 : Above 0xA5 (after_sender_nonce h) = Above_optional 0xA5 0xA6 (tagged 0x04 same) h.recip_nonce (after_recip_nonce h) (omega arith) a9 in
    let a7 : Above 0xA4 (after_tid h) = Above_optional 0xA4 0xA5 (tagged 0x04 same) h.sender_nonce (after_sender_nonce h) (omega arith) a8 in
    let a6 : Above 0xA3 (after_recip_kid h) = Above_optional 0xA3 0xA4 (tagged 0x04 same) h.tid (after_tid h) (omega arith) a7 in
    let a5 : Above 0xA2 (after_sender_kid h) = Above_optional 0xA2 0xA3 (tagged 0x04 same) h.recip_kid (after_recip_kid h) (omega arith) a6 in
    let a4 : Above 0xA1 (after_alg h) = Above_optional 0xA1 0xA2 (tagged 0x04 same) h.sender_kid (after_sender_kid h) (omega arith) a5 in
    let a3 : Above 0xA0 (after_time h) = Above_optional 0xA0 0xA1 (tagged 0x30 algorithm_content) h.alg (after_alg h) (omega arith) a4 in
    rw (
      pvno_front.again h.pvno (h.sender.whole ++ (h.recipient.whole ++ after_recipient h)) fits.pvno,
      general_front.again h.sender (h.recipient.whole ++ after_recipient h) fits.sender,
      general_front.again h.recipient (after_recipient h) fits.recipient,
      time_field.again h.time (after_time h) fits.time a3,
      alg_field.again h.alg (after_alg h) fits.alg a4,
      sender_kid_field.again h.sender_kid (after_sender_kid h) fits.sender_kid a5,
      recip_kid_field.again h.recip_kid (after_recip_kid h) fits.recip_kid a6,
      tid_field.again h.tid (after_tid h) fits.tid a7,
      sender_nonce_field.again h.sender_nonce (after_sender_nonce h) fits.sender_nonce a8,
      recip_nonce_field.again h.recip_nonce (after_recip_nonce h) fits.recip_nonce a9,
      free_text_field.again h.free_text (after_free_text h) fits.free_text a10,
      info_again h fits.info,
    ) refl

-- The law of headers.
pub head_is_read : IsRead head_at head_content FitsHead
head_is_read = record { takes = head_takes; again = head_again }

-- what was read is spelled so
pub head_found : (r : Result Header BadForm) (tag : ℕ) (content : List ℕ) → IfOk r (λ h. (tag ≡ 0x30) × (head_at content ≡ Some (head_of h))) → IfOk r (λ h. (tag ≡ 0x30) × FitsHead (head_of h) × (content ≡ head_content (head_of h)))
head_found (Ok h) tag content (t, e) = let w = head_takes content (head_of h) e in (t, w.0, w.1)
head_found (Err f) tag content e = tt

pub head_reads : (content : List ℕ) (f : HeadForm) → FitsHead f → content ≡ head_content f → head_at content ≡ Some f
head_reads content f fits e = ap head_at e ∙ head_again f fits
