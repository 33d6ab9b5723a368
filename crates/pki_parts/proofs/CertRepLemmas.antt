-- Replies to requests for certificates are read exactly where they are spelled.
use Rattle.std.proofs.Common.{◌≡◌, ◌≢◌, ℕ, ℤ, ◌+◌, ◌%◌, ◌^◌, ◌<◌, ◌≤◌, ◌++◌, Bool, true, false, cond, eqb, List, [], ◌∷◌, length, map, Option, Some, None, Result, Ok, Err, IfOk, append-nil, eqb-true, eq-eqb, refl, sym, ap, subst, ◌∙◌, arith}
use Rattle.std.specs.Prelude.{IfSome}
use Rattle.std.proofs.lemmas.List.{length-append, length-map}
use Rattle.asn_types.proofs.LengthLemmas.{length_element_le}
use Rattle.der_base.specs.Element.{element, IsElement}
use Rattle.der_base.specs.Reading.{Part, whole_at}
use Rattle.der_base.specs.Values.{is_integer}
use Rattle.asn_fields.specs.Fields.{Gives, ok_of, sole_at, optional_with}
use Rattle.asn_fields.specs.Forms.{IsRead, IsFront, IsField, optional_spelling, FitsOptional}
use Rattle.asn_fields.specs.Rows.{RowForm, IsRowContent, row_of, entries_spelling, FitsEntries, row_at}
use Rattle.asn_fields.specs.declared.fault.BadForm.{BadForm}
use Rattle.asn_fields.proofs.FieldLemmas.{IsTagged, bound, passed, some_same, none_some, sole_takes, sole_reads, optional_field}
use Rattle.asn_fields.proofs.RowLemmas.{row_takes, row_again}
use Rattle.asn_types.specs.Algorithm.{IsAny}
use Rattle.asn_types.specs.Template.{IsAnything, Passes, same, tested_at, anything_at}
use Rattle.asn_types.proofs.OptionalLemmas.{IsNotAt, optional_there, optional_not}
use Rattle.asn_types.proofs.ValueLemmas.{whole_takes, whole_again}
use Rattle.asn_parts.specs.Parts.{tagged, FitsTagged, required_with, sole_with}
use Rattle.asn_parts.proofs.PartLemmas.{tested_is_read, anything_is_read, required_front, sole_is_read}
use Rattle.pki_parts.specs.Certificates.{IsElements, IsWholeCertificate, IsCertificates, are_elements, are_certificates}
use Rattle.pki_parts.specs.Identifier.{id_octets}
use Rattle.pki_parts.specs.Status.{StatusForm, status_content, status_at, option_size}
use Rattle.pki_parts.specs.CertRep.{CertForm, certificate, encrypted, cert_spelling, FitsCert, PairForm, pair_content, FitsPair, ResponseForm, response_content, FitsResponse, ShownForm, shown_of, RepForm, ca_pubs_spelling, FitsCaPubs, IsCertRep, rep_of, certificate_at, any_alone_at, cert_or, cert_front_at, pair_at, response_at, shown_row, rep_at, pair_octets, response_octets, rep_octets, written_response, written_rep, IsWritten}
use Rattle.pki_parts.specs.declared.cert_rep.CertRep.{CertRep}
use Rattle.pki_parts.proofs.CertificateLemmas.{elements_test, certificates_are_read}
use Rattle.pki_parts.proofs.FieldLemmas.{nothing_over, field_not, field_last, other_tag, front_fits, back_fits, inside_fits}
use Rattle.pki_parts.proofs.StatusLemmas.{status_field}

-- a certificate, and an element of any form, that stands alone
certificate_by : (bytes x : List ℕ) (p : Part) → IsElements p.content → IsTagged 0x30 bytes p [] → p.whole ≡ x → IsWholeCertificate x × (bytes ≡ same x)
certificate_by bytes x p elements t e = (record { content = p.content; alone = subst (λ (l : List ℕ). IsElement l 0x30 p.content) e t.element_is; elements = elements }, t.parts ∙ append-nil p.whole ∙ e)

certificate_takes : (bytes x : List ℕ) → certificate_at bytes ≡ Some x → IsWholeCertificate x × (bytes ≡ same x)
unfolding certificate_at
certificate_takes bytes x e =
    bound (IsWholeCertificate x × (bytes ≡ same x)) (sole_at 0x30 bytes) _ x e (λ p read last.
    passed (IsWholeCertificate x × (bytes ≡ same x)) (are_elements p.content) p.whole x last (λ elements is.
    certificate_by bytes x p ((elements_test p.content).0 elements) (sole_takes 0x30 bytes p read) is))

certificate_again : (x : List ℕ) → IsWholeCertificate x → certificate_at (same x) ≡ Some x
unfolding certificate_at
certificate_again x is = rw (sole_reads 0x30 x is.content is.alone, (elements_test is.content).1 is.elements) (ap (λ (l : List ℕ). Some l) (sym is.alone.spelled))

certificate_is_read : IsRead certificate_at same IsWholeCertificate
certificate_is_read = record { takes = certificate_takes; again = certificate_again }

any_by : (bytes x : List ℕ) (p : Part) → IsElement bytes p.tag p.content → p.whole ≡ bytes → p.whole ≡ x → IsAny x × (bytes ≡ same x)
any_by bytes x p is all e =
    let whole_is : bytes ≡ x = sym all ∙ e in
    (record { tag = p.tag; content = p.content; alone = subst (λ (l : List ℕ). IsElement l p.tag p.content) whole_is is }, whole_is)

any_takes : (bytes x : List ℕ) → any_alone_at bytes ≡ Some x → IsAny x × (bytes ≡ same x)
unfolding any_alone_at
any_takes bytes x e =
    bound (IsAny x × (bytes ≡ same x)) (ok_of (whole_at bytes)) (λ (p : Part). Some p.whole) x e (λ p read last.
    let t = whole_takes bytes p read in
    any_by bytes x p t.0 t.1 (some_same p.whole x last))

any_again : (x : List ℕ) → IsAny x → any_alone_at (same x) ≡ Some x
unfolding any_alone_at
any_again x is = rw (whole_again x is.tag is.content is.alone) (ap (λ (l : List ℕ). Some l) (sym is.alone.spelled))

any_is_read : IsRead any_alone_at same IsAny
any_is_read = record { takes = any_takes; again = any_again }

-- a row of certificates
ca_pubs_law : IsRead (sole_with (tested_at are_certificates) 0x30) (tagged 0x30 same) (FitsTagged same IsCertificates)
ca_pubs_law = sole_is_read (tested_at are_certificates) 0x30 same IsCertificates (omega arith) certificates_are_read

ca_pubs_field : IsField (optional_with (sole_with (tested_at are_certificates) 0x30) 0xA1) 0xA1 (tagged 0x30 same) (FitsTagged same IsCertificates)
ca_pubs_field = optional_field (sole_with (tested_at are_certificates) 0x30) 0xA1 (tagged 0x30 same) (FitsTagged same IsCertificates) (omega arith) ca_pubs_law

-- a certificate, encrypted or not
certificate_field : IsField (optional_with certificate_at 0xA0) 0xA0 same IsWholeCertificate
certificate_field = optional_field certificate_at 0xA0 same IsWholeCertificate (omega arith) certificate_is_read

encrypted_front : IsFront (required_with any_alone_at 0xA1) (tagged 0xA1 same) (FitsTagged same IsAny)
encrypted_front = required_front any_alone_at 0xA1 same IsAny (omega arith) any_is_read

abbrev SpelledCert : List ℕ → CertForm × List ℕ → Type 0
SpelledCert bytes z = FitsCert z.0 × (bytes ≡ cert_spelling z.0 ++ z.1)

cert_by : (bytes : List ℕ) (o : Option (List ℕ)) (more : List ℕ) (z : CertForm × List ℕ) → FitsOptional same IsWholeCertificate o → bytes ≡ optional_spelling 0xA0 same o ++ more → cert_or (o, more) ≡ Some z → SpelledCert bytes z
cert_by bytes (Some octets) more z fits parts e = subst (SpelledCert bytes) (some_same (certificate octets, more) z e) (fits, parts)
cert_by bytes None more z fits parts e =
    bound (SpelledCert bytes z) (required_with any_alone_at 0xA1 more) (λ (r : List ℕ × List ℕ). Some (encrypted r.0, r.1)) z e (λ r read last.
    let f = encrypted_front.takes more r.0 r.1 read in
    subst (SpelledCert bytes) (some_same (encrypted r.0, r.1) z last) (f.0, parts ∙ f.1))

cert_takes : (bytes : List ℕ) (c : CertForm) (rest : List ℕ) → cert_front_at bytes ≡ Some (c, rest) → FitsCert c × (bytes ≡ cert_spelling c ++ rest)
unfolding cert_front_at
cert_takes bytes c rest e =
    bound (SpelledCert bytes (c, rest)) (optional_with certificate_at 0xA0 bytes) cert_or (c, rest) e (λ o read last.
    let f = certificate_field.takes bytes o.0 o.1 read in
    cert_by bytes o.0 o.1 (c, rest) f.0 f.1 last)

not_certificate : (octets rest : List ℕ) → IsNotAt 0xA0 (element 0xA1 octets ++ rest)
unfolding element
not_certificate octets rest = refl

cert_again : (c : CertForm) (rest : List ℕ) → FitsCert c → cert_front_at (cert_spelling c ++ rest) ≡ Some (c, rest)
unfolding cert_front_at
cert_again (certificate octets) rest fits = rw (optional_there 0xA0 octets rest (omega arith) fits.1, certificate_is_read.again octets fits.0) refl
cert_again (encrypted octets) rest fits = rw (optional_not 0xA0 (element 0xA1 octets ++ rest) (not_certificate octets rest), encrypted_front.again octets rest fits) refl

cert_front : IsFront cert_front_at cert_spelling FitsCert
cert_front = record { takes = cert_takes; again = cert_again }

-- a certified key pair
any_field : (tag : ℕ) → tag % 32 ≢ 31 → IsField (optional_with any_alone_at tag) tag same IsAny
any_field tag low = optional_field any_alone_at tag same IsAny low any_is_read

pair_made : (bytes : List ℕ) (p : PairForm) (r0 r1 r2 : List ℕ) → bytes ≡ cert_spelling p.cert ++ r0 → r0 ≡ optional_spelling 0xA0 same p.key ++ r1 → r1 ≡ optional_spelling 0xA1 same p.publication ++ r2 → r2 ≡ [] → bytes ≡ pair_content p
pair_made bytes p r0 r1 r2 e0 e1 e2 end =
    e0 ∙ ap (λ (l : List ℕ). cert_spelling p.cert ++ l) (e1 ∙ ap (λ (l : List ℕ). optional_spelling 0xA0 same p.key ++ l)
    (e2 ∙ ap (λ (l : List ℕ). optional_spelling 0xA1 same p.publication ++ l) end ∙ append-nil (optional_spelling 0xA1 same p.publication)))

pair_takes : (bytes : List ℕ) (p : PairForm) → pair_at bytes ≡ Some p → FitsPair p × (bytes ≡ pair_content p)
unfolding pair_at
pair_takes bytes p e =
    bound (FitsPair p × (bytes ≡ pair_content p)) (cert_front_at bytes) _ p e (λ c r0 e0.
    bound (FitsPair p × (bytes ≡ pair_content p)) (optional_with any_alone_at 0xA0 c.1) _ p e0 (λ k r1 e1.
    bound (FitsPair p × (bytes ≡ pair_content p)) (optional_with any_alone_at 0xA1 k.1) _ p e1 (λ i r2 e2.
    passed (FitsPair p × (bytes ≡ pair_content p)) (eqb (length i.1) 0) (record { cert = c.0; key = k.0; publication = i.0 }) p e2 (λ none is.
    let f0 = cert_takes bytes c.0 c.1 r0 in
    let f1 = (any_field 0xA0 (omega arith)).takes c.1 k.0 k.1 r1 in
    let f2 = (any_field 0xA1 (omega arith)).takes k.1 i.0 i.1 r2 in
    subst (λ (x : PairForm). FitsPair x × (bytes ≡ pair_content x)) is (
      record { cert = f0.0; key = f1.0; publication = f2.0 },
      pair_made bytes (record { cert = c.0; key = k.0; publication = i.0 }) c.1 k.1 i.1 f0.1 f1.1 f2.1 (nothing_over i.1 none),
    )))))

pair_again : (p : PairForm) → FitsPair p → pair_at (pair_content p) ≡ Some p
unfolding pair_at
pair_again p fits =
    rw (
      cert_again p.cert (optional_spelling 0xA0 same p.key ++ optional_spelling 0xA1 same p.publication) fits.cert,
      field_not any_alone_at 0xA0 same IsAny (omega arith) any_is_read p.key (optional_spelling 0xA1 same p.publication) fits.key (other_tag 0xA0 0xA1 same p.publication refl),
      field_last any_alone_at 0xA1 same IsAny (omega arith) any_is_read p.publication fits.publication,
    ) refl

pair_is_read : IsRead pair_at pair_content FitsPair
pair_is_read = record { takes = pair_takes; again = pair_again }

-- a response
id_front : IsFront (required_with (tested_at is_integer) 0x02) (tagged 0x02 same) (FitsTagged same (Passes is_integer))
id_front = required_front (tested_at is_integer) 0x02 same (Passes is_integer) (omega arith) (tested_is_read is_integer)

pair_field : IsField (optional_with pair_at 0x30) 0x30 pair_content FitsPair
pair_field = optional_field pair_at 0x30 pair_content FitsPair (omega arith) pair_is_read

info_field : IsField (optional_with anything_at 0x04) 0x04 same IsAnything
info_field = optional_field anything_at 0x04 same IsAnything (omega arith) anything_is_read

response_made : (bytes : List ℕ) (r : ResponseForm) (r0 r1 r2 r3 : List ℕ) → bytes ≡ element 0x02 r.id ++ r0 → r0 ≡ element 0x30 (status_content r.status) ++ r1 → r1 ≡ optional_spelling 0x30 pair_content r.pair ++ r2 → r2 ≡ optional_spelling 0x04 same r.info ++ r3 → r3 ≡ [] → bytes ≡ response_content r
response_made bytes r r0 r1 r2 r3 e0 e1 e2 e3 end =
    let s2 : r2 ≡ optional_spelling 0x04 same r.info = e3 ∙ ap (λ (l : List ℕ). optional_spelling 0x04 same r.info ++ l) end ∙ append-nil (optional_spelling 0x04 same r.info) in
    let s1 : r1 ≡ optional_spelling 0x30 pair_content r.pair ++ optional_spelling 0x04 same r.info = e2 ∙ ap (λ (l : List ℕ). optional_spelling 0x30 pair_content r.pair ++ l) s2 in
    e0 ∙ ap (λ (l : List ℕ). element 0x02 r.id ++ l) (e1 ∙ ap (λ (l : List ℕ). element 0x30 (status_content r.status) ++ l) s1)

response_takes : (bytes : List ℕ) (r : ResponseForm) → response_at bytes ≡ Some r → FitsResponse r × (bytes ≡ response_content r)
unfolding response_at
response_takes bytes r e =
    bound (FitsResponse r × (bytes ≡ response_content r)) (required_with (tested_at is_integer) 0x02 bytes) _ r e (λ n r0 e0.
    bound (FitsResponse r × (bytes ≡ response_content r)) (required_with status_at 0x30 n.1) _ r e0 (λ s r1 e1.
    bound (FitsResponse r × (bytes ≡ response_content r)) (optional_with pair_at 0x30 s.1) _ r e1 (λ p r2 e2.
    bound (FitsResponse r × (bytes ≡ response_content r)) (optional_with anything_at 0x04 p.1) _ r e2 (λ i r3 e3.
    passed (FitsResponse r × (bytes ≡ response_content r)) (eqb (length i.1) 0) (record { id = n.0; status = s.0; pair = p.0; info = i.0 }) r e3 (λ none is.
    let f0 = id_front.takes bytes n.0 n.1 r0 in
    let f1 = status_field.takes n.1 s.0 s.1 r1 in
    let f2 = pair_field.takes s.1 p.0 p.1 r2 in
    let f3 = info_field.takes p.1 i.0 i.1 r3 in
    subst (λ (x : ResponseForm). FitsResponse x × (bytes ≡ response_content x)) is (
      record { id = f0.0; status = f1.0; pair = f2.0; info = f3.0 },
      response_made bytes (record { id = n.0; status = s.0; pair = p.0; info = i.0 }) n.1 s.1 p.1 i.1 f0.1 f1.1 f2.1 f3.1 (nothing_over i.1 none),
    ))))))

response_again : (r : ResponseForm) → FitsResponse r → response_at (response_content r) ≡ Some r
unfolding response_at
response_again r fits =
    rw (
      id_front.again r.id (element 0x30 (status_content r.status) ++ (optional_spelling 0x30 pair_content r.pair ++ optional_spelling 0x04 same r.info)) fits.id,
      status_field.again r.status (optional_spelling 0x30 pair_content r.pair ++ optional_spelling 0x04 same r.info) fits.status,
      field_not pair_at 0x30 pair_content FitsPair (omega arith) pair_is_read r.pair (optional_spelling 0x04 same r.info) fits.pair (other_tag 0x30 0x04 same r.info refl),
      field_last anything_at 0x04 same IsAnything (omega arith) anything_is_read r.info fits.info,
    ) refl

-- The law of responses.
pub response_is_read : IsRead response_at response_content FitsResponse
response_is_read = record { takes = response_takes; again = response_again }

-- a whole reply
shown_first : (responses : List ResponseForm) → shown_row (row_of responses) ≡ row_of (map shown_of responses)
shown_first [] = refl
shown_first (r ∷ responses) = ap (λ (n : ℕ). let x : RowForm ShownForm = record { count = n; first = Some (shown_of r) } in x) (sym (length-map (r ∷ responses) shown_of))

rep_by : (bytes : List ℕ) (rep : RepForm) (ca_pubs : Option (List ℕ)) (rest : List ℕ) (p : Part) (row : RowForm ResponseForm) → FitsCaPubs ca_pubs → bytes ≡ ca_pubs_spelling ca_pubs ++ rest → IsTagged 0x30 rest p [] → IsRowContent 0x30 response_content FitsResponse p.content row → ◌≡◌ {A = RepForm} (record { ca_pubs = ca_pubs; row = shown_row row }) rep → IsCertRep bytes rep
rep_by bytes rep ca_pubs rest p row fits parts t is e =
    let whole_is : rest ≡ element 0x30 (entries_spelling 0x30 response_content is.entries) = t.parts ∙ append-nil p.whole ∙ t.element_is.spelled ∙ ap (element 0x30) is.spelled in
    subst (IsCertRep bytes) e (record {
      responses = is.entries;
      fit = is.fit;
      counted = subst (λ (l : List ℕ). length l < 2 ^ 32) is.spelled t.element_is.counted;
      ca_pubs = fits;
      spelled = parts ∙ ap (λ (l : List ℕ). ca_pubs_spelling ca_pubs ++ l) whole_is;
      shown = ap shown_row is.shown ∙ shown_first is.entries;
    })

pub rep_takes : (bytes : List ℕ) (rep : RepForm) → rep_at bytes ≡ Some rep → IsCertRep bytes rep
unfolding rep_at
rep_takes bytes rep e =
    bound (IsCertRep bytes rep) (optional_with (sole_with (tested_at are_certificates) 0x30) 0xA1 bytes) _ rep e (λ c r0 e0.
    bound (IsCertRep bytes rep) (sole_at 0x30 c.1) _ rep e0 (λ p r1 e1.
    bound (IsCertRep bytes rep) (row_at response_at 0x30 p.content) _ rep e1 (λ row r2 last.
    let f = ca_pubs_field.takes bytes c.0 c.1 r0 in
    rep_by bytes rep c.0 c.1 p row f.0 f.1 (sole_takes 0x30 c.1 p r1) (row_takes response_is_read 0x30 p.content row r2) (some_same (record { ca_pubs = c.0; row = shown_row row }) rep last))))

not_ca_pubs : (content : List ℕ) → IsNotAt 0xA1 (element 0x30 content)
unfolding element
not_ca_pubs content = refl

rep_spelled : (ca_pubs : Option (List ℕ)) (responses : List ResponseForm) → FitsCaPubs ca_pubs → FitsEntries response_content FitsResponse responses → length (entries_spelling 0x30 response_content responses) < 2 ^ 32 → rep_at (ca_pubs_spelling ca_pubs ++ element 0x30 (entries_spelling 0x30 response_content responses)) ≡ Some (record { ca_pubs = ca_pubs; row = shown_row (row_of responses) })
unfolding rep_at
rep_spelled ca_pubs responses fits fit counted =
    let content : List ℕ = entries_spelling 0x30 response_content responses in
    let row : IsRowContent 0x30 response_content FitsResponse content (row_of responses) = record { entries = responses; fit = fit; spelled = refl; shown = refl } in
    let alone : IsElement (element 0x30 content) 0x30 content = record { low_tag = omega arith; counted = counted; spelled = refl } in
    rw (
      field_not (sole_with (tested_at are_certificates) 0x30) 0xA1 (tagged 0x30 same) (FitsTagged same IsCertificates) (omega arith) ca_pubs_law ca_pubs (element 0x30 content) fits (not_ca_pubs content),
      sole_reads 0x30 (element 0x30 content) content alone,
      row_again response_is_read 0x30 (omega arith) content (row_of responses) row,
    ) refl

pub rep_again : (bytes : List ℕ) (rep : RepForm) → IsCertRep bytes rep → rep_at bytes ≡ Some rep
rep_again bytes rep is =
    ap rep_at is.spelled ∙ rep_spelled rep.ca_pubs is.responses is.ca_pubs is.fit is.counted
    ∙ ap (λ (r : RowForm ShownForm). let x : RepForm = record { ca_pubs = rep.ca_pubs; row = r } in Some x) (shown_first is.responses ∙ sym is.shown)

tag_test : {Y : Type 0} (b : Bool) (o : Option Y) (y : Y) → cond b o None ≡ Some y → (b ≡ true) × (o ≡ Some y)
tag_test true o y e = (refl, e)
tag_test false o y e = absurd (none_some y e)

-- what was read is spelled so
pub rep_found : (r : Result CertRep BadForm) (tag : ℕ) (content : List ℕ) → Gives rep_of r (cond (eqb tag 0x30) (rep_at content) None) → IfOk r (λ x. (tag ≡ 0x30) × IsCertRep content (rep_of x))
rep_found (Ok x) tag content e =
    let t = tag_test (eqb tag 0x30) (rep_at content) (rep_of x) e in
    (eqb-true tag 0x30 t.0, rep_takes content (rep_of x) t.1)
rep_found (Err f) tag content e = tt

tag_gives : {Y : Type 0} (b : Bool) (o : Option Y) → b ≡ true → o ≡ cond b o None
tag_gives true o e = refl
tag_gives false o e = absurd (let x = e in cc)

-- and what is spelled so is read
pub rep_only : (r : Result CertRep BadForm) (tag : ℕ) (content : List ℕ) → Gives rep_of r (cond (eqb tag 0x30) (rep_at content) None) → (rep : RepForm) → tag ≡ 0x30 → IsCertRep content rep → Gives rep_of r (Some rep)
rep_only (Ok x) tag content e rep t is = sym (rep_again content rep is) ∙ tag_gives (eqb tag 0x30) (rep_at content) (eq-eqb tag 0x30 t) ∙ e
rep_only (Err f) tag content e rep t is = sym (rep_again content rep is) ∙ tag_gives (eqb tag 0x30) (rep_at content) (eq-eqb tag 0x30 t) ∙ e

-- how long what is written is at most
ca_pubs_size : (ca_pubs : Option (List ℕ)) → length (ca_pubs_spelling ca_pubs) ≤ option_size ca_pubs + 12
ca_pubs_size None = omega arith
ca_pubs_size (Some octets) = omega (arith, length_element_le 0xA1 (element 0x30 octets), length_element_le 0x30 octets)

pair_size : (cert : Option (List ℕ)) → length (pair_octets cert) ≤ option_size cert + 12
pair_size None = omega arith
pair_size (Some cert) = omega (arith, length_element_le 0x30 (element 0xA0 cert), length_element_le 0xA0 cert)

pub rep_size : (ca_pubs : Option (List ℕ)) (id : ℤ) (status : List ℕ) (cert : Option (List ℕ)) → length (rep_octets ca_pubs id status cert) ≤ option_size ca_pubs + length status + option_size cert + 43
rep_size ca_pubs id status cert =
    let response : List ℕ = response_octets id status cert in
    omega (
      arith,
      length-append (ca_pubs_spelling ca_pubs) (element 0x30 (element 0x30 response)),
      ca_pubs_size ca_pubs,
      length_element_le 0x30 (element 0x30 response),
      length_element_le 0x30 response,
      length-append (element 0x02 (id_octets id)) (status ++ pair_octets cert),
      length_element_le 0x02 (id_octets id),
      length-append status (pair_octets cert),
      pair_size cert,
    )

pub ruleset sizes = (rep_size, length_element_le)

-- What is written is a reply.
ca_pubs_fit : (ca_pubs : Option (List ℕ)) → IfSome ca_pubs IsCertificates → length (ca_pubs_spelling ca_pubs) < 2 ^ 32 → FitsCaPubs ca_pubs
ca_pubs_fit None h counted = tt
ca_pubs_fit (Some octets) h counted =
    let inside : length (element 0x30 octets) < 2 ^ 32 = inside_fits (2 ^ 32) 0xA1 (element 0x30 octets) counted in
    ((h, inside_fits (2 ^ 32) 0x30 octets inside), inside)

-- the certified key pair that is written, and the response
abbrev written_pair : Option (List ℕ) → Option PairForm
written_pair None = None
written_pair (Some cert) = Some (record { cert = certificate cert; key = None; publication = None })

abbrev written_form : ℤ → StatusForm → Option (List ℕ) → ResponseForm
written_form id status cert = record { id = id_octets id; status = status; pair = written_pair cert; info = None }

pair_spelled : (cert : Option (List ℕ)) → pair_octets cert ≡ optional_spelling 0x30 pair_content (written_pair cert) ++ []
pair_spelled None = refl
pair_spelled (Some cert) = ap (element 0x30) (sym (append-nil (element 0xA0 cert))) ∙ sym (append-nil (element 0x30 (element 0xA0 cert ++ [])))

pair_fits : (cert : Option (List ℕ)) → IfSome cert IsWholeCertificate → length (pair_octets cert) < 2 ^ 32 → FitsOptional pair_content FitsPair (written_pair cert)
pair_fits None h counted = tt
pair_fits (Some cert) h counted =
    let pair : length (element 0xA0 cert) < 2 ^ 32 = inside_fits (2 ^ 32) 0x30 (element 0xA0 cert) counted in
    let inside : length cert < 2 ^ 32 = inside_fits (2 ^ 32) 0xA0 cert pair in
    (record { cert = (h, inside); key = tt; publication = tt }, subst (λ (l : List ℕ). length l < 2 ^ 32) (sym (append-nil (element 0xA0 cert))) pair)

shown_again : (id : ℤ) (status : StatusForm) (cert : Option (List ℕ)) → written_response id status cert ≡ shown_of (written_form id status cert)
shown_again id status None = refl
shown_again id status (Some cert) = refl

response_spelled : (id : ℤ) (octets : List ℕ) (status : StatusForm) (cert : Option (List ℕ)) → octets ≡ element 0x30 (status_content status) → response_octets id octets cert ≡ response_content (written_form id status cert)
response_spelled id octets status cert e =
    ap (λ (l : List ℕ). element 0x02 (id_octets id) ++ (l ++ pair_octets cert)) e
    ∙ ap (λ (l : List ℕ). element 0x02 (id_octets id) ++ (element 0x30 (status_content status) ++ l)) (pair_spelled cert)

rep_written : (ca_pubs : Option (List ℕ)) (id : ℤ) (status : List ℕ) (form : StatusForm) (cert : Option (List ℕ)) → length (rep_octets ca_pubs id status cert) < 2 ^ 32 → IsWritten ca_pubs status form cert → IsCertRep (rep_octets ca_pubs id status cert) (written_rep ca_pubs id form cert)
rep_written ca_pubs id status form cert counted is =
    let response : List ℕ = response_octets id status cert in
    let row : length (element 0x30 (element 0x30 response)) < 2 ^ 32 = back_fits (2 ^ 32) (ca_pubs_spelling ca_pubs) (element 0x30 (element 0x30 response)) counted in
    let one : length (element 0x30 response) < 2 ^ 32 = inside_fits (2 ^ 32) 0x30 (element 0x30 response) row in
    let inside : length response < 2 ^ 32 = inside_fits (2 ^ 32) 0x30 response one in
    let rest : length (status ++ pair_octets cert) < 2 ^ 32 = back_fits (2 ^ 32) (element 0x02 (id_octets id)) (status ++ pair_octets cert) inside in
    let pair : length (pair_octets cert) < 2 ^ 32 = back_fits (2 ^ 32) status (pair_octets cert) rest in
    let spelled : response ≡ response_content (written_form id form cert) = response_spelled id status form cert is.status_is.spelled in
    let entry : element 0x30 response ≡ element 0x30 (response_content (written_form id form cert)) ++ [] = ap (element 0x30) spelled ∙ sym (append-nil (element 0x30 (response_content (written_form id form cert)))) in
    let fits : FitsResponse (written_form id form cert) = record {
      id = (refl, omega arith);
      status = (is.status_fits, is.status_is.counted);
      pair = pair_fits cert is.cert_is pair;
      info = tt;
    } in
    record {
      responses = written_form id form cert ∷ [];
      fit = (fits, subst (λ (l : List ℕ). length l < 2 ^ 32) spelled inside, tt);
      counted = subst (λ (l : List ℕ). length l < 2 ^ 32) entry one;
      ca_pubs = ca_pubs_fit ca_pubs is.ca_pubs_fit (front_fits (2 ^ 32) (ca_pubs_spelling ca_pubs) (element 0x30 (element 0x30 response)) counted);
      spelled = ap (λ (l : List ℕ). ca_pubs_spelling ca_pubs ++ element 0x30 l) entry;
      shown = ap (λ (r : ShownForm). row_of (r ∷ [])) (shown_again id form cert);
    }

pub rep_result : {E : Type 0} (r : Result (List ℕ) E) (ca_pubs : Option (List ℕ)) (id : ℤ) (status : List ℕ) (cert : Option (List ℕ)) → option_size ca_pubs + length status + option_size cert + 64 < 2 ^ 32 → IfOk r (λ octets. octets ≡ element 0x30 (rep_octets ca_pubs id status cert)) → (form : StatusForm) → IsWritten ca_pubs status form cert → IfOk r (λ octets. IsElement octets 0x30 (rep_octets ca_pubs id status cert) × IsCertRep (rep_octets ca_pubs id status cert) (written_rep ca_pubs id form cert))
rep_result (Ok octets) ca_pubs id status cert room e form is =
    let counted : length (rep_octets ca_pubs id status cert) < 2 ^ 32 = omega (arith, room, rep_size ca_pubs id status cert) in
    (record { low_tag = omega arith; counted = counted; spelled = e }, rep_written ca_pubs id status form cert counted is)
rep_result (Err f) ca_pubs id status cert room e form is = tt
