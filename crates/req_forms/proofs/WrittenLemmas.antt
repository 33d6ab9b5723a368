-- What is written is read again.
use Rattle.std.proofs.Common.{◌≡◌, ◌≢◌, ℕ, ◌+◌, ◌≤◌, ◌%◌, ◌^◌, ◌<◌, ◌++◌, ◌⊎◌, inl, inr, IsTrue, List, [], ◌∷◌, length, Option, Some, None, IfSome, Result, Ok, Err, IfOk, append-nil, refl, sym, ap, subst, ◌∙◌, arith}
use Rattle.der_base.specs.Element.{element, length_octets, IsElement}
use Rattle.der_base.specs.Reading.{Part, part}
use Rattle.der_base.specs.Values.{is_integer, is_oid}
use Rattle.asn_fields.specs.Forms.{optional_spelling, FitsOptional}
use Rattle.asn_fields.specs.Rows.{row_of, entries_spelling}
use Rattle.asn_types.specs.Algorithm.{FitsAlgorithm, algorithm_content}
use Rattle.asn_types.specs.Extension.{is_extensions}
use Rattle.asn_types.specs.General.{IsNameAlone, IsGeneral}
use Rattle.asn_types.specs.Key.{Key, FitsKey, key_content}
use Rattle.asn_types.specs.Name.{IsName}
use Rattle.asn_types.specs.Template.{TemplateForm, FitsTemplate, IsWholeName, Passes, same, template_content}
use Rattle.asn_types.proofs.NameLemmas.{name_test}
use Rattle.asn_parts.specs.Number.{number_octets}
use Rattle.asn_parts.specs.Parts.{FitsTagged, IsWholeGeneral}
use Rattle.asn_parts.proofs.NumberLemmas.{number_form}
use Rattle.asn_parts.proofs.PartLemmas.{back_fits, front_fits, inside_fits}
use Rattle.req_forms.specs.Controls.{OldCertForm, FitsOld, old_content, old_cert, old_cert_id, control_content, ControlsForm, IsControls, controls_content}
use Rattle.req_forms.specs.Possession.{signature_element, SigningForm, signing_content, FitsSigning, ProofForm, ra_verified, signature, proof_spelling, FitsProof, PopoForm, popo_shown}
use Rattle.req_forms.specs.Requests.{RequestForm, request_content, FitsRequest, MessageForm, message_content, FitsMessage, ReqForm, old_in, shown_of, IsCrmf}
use Rattle.req_forms.specs.Written.{hss_lms, hss_algorithm, retagged, template_extensions, template_octets, old_octets, control_octets, request_octets, proof_octets, around_octets, crmf_octets, IsAsked, IsWish, wished_exts, wished_template, wished_old, wished_controls, wished_request, wished_signing, wished_popo, around_req, wished_req}
use Rattle.req_forms.specs.declared.wish.CrmfWish.{CrmfWish}
use Rattle.req_forms.specs.declared.wish.Proof.{Proof}
use Rattle.req_forms.specs.declared.wish.Proof.TheVariants as variant

retagged_element : (tag : ℕ) (octets content : List ℕ) → octets ≡ element 0x30 content → retagged tag octets ≡ element tag content
unfolding element
retagged_element tag octets content e = ap (retagged tag) e

-- the template
exts_spelled : (exts : List ℕ) → template_extensions exts ≡ optional_spelling 0xA9 same (wished_exts exts)
exts_spelled [] = refl
exts_spelled (b ∷ more) = refl

template_spelled : (w : CrmfWish) (key : Key) → IsElement w.spki 0x30 (key_content key) → template_octets w.subject w.spki w.exts ≡ template_content (wished_template w key)
template_spelled w key is =
    ap (λ (l : List ℕ). element 0xA5 w.subject ++ (l ++ template_extensions w.exts)) (retagged_element 0xA6 w.spki (key_content key) is.spelled)
    ∙ ap (λ (l : List ℕ). element 0xA5 w.subject ++ (element 0xA6 (key_content key) ++ l)) (exts_spelled w.exts)

exts_fit : (exts : List ℕ) → (exts ≡ []) ⊎ IsTrue (is_extensions exts) → length (template_extensions exts) < 2 ^ 32 → FitsOptional same (Passes is_extensions) (wished_exts exts)
exts_fit [] h counted = tt
exts_fit (b ∷ more) (inl e) counted = absurd (let x = e in cc)
exts_fit (b ∷ more) (inr t) counted = (t, inside_fits (2 ^ 32) 0xA9 (b ∷ more) counted)

template_fits : (w : CrmfWish) (key : Key) → IsAsked w key → length (template_octets w.subject w.spki w.exts) < 2 ^ 32 → FitsTemplate (wished_template w key)
template_fits w key is counted =
    let subject : length (element 0xA5 w.subject) < 2 ^ 32 = front_fits (2 ^ 32) (element 0xA5 w.subject) (retagged 0xA6 w.spki ++ template_extensions w.exts) counted in
    let rest : length (retagged 0xA6 w.spki ++ template_extensions w.exts) < 2 ^ 32 = back_fits (2 ^ 32) (element 0xA5 w.subject) (retagged 0xA6 w.spki ++ template_extensions w.exts) counted in
    let exts : length (template_extensions w.exts) < 2 ^ 32 = back_fits (2 ^ 32) (retagged 0xA6 w.spki) (template_extensions w.exts) rest in
    record {
      version = tt;
      serial = tt;
      alg = tt;
      issuer = tt;
      validity = tt;
      subject = (is.subject, inside_fits (2 ^ 32) 0xA5 w.subject subject);
      key = (is.key_fits, is.spki.counted);
      issuer_uid = tt;
      subject_uid = tt;
      exts = exts_fit w.exts is.exts exts;
    }

-- the certificate that is updated
name_alone : (octets : List ℕ) → IsWholeName octets → IsNameAlone octets
name_alone octets h = record { name = part 0x30 h.content; alone = h.alone; is_name = (name_test (part 0x30 h.content)).0 h.is_name }

issuer_general : (issuer : List ℕ) → IsWholeName issuer → length issuer < 2 ^ 32 → IsWholeGeneral (part 0xA4 issuer)
issuer_general issuer h counted = record {
  alone = record { low_tag = omega arith; counted = counted; spelled = refl };
  general = record { tagged = inr (omega arith, omega arith); directory = λ e. name_alone issuer h };
}

old_fits : (issuer : List ℕ) (serial : ℕ) → IsWholeName issuer → serial < 2 ^ 64 → length (old_octets issuer serial) < 2 ^ 32 → FitsTagged old_content FitsOld (wished_old issuer serial)
old_fits issuer serial h small counted =
    let front : length (element 0xA4 issuer) < 2 ^ 32 = front_fits (2 ^ 32) (element 0xA4 issuer) (element 0x02 (number_octets serial)) counted in
    let back : length (element 0x02 (number_octets serial)) < 2 ^ 32 = back_fits (2 ^ 32) (element 0xA4 issuer) (element 0x02 (number_octets serial)) counted in (
      record {
        issuer = issuer_general issuer h (inside_fits (2 ^ 32) 0xA4 issuer front);
        serial = (number_form serial small, inside_fits (2 ^ 32) 0x02 (number_octets serial) back);
      },
      counted,
    )

abbrev one_control : List ℕ → ℕ → List ℕ
one_control issuer serial = element 0x06 old_cert_id ++ element 0x30 (old_octets issuer serial)

controls_fit : (issuer : List ℕ) (old : Option ℕ) → IfSome old (λ n. IsWholeName issuer × (n < 2 ^ 64)) → length (control_octets issuer old) < 2 ^ 32 → FitsOptional controls_content IsControls (wished_controls issuer old)
controls_fit issuer None h counted = tt
controls_fit issuer (Some serial) h counted =
    let c1 : length (element 0x30 (one_control issuer serial)) < 2 ^ 32 = inside_fits (2 ^ 32) 0x30 (element 0x30 (one_control issuer serial)) counted in
    let c2 : length (one_control issuer serial) < 2 ^ 32 = inside_fits (2 ^ 32) 0x30 (one_control issuer serial) c1 in
    let c3 : length (element 0x30 (old_octets issuer serial)) < 2 ^ 32 = back_fits (2 ^ 32) (element 0x06 old_cert_id) (element 0x30 (old_octets issuer serial)) c2 in
    let c4 : length (old_octets issuer serial) < 2 ^ 32 = inside_fits (2 ^ 32) 0x30 (old_octets issuer serial) c3 in (
      record {
        controls = old_cert (wished_old issuer serial) ∷ [];
        fit = (old_fits issuer serial h.0 h.1 c4, c2, tt);
        spelled = sym (append-nil (element 0x30 (one_control issuer serial)));
        first = refl;
      },
      c1,
    )

controls_spelled : (issuer : List ℕ) (old : Option ℕ) → control_octets issuer old ≡ optional_spelling 0x30 controls_content (wished_controls issuer old)
controls_spelled issuer None = refl
controls_spelled issuer (Some serial) = refl

-- the request
request_spelled : (w : CrmfWish) (key : Key) → IsElement w.spki 0x30 (key_content key) → request_octets w ≡ request_content (wished_request w key)
request_spelled w key is =
    ap (λ (l : List ℕ). element 0x02 (0 ∷ []) ++ (element 0x30 l ++ control_octets w.issuer w.old)) (template_spelled w key is)
    ∙ ap (λ (l : List ℕ). element 0x02 (0 ∷ []) ++ (element 0x30 (template_content (wished_template w key)) ++ l)) (controls_spelled w.issuer w.old)

request_fits : (w : CrmfWish) (key : Key) → IsWish w key → length (request_octets w) < 2 ^ 32 → FitsRequest (wished_request w key)
request_fits w key is counted =
    let rest : length (element 0x30 (template_octets w.subject w.spki w.exts) ++ control_octets w.issuer w.old) < 2 ^ 32 = back_fits (2 ^ 32) (element 0x02 (0 ∷ [])) (element 0x30 (template_octets w.subject w.spki w.exts) ++ control_octets w.issuer w.old) counted in
    let template : length (element 0x30 (template_octets w.subject w.spki w.exts)) < 2 ^ 32 = front_fits (2 ^ 32) (element 0x30 (template_octets w.subject w.spki w.exts)) (control_octets w.issuer w.old) rest in
    let inside : length (template_octets w.subject w.spki w.exts) < 2 ^ 32 = inside_fits (2 ^ 32) 0x30 (template_octets w.subject w.spki w.exts) template in
    let controls : length (control_octets w.issuer w.old) < 2 ^ 32 = back_fits (2 ^ 32) (element 0x30 (template_octets w.subject w.spki w.exts)) (control_octets w.issuer w.old) rest in
    record {
      id = (refl, omega arith);
      template = (template_fits w key is.asked inside, subst (λ (l : List ℕ). length l < 2 ^ 32) (template_spelled w key is.asked.spki) inside);
      controls = controls_fit w.issuer w.old is.old controls;
    }

-- the proof
abbrev proof_form : Proof → ProofForm
proof_form variant.RaVerified = ra_verified
proof_form (variant.Signature sig) = signature (wished_signing sig)

pub hss_oid : IsTrue (is_oid hss_lms)
unfolding hss_lms is_oid
hss_oid = refl

pub hss_counted : length hss_lms < 2 ^ 32
unfolding hss_lms
hss_counted = omega arith

signing_spelled : (sig : List ℕ) → hss_algorithm ++ signature_element sig ≡ signing_content (wished_signing sig)
signing_spelled sig = ap (λ (l : List ℕ). element 0x30 l ++ signature_element sig) (sym (append-nil (element 0x06 hss_lms)))

signing_fits : (sig : List ℕ) → length (hss_algorithm ++ signature_element sig) < 2 ^ 32 → FitsTagged signing_content FitsSigning (wished_signing sig)
signing_fits sig counted =
    let alg : length hss_algorithm < 2 ^ 32 = front_fits (2 ^ 32) hss_algorithm (signature_element sig) counted in
    let back : length (signature_element sig) < 2 ^ 32 = back_fits (2 ^ 32) hss_algorithm (signature_element sig) counted in
    let string : length (0 ∷ sig) < 2 ^ 32 = inside_fits (2 ^ 32) 0x03 (0 ∷ sig) back in
    let inside : length (element 0x06 hss_lms) < 2 ^ 32 = inside_fits (2 ^ 32) 0x30 (element 0x06 hss_lms) alg in (
      record {
        input = tt;
        alg = (record { identifier = hss_oid; counted = hss_counted; params = tt }, subst (λ (l : List ℕ). length l < 2 ^ 32) (sym (append-nil (element 0x06 hss_lms))) inside);
        sig = omega (arith, string);
      },
      subst (λ (l : List ℕ). length l < 2 ^ 32) (signing_spelled sig) counted,
    )

proof_spelled : (proof : Proof) → proof_octets proof ≡ proof_spelling (proof_form proof)
proof_spelled variant.RaVerified = refl
proof_spelled (variant.Signature sig) = ap (element 0xA1) (signing_spelled sig)

proof_fits : (proof : Proof) → length (proof_octets proof) < 2 ^ 32 → FitsProof (proof_form proof)
proof_fits variant.RaVerified counted = tt
proof_fits (variant.Signature sig) counted = signing_fits sig (inside_fits (2 ^ 32) 0xA1 (hss_algorithm ++ signature_element sig) counted)

popo_same : (proof : Proof) → wished_popo proof ≡ popo_shown (proof_form proof)
popo_same variant.RaVerified = refl
popo_same (variant.Signature sig) = refl

-- the message
abbrev message_form : List ℕ → RequestForm → Proof → MessageForm
message_form request inside proof = record { request = request; inside = inside; proof = proof_form proof; reg_info = None }

message_spelled : (request : List ℕ) (inside : RequestForm) (proof : Proof) → request ++ proof_octets proof ≡ message_content (message_form request inside proof)
message_spelled request inside proof = ap (λ (l : List ℕ). request ++ l) (proof_spelled proof ∙ sym (append-nil (proof_spelling (proof_form proof))))

message_fits : (request : List ℕ) (inside : RequestForm) (proof : Proof) → FitsRequest inside → IsElement request 0x30 (request_content inside) → length (request ++ proof_octets proof) < 2 ^ 32 → FitsMessage (message_form request inside proof)
message_fits request inside proof fits is counted = record {
  request = is;
  inside = fits;
  proof = proof_fits proof (back_fits (2 ^ 32) request (proof_octets proof) counted);
  reg_info = tt;
}

req_same : (request : List ℕ) (inside : RequestForm) (proof : Proof) → around_req request inside proof ≡ shown_of (message_form request inside proof)
req_same request inside proof =
    ap (λ (p : PopoForm). let r : ReqForm = record { id = inside.id; request = request; template = inside.template; old = old_in inside.controls; popo = p } in r) (popo_same proof)

-- What is written around a request is a list of the one message that it and its proof are.
pub around_again : (request : List ℕ) (inside : RequestForm) (proof : Proof) → FitsRequest inside → IsElement request 0x30 (request_content inside) → length (around_octets request proof) < 2 ^ 32 → IsCrmf (around_octets request proof) (row_of (around_req request inside proof ∷ []))
around_again request inside proof fits is counted =
    let outer : length (element 0x30 (request ++ proof_octets proof)) < 2 ^ 32 = inside_fits (2 ^ 32) 0x30 (element 0x30 (request ++ proof_octets proof)) counted in
    let inner : length (request ++ proof_octets proof) < 2 ^ 32 = inside_fits (2 ^ 32) 0x30 (request ++ proof_octets proof) outer in
    let spelled : element 0x30 (request ++ proof_octets proof) ≡ entries_spelling 0x30 message_content (message_form request inside proof ∷ []) = ap (element 0x30) (message_spelled request inside proof) ∙ sym (append-nil (element 0x30 (message_content (message_form request inside proof)))) in
    record {
      messages = message_form request inside proof ∷ [];
      fit = (message_fits request inside proof fits is inner, subst (λ (l : List ℕ). length l < 2 ^ 32) (message_spelled request inside proof) inner, tt);
      alone = record { low_tag = omega arith; counted = subst (λ (l : List ℕ). length l < 2 ^ 32) spelled outer; spelled = ap (element 0x30) spelled };
      shown = ap (λ (r : ReqForm). row_of (r ∷ [])) (req_same request inside proof);
    }

request_alone : (w : CrmfWish) (key : Key) → IsWish w key → length (request_octets w) < 2 ^ 32 → IsElement (element 0x30 (request_octets w)) 0x30 (request_content (wished_request w key))
request_alone w key is counted =
    let same_octets = request_spelled w key is.asked.spki in
    record { low_tag = omega arith; counted = subst (λ (l : List ℕ). length l < 2 ^ 32) same_octets counted; spelled = ap (element 0x30) same_octets }

-- What is written as a wish's request is the request that it wishes.
pub request_again : (w : CrmfWish) (key : Key) → IsWish w key → length (element 0x30 (request_octets w)) < 2 ^ 32 → IsElement (element 0x30 (request_octets w)) 0x30 (request_content (wished_request w key)) × FitsRequest (wished_request w key)
request_again w key is counted =
    let inside : length (request_octets w) < 2 ^ 32 = inside_fits (2 ^ 32) 0x30 (request_octets w) counted in
    (request_alone w key is inside, request_fits w key is inside)

-- What is written for a wish is a list of the one request that it wishes.
pub crmf_again : (w : CrmfWish) (key : Key) → IsWish w key → length (crmf_octets w) < 2 ^ 32 → IsCrmf (crmf_octets w) (row_of (wished_req w key ∷ []))
crmf_again w key is counted =
    let request : List ℕ = element 0x30 (request_octets w) in
    let outer : length (element 0x30 (request ++ proof_octets w.proof)) < 2 ^ 32 = inside_fits (2 ^ 32) 0x30 (element 0x30 (request ++ proof_octets w.proof)) counted in
    let inner : length (request ++ proof_octets w.proof) < 2 ^ 32 = inside_fits (2 ^ 32) 0x30 (request ++ proof_octets w.proof) outer in
    let again = request_again w key is (front_fits (2 ^ 32) request (proof_octets w.proof) inner) in
    around_again request (wished_request w key) w.proof again.1 again.0 counted

pub crmf_result : {E : Type 0} (r : Result (List ℕ) E) (w : CrmfWish) → length (crmf_octets w) < 2 ^ 32 → IfOk r (λ octets. octets ≡ crmf_octets w) → (key : Key) → IsWish w key → IfOk r (λ octets. IsCrmf octets (row_of (wished_req w key ∷ [])))
crmf_result (Ok octets) w counted e key is = subst (λ (l : List ℕ). IsCrmf l (row_of (wished_req w key ∷ []))) (sym e) (crmf_again w key is counted)
crmf_result (Err f) w counted e key is = tt

pub request_result : {E : Type 0} (r : Result (List ℕ) E) (w : CrmfWish) → length (element 0x30 (request_octets w)) < 2 ^ 32 → IfOk r (λ octets. octets ≡ element 0x30 (request_octets w)) → (key : Key) → IsWish w key → IfOk r (λ octets. IsElement octets 0x30 (request_content (wished_request w key)) × FitsRequest (wished_request w key))
request_result (Ok octets) w counted e key is = subst (λ (l : List ℕ). IsElement l 0x30 (request_content (wished_request w key)) × FitsRequest (wished_request w key)) (sym e) (request_again w key is counted)
request_result (Err f) w counted e key is = tt

pub around_result : {E : Type 0} (r : Result (List ℕ) E) (request : List ℕ) (proof : Proof) → length (around_octets request proof) < 2 ^ 32 → IfOk r (λ octets. octets ≡ around_octets request proof) → (inside : RequestForm) → FitsRequest inside → IsElement request 0x30 (request_content inside) → IfOk r (λ octets. IsCrmf octets (row_of (around_req request inside proof ∷ [])))
around_result (Ok octets) request proof counted e inside fits is = subst (λ (l : List ℕ). IsCrmf l (row_of (around_req request inside proof ∷ []))) (sym e) (around_again request inside proof fits is counted)
around_result (Err f) request proof counted e inside fits is = tt
