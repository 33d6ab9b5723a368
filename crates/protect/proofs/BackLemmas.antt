-- What is written is read back as a message whose protection holds.
use Rattle.std.proofs.Common.{◌≡◌, ℕ, ◌+◌, ◌^◌, ◌<◌, ◌≤◌, ◌++◌, List, ◌∷◌, length, Option, Some, None, Result, Ok, Err, IfOk, refl, sym, ap, subst, ◌∙◌, arith}
use Rattle.std.specs.Prelude.{IfSome, option_map}
use Rattle.std.proofs.lemmas.Bool.Decides.{nat_tests}
use Rattle.std.proofs.lemmas.List.{length-append}
use Rattle.der_base.specs.Element.{element, IsElement}
use Rattle.der_base.specs.Reading.{Part, part}
use Rattle.asn_fields.specs.Fields.{sole_at}
use Rattle.asn_fields.specs.Forms.{optional_spelling, FitsOptional}
use Rattle.asn_fields.proofs.FieldLemmas.{some_same, sole_reads}
use Rattle.asn_types.specs.Algorithm.{Algorithm, FitsAlgorithm, algorithm_content, algorithm_at}
use Rattle.asn_types.specs.Template.{IsAnything, same}
use Rattle.asn_types.proofs.AlgorithmLemmas.{algorithm_is_read}
use Rattle.asn_types.proofs.LengthLemmas.{length_element_le, length_element_lt}
use Rattle.asn_parts.specs.Parts.{tagged, FitsTagged}
use Rattle.pki_parts.specs.Status.{option_size}
use Rattle.hss_sig.specs.Hss.{HssOk}
use Rattle.pbmac.specs.Mac.{mac_of}
use Rattle.pbmac.specs.declared.params.MacParams.{MacParams}
use Rattle.pki_header.specs.Plan.{IsPlanned, FitsPlan, Says, IsHeaderOf, IsAlgorithmElement}
use Rattle.pki_header.specs.declared.plan.HeaderPlan.{HeaderPlan}
use Rattle.pki_header.proofs.PlanLemmas.{header_result, planned_least}
use Rattle.pki_message.specs.Body.{BodyForm, ir, ip, cr, cp, p10cr, kur, kup, rr, rp, pkiconf, nested, genm, genp, error, cert_conf, poll_req, poll_rep, other, IsInside, tag_of}
use Rattle.pki_message.specs.Frame.{bits_spelling, FitsBits, FitsFrame, message_limit, protected_part}
use Rattle.pki_message.specs.Message.{IsExtraCerts, MessageForm, FitsMessage, IsMessage, frame_in}
use Rattle.pki_message.specs.Written.{HasParts, one_certificate, written_content, message_size}
use Rattle.pki_message.proofs.WrittenLemmas.{message_written}
use Rattle.protect.specs.Algorithms.{hss_lms, algorithm_octets}
use Rattle.protect.specs.Holds.{ProtectionHolds}
use Rattle.protect.specs.Written.{with_algorithm, IsProtected, IsWholeBody, IsReadBack, FitsAlgorithmOrNone, HoldsFor, ProtectedIsReadBack}
use Rattle.protect.specs.declared.key.Key.{Key}
use Rattle.protect.specs.declared.key.Key.TheVariants as keys
use Rattle.protect.proofs.AlgorithmLemmas.{hss_fits, hss_short}

-- the number of a body's tag
tag_small : (b : BodyForm) (inside : List ℕ) → IsInside b inside → tag_of b ≤ 26
tag_small (ir x) inside is = omega arith
tag_small (ip x) inside is = omega arith
tag_small (cr x) inside is = omega arith
tag_small (cp x) inside is = omega arith
tag_small (p10cr x) inside is = omega arith
tag_small (kur x) inside is = omega arith
tag_small (kup x) inside is = omega arith
tag_small (rr x) inside is = omega arith
tag_small (rp x) inside is = omega arith
tag_small pkiconf inside is = omega arith
tag_small (nested x) inside is = omega arith
tag_small (genm x) inside is = omega arith
tag_small (genp x) inside is = omega arith
tag_small (error x) inside is = omega arith
tag_small (cert_conf x) inside is = omega arith
tag_small (poll_req x) inside is = omega arith
tag_small (poll_rep x) inside is = omega arith
tag_small (other tag) inside is = grind (arith, nat_tests, is.0)

-- An algorithm that fits is the only one with its octets.
contents_same : (a b : List ℕ) → length a < 2 ^ 32 → length b < 2 ^ 32 → element 0x30 a ≡ element 0x30 b → a ≡ b
contents_same a b short small e =
    let at : (c : List ℕ) → length c < 2 ^ 32 → IsElement (element 0x30 c) 0x30 c = λ c counted. record { low_tag = omega arith; counted = counted; spelled = refl } in
    ap (λ (p : Part). p.content) (some_same (part 0x30 a) (part 0x30 b) (sym (sole_reads 0x30 (element 0x30 a) a (at a short)) ∙ ap (sole_at 0x30) e ∙ sole_reads 0x30 (element 0x30 b) b (at b small)))

alg_same : (a b : Algorithm) → FitsAlgorithm a → FitsAlgorithm b → algorithm_content a ≡ algorithm_content b → a ≡ b
alg_same a b fits is e = some_same a b (sym (algorithm_is_read.again a fits) ∙ ap algorithm_at e ∙ algorithm_is_read.again b is)

algs_same : (a b : Option Algorithm) → FitsOptional (tagged 0x30 algorithm_content) (FitsTagged algorithm_content FitsAlgorithm) a → FitsAlgorithmOrNone b
    → option_map (tagged 0x30 algorithm_content) a ≡ option_map algorithm_octets b → a ≡ b
algs_same None None fits w e = refl
algs_same None (Some b) fits w e = cc
algs_same (Some a) None fits w e = cc
algs_same (Some a) (Some b) fits w e =
    ap (λ (x : Algorithm). Some x) (alg_same a b fits.0.0 w.0 (contents_same (algorithm_content a) (algorithm_content b) fits.0.1 w.1 (some_same (element 0x30 (algorithm_content a)) (element 0x30 (algorithm_content b)) e)))

alg_element : (alg : Option Algorithm) → FitsAlgorithmOrNone alg → IfSome (option_map algorithm_octets alg) IsAlgorithmElement
alg_element None w = tt
alg_element (Some a) w = record { form = a; fits = w.0; alone = record { low_tag = omega arith; counted = w.1; spelled = refl } }

-- a plan with the algorithm fits
plan_fits : (p : HeaderPlan) (alg : Option Algorithm) → FitsPlan p → FitsAlgorithmOrNone alg → FitsPlan (with_algorithm p (option_map algorithm_octets alg))
plan_fits p alg fits w = record {
  pvno = fits.pvno;
  sender = fits.sender;
  recipient = fits.recipient;
  alg = alg_element alg w;
  free_text = fits.free_text;
  info = fits.info;
}

protection_fits : (o : Option (List ℕ)) → option_size o + 13 < 2 ^ 32 → FitsOptional bits_spelling FitsBits o
protection_fits None short = tt
protection_fits (Some octets) short = (omega (arith, short), omega (arith, short, length_element_le 0x03 (0 ∷ octets)))

extra_fits : (cert : Option (List ℕ)) → option_size cert + 12 < 2 ^ 32 → FitsOptional same IsAnything (option_map (element 0x30) cert)
extra_fits None short = tt
extra_fits (Some octets) short = (tt, omega (arith, short, length_element_le 0x30 octets))

-- what a writer of messages says of its result
abbrev pub Writes : {E : Type 0} → Result (List ℕ) E → List ℕ → List ℕ → Option (List ℕ) → Option (List ℕ) → Type 0
Writes r header body prot cert = (m : MessageForm) → FitsMessage m → HasParts (frame_in m) header body prot cert → IfOk r (λ octets. length octets ≤ message_limit → IsMessage octets m)

back : {E : Type 0} (r : Result (List ℕ) E) (plan : HeaderPlan) (alg : Option Algorithm) (key : Option Key) (m : MessageForm)
    → Says (with_algorithm plan (option_map algorithm_octets alg)) m.head.time m.head → m.time ≡ plan.time
    → IfSome key (λ k. ProtectionHolds k m) → IfOk r (λ octets. length octets ≤ message_limit → IsMessage octets m)
    → IfOk r (λ octets. length octets ≤ message_limit → IsReadBack plan alg m.extra key m.body octets)
back (Ok octets) plan alg key m says time holds is = λ limited. record { form = m; says = says; time = time; body = refl; extra = refl; message = is limited; holds = holds }
back (Err e) plan alg key m says time holds is = tt

pub read_back : {E : Type 0} (r : Result (List ℕ) E) (plan : HeaderPlan) (alg : Option Algorithm) (header body : List ℕ) (prot cert : Option (List ℕ)) (key : Option Key) (b : BodyForm)
    → Writes r header body prot cert
    → (FitsPlan (with_algorithm plan (option_map algorithm_octets alg)) → IsHeaderOf (with_algorithm plan (option_map algorithm_octets alg)) header)
    → FitsPlan plan → FitsAlgorithmOrNone alg → IsWholeBody b body → option_size prot + 13 < 2 ^ 32 → IfSome cert IsExtraCerts → option_size cert + 12 < 2 ^ 32
    → HoldsFor key alg prot (protected_part header body)
    → IfOk r (λ octets. length octets ≤ message_limit → IsReadBack plan alg cert key b octets)
read_back r plan alg header body prot cert key b writes heads fits w whole sized certs small holds =
    let h = heads (plan_fits plan alg fits w) in
    let m : MessageForm = record { head = h.form; time = plan.time; body = b; header_bytes = header; body_bytes = body; protection = prot; extra = cert } in
    let named : h.form.alg ≡ alg = algs_same h.form.alg alg h.fits.alg w h.says.alg in
    let frame : FitsFrame (frame_in m) = record {
      head = h.fits;
      time = h.timed;
      header = h.alone;
      body = record { alternative = tag_small b whole.inside whole.form; content = whole.inside; alone = whole.alone };
      protection = protection_fits prot sized;
      extra = extra_fits cert small;
    } in
    let is : FitsMessage m = record { frame = frame; inside = whole.inside; body = whole.alone; form = whole.form; extra = certs } in
    back r plan alg key m h.says refl (subst (λ (a : Option Algorithm). HoldsFor key a prot (protected_part header body)) (sym named) holds)
    (writes m is (record { header = refl; body = refl; protection = refl; extra = refl }))

-- The parts of a message within the limit are small.
protection_least : (o : Option (List ℕ)) → option_size o ≤ length (optional_spelling 0xA0 bits_spelling o)
protection_least None = omega arith
protection_least (Some octets) = omega (arith, length_element_lt 0xA0 (bits_spelling octets), length_element_lt 0x03 (0 ∷ octets))

extra_least : (o : Option (List ℕ)) → option_size o ≤ length (optional_spelling 0xA1 same (option_map one_certificate o))
extra_least None = omega arith
extra_least (Some cert) = omega (arith, length_element_lt 0xA1 (one_certificate cert), length_element_lt 0x30 cert)

parts_small : (octets h b : List ℕ) (p c : Option (List ℕ)) → octets ≡ element 0x30 (written_content h b p c) → length octets ≤ message_limit → message_size h b p c ≤ 131136
parts_small octets h b p c e limited =
    let protection = optional_spelling 0xA0 bits_spelling p in
    let extra = optional_spelling 0xA1 same (option_map one_certificate c) in
    omega (
      arith,
      limited,
      ap (λ (l : List ℕ). length l) e,
      length_element_lt 0x30 (written_content h b p c),
      length-append h (b ++ (protection ++ extra)),
      length-append b (protection ++ extra),
      length-append protection extra,
      protection_least p,
      extra_least c,
    )

-- What is protected as asked is read back.
pub protected_is_read_back : ProtectedIsReadBack
protected_is_read_back plan body alg protect cert key b octets is fits w whole certs holds limited =
    let prot = protect (protected_part is.header body) in
    let small = parts_small octets is.header body prot cert is.spelled limited in
    let p = with_algorithm plan (option_map algorithm_octets alg) in
    let wrote : Result (List ℕ) Unit = Ok octets in
    let wrote_header : Result (List ℕ) Unit = Ok is.header in
    let heads : FitsPlan p → IsHeaderOf p is.header = λ fit. header_result wrote_header p (omega (arith, small, planned_least p is.header is.planned)) is.planned fit in
    read_back wrote plan alg is.header body prot cert key b
    (λ m fm has. message_written wrote is.header body prot cert (omega (arith, small)) is.spelled m fm has) heads
    fits w whole (omega (arith, small)) certs (omega (arith, small)) holds limited

-- the header that is written of a plan, with its algorithm and octets under other names
pub headed : (plan : HeaderPlan) (x y : Option (List ℕ)) (h header : List ℕ) → x ≡ y → header ≡ h → (FitsPlan (with_algorithm plan x) → IsHeaderOf (with_algorithm plan x) h)
    → FitsPlan (with_algorithm plan y) → IsHeaderOf (with_algorithm plan y) header
headed plan x y h header ex eh again =
    subst (λ (o : Option (List ℕ)). FitsPlan (with_algorithm plan o) → IsHeaderOf (with_algorithm plan o) header) ex
    (subst (λ (l : List ℕ). FitsPlan (with_algorithm plan x) → IsHeaderOf (with_algorithm plan x) l) (sym eh) again)

-- a MAC under other names
pub mac_by : (mac s t secret part : List ℕ) (p q : MacParams) → mac ≡ mac_of s p t → s ≡ secret → p ≡ q → t ≡ part → mac ≡ mac_of secret q part
mac_by mac s t secret part p q e es ep et =
    e ∙ ap (λ (x : List ℕ). mac_of x p t) es ∙ ap (λ (x : MacParams). mac_of secret x t) ep ∙ ap (λ (x : List ℕ). mac_of secret q x) et

-- A signature of the parts makes the message of a plan,
pub signed_made : {E : Type 0} (r : Result (List ℕ) E) (plan : HeaderPlan) (body sig header : List ℕ) (cert : Option (List ℕ)) (signature : List ℕ → List ℕ)
    → IfOk r (λ octets. octets ≡ element 0x30 (written_content header body (Some sig) cert))
    → IsPlanned (with_algorithm plan (Some (algorithm_octets hss_lms))) header → sig ≡ signature (protected_part header body)
    → IfOk r (IsProtected plan body (Some hss_lms) (λ part. Some (signature part)) cert)
signed_made (Ok octets) plan body sig header cert signature e planned is = record {
  header = header;
  planned = planned;
  spelled = e ∙ ap (λ (s : List ℕ). element 0x30 (written_content header body (Some s) cert)) is;
}
signed_made (Err x) plan body sig header cert signature e planned is = tt

-- which is read back where the signature is valid,
pub signed_again : {E : Type 0} (r : Result (List ℕ) E) (plan : HeaderPlan) (body sig header : List ℕ) (cert : Option (List ℕ)) (key : List ℕ) (b : BodyForm)
    → IfOk r (λ octets. octets ≡ element 0x30 (written_content header body (Some sig) cert))
    → IsPlanned (with_algorithm plan (Some (algorithm_octets hss_lms))) header
    → FitsPlan plan → IsWholeBody b body → IfSome cert IsExtraCerts → HssOk key (protected_part header body) sig
    → IfOk r (λ octets. length octets ≤ message_limit → IsReadBack plan (Some hss_lms) cert (Some (keys.Lms key)) b octets)
signed_again (Ok octets) plan body sig header cert key b e planned fits whole certs ok = λ limited.
    protected_is_read_back plan body (Some hss_lms) (λ part. Some sig) cert (Some (keys.Lms key)) b octets
    (record { header = header; planned = planned; spelled = e }) fits (hss_fits, hss_short) whole certs (record { form = refl; valid = ok }) limited
signed_again (Err x) plan body sig header cert key b e planned fits whole certs ok = tt

-- and which is no longer than its parts.
pub signed_size : {E : Type 0} (r : Result (List ℕ) E) (body sig header part : List ℕ) (cert : Option (List ℕ)) (signature : List ℕ → List ℕ) (fields n : ℕ)
    → IfOk r (λ octets. length octets ≤ length header + length body + length sig + option_size cert + 64)
    → length header ≤ fields + 512 → sig ≡ signature part → ((p : List ℕ) → length (signature p) ≤ n)
    → IfOk r (λ octets. length octets ≤ fields + length body + n + option_size cert + 576)
signed_size (Ok octets) body sig header part cert signature fields n sized short is bound = omega (arith, sized, short, bound part, ap (λ (l : List ℕ). length l) is)
signed_size (Err x) body sig header part cert signature fields n sized short is bound = tt
