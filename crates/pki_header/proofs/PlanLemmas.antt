-- How long a header of a plan is, and that it is a header of what the plan says.
use Rattle.std.proofs.Common.{◌≡◌, ℕ, ◌+◌, ◌^◌, ◌<◌, ◌≤◌, ◌++◌, List, [], length, Option, Some, None, Result, Ok, Err, IfOk, refl, sym, ap, subst, ◌∙◌, arith}
use Rattle.std.specs.Prelude.{IfSome, option_map, unwrap_or}
use Rattle.std.proofs.lemmas.List.{length-append}
use Rattle.der_base.specs.Element.{element, IsElement}
use Rattle.der_base.specs.Values.{is_integer}
use Rattle.asn_fields.specs.Forms.{optional_spelling, FitsOptional}
use Rattle.cmp_time.specs.Time.{IsGeneralized}
use Rattle.asn_types.specs.Algorithm.{Algorithm, FitsAlgorithm, algorithm_content}
use Rattle.asn_types.specs.Template.{IsAnything, Passes, same}
use Rattle.asn_types.proofs.LengthLemmas.{length_element_le, length_element_lt}
use Rattle.asn_parts.specs.Number.{number_octets}
use Rattle.asn_parts.specs.Parts.{tagged, FitsTagged}
use Rattle.asn_parts.proofs.NumberLemmas.{number_form, number_size}
use Rattle.pki_header.specs.Header.{HeadForm, FitsHead, FitsExplicit, head_content, explicit_octets}
use Rattle.pki_header.specs.Time.{IsTimeOf}
use Rattle.pki_header.specs.Plan.{planned_content, IsPlanned, field_size, plan_size, Says, PlanIsSpelled, IsAlgorithmElement, FitsPlan, IsHeaderOf}
use Rattle.pki_header.specs.declared.plan.HeaderPlan.{HeaderPlan}

pub generalized_length : (t : ℕ) (text : List ℕ) → IsGeneralized text t → length text ≡ 15
generalized_length t text (m, moment, spelled) = ap (λ (l : List ℕ). length l) spelled

explicit_short : (tag inner : ℕ) (o : Option (List ℕ)) → length (explicit_octets tag inner o) ≤ field_size o + 12
explicit_short tag inner None = omega arith
explicit_short tag inner (Some x) = omega (arith, length_element_le tag (element inner x), length_element_le inner x)

plain_short : (tag : ℕ) (o : Option (List ℕ)) → length (optional_spelling tag same o) ≤ field_size o + 6
plain_short tag None = omega arith
plain_short tag (Some x) = omega (arith, length_element_le tag x)

-- a row of twelve
row_length : (a b c d e f g h i j k l : List ℕ) → length (a ++ (b ++ (c ++ (d ++ (e ++ (f ++ (g ++ (h ++ (i ++ (j ++ (k ++ l))))))))))) ≡ length a + (length b + (length c + (length d + (length e + (length f + (length g + (length h + (length i + (length j + (length k + length l))))))))))
row_length a b c d e f g h i j k l =
    omega (
      arith,
      length-append a (b ++ (c ++ (d ++ (e ++ (f ++ (g ++ (h ++ (i ++ (j ++ (k ++ l)))))))))),
      length-append b (c ++ (d ++ (e ++ (f ++ (g ++ (h ++ (i ++ (j ++ (k ++ l))))))))),
      length-append c (d ++ (e ++ (f ++ (g ++ (h ++ (i ++ (j ++ (k ++ l)))))))),
      length-append d (e ++ (f ++ (g ++ (h ++ (i ++ (j ++ (k ++ l))))))),
      length-append e (f ++ (g ++ (h ++ (i ++ (j ++ (k ++ l)))))),
      length-append f (g ++ (h ++ (i ++ (j ++ (k ++ l))))),
      length-append g (h ++ (i ++ (j ++ (k ++ l)))),
      length-append h (i ++ (j ++ (k ++ l))),
      length-append i (j ++ (k ++ l)),
      length-append j (k ++ l),
      length-append k l,
    )

plan_short : (p : HeaderPlan) (text : Option (List ℕ)) → field_size text < 16 → length (planned_content p text) ≤ plan_size p + 149
plan_short p text short =
    omega (
      arith,
      row_length (element 0x02 (number_octets p.pvno)) p.sender p.recipient (explicit_octets 0xA0 0x18 text) (optional_spelling 0xA1 same p.alg) (explicit_octets 0xA2 0x04 p.sender_kid) (explicit_octets 0xA3 0x04 p.recip_kid) (explicit_octets 0xA4 0x04 p.tid) (explicit_octets 0xA5 0x04 p.sender_nonce) (explicit_octets 0xA6 0x04 p.recip_nonce) (explicit_octets 0xA7 0x30 p.free_text) (explicit_octets 0xA8 0x30 p.info),
      length_element_le 0x02 (number_octets p.pvno),
      number_size p.pvno,
      explicit_short 0xA0 0x18 text,
      plain_short 0xA1 p.alg,
      explicit_short 0xA2 0x04 p.sender_kid,
      explicit_short 0xA3 0x04 p.recip_kid,
      explicit_short 0xA4 0x04 p.tid,
      explicit_short 0xA5 0x04 p.sender_nonce,
      explicit_short 0xA6 0x04 p.recip_nonce,
      explicit_short 0xA7 0x30 p.free_text,
      explicit_short 0xA8 0x30 p.info,
    )

-- what was put behind nothing fits a length
pub fields_counted : (p : HeaderPlan) (text : Option (List ℕ)) (w0 w1 : List ℕ) → w0 ≡ [] → w1 ≡ w0 ++ planned_content p text → field_size text < 16 → plan_size p + 256 < 2 ^ 32 → length w1 < 2 ^ 32
fields_counted p text w0 w1 empty put short long =
    let all : w1 ≡ planned_content p text = put ∙ ap (λ (l : List ℕ). l ++ planned_content p text) empty in
    omega (arith, long, ap (λ (l : List ℕ). length l) all, plan_short p text short)

-- the algorithm as a whole element
alg_same : (o : Option Algorithm) → optional_spelling 0xA1 same (option_map (tagged 0x30 algorithm_content) o) ≡ optional_spelling 0xA1 (tagged 0x30 algorithm_content) o
alg_same None = refl
alg_same (Some x) = refl

plan_is_spelled : PlanIsSpelled
plan_is_spelled p time h s =
    let alg : optional_spelling 0xA1 same p.alg ≡ optional_spelling 0xA1 (tagged 0x30 algorithm_content) h.alg = ap (optional_spelling 0xA1 same) (sym s.alg) ∙ alg_same h.alg in
    rw (alg, s.pvno, s.sender, s.recipient, s.text, s.sender_kid, s.recip_kid, s.tid, s.sender_nonce, s.recip_nonce, s.free_text, s.info) refl

-- the fields of a plan fit
abbrev alg_form : (o : Option (List ℕ)) → IfSome o IsAlgorithmElement → Option Algorithm
alg_form None h = None
alg_form (Some octets) h = Some h.form

alg_says : (o : Option (List ℕ)) (h : IfSome o IsAlgorithmElement) → option_map (tagged 0x30 algorithm_content) (alg_form o h) ≡ o
alg_says None h = refl
alg_says (Some octets) h = ap (λ (l : List ℕ). Some l) (sym h.alone.spelled)

alg_fits : (o : Option (List ℕ)) (h : IfSome o IsAlgorithmElement) → field_size o < 2 ^ 32 → FitsOptional (tagged 0x30 algorithm_content) (FitsTagged algorithm_content FitsAlgorithm) (alg_form o h)
alg_fits None h short = tt
alg_fits (Some octets) h short = ((h.fits, h.alone.counted), subst (λ (l : List ℕ). length l < 2 ^ 32) h.alone.spelled short)

explicit_fits : (inner : ℕ) (Form : List ℕ → Type 0) (o : Option (List ℕ)) → IfSome o Form → field_size o + 6 < 2 ^ 32 → FitsExplicit inner Form o
explicit_fits inner Form None h short = tt
explicit_fits inner Form (Some x) h short = ((h, omega (arith, short)), omega (arith, short, length_element_le inner x))

anything : (o : Option (List ℕ)) → IfSome o IsAnything
anything None = tt
anything (Some x) = tt

time_fits : (text : Option (List ℕ)) (t : Option ℕ) → IsTimeOf text t → FitsExplicit 0x18 IsAnything text
time_fits None t h = tt
time_fits (Some text) None h = absurd h
time_fits (Some text) (Some t) h = explicit_fits 0x18 IsAnything (Some text) tt (omega (arith, generalized_length t text h))

time_short : (text : Option (List ℕ)) (t : Option ℕ) → IsTimeOf text t → field_size text < 16
time_short None t h = omega arith
time_short (Some text) None h = absurd h
time_short (Some text) (Some t) h = omega (arith, generalized_length t text h)

abbrev form_of : (p : HeaderPlan) → FitsPlan p → Option (List ℕ) → HeadForm
form_of p fits text = record {
  pvno = number_octets p.pvno;
  sender = fits.sender.name;
  recipient = fits.recipient.name;
  time = text;
  alg = alg_form p.alg fits.alg;
  sender_kid = p.sender_kid;
  recip_kid = p.recip_kid;
  tid = p.tid;
  sender_nonce = p.sender_nonce;
  recip_nonce = p.recip_nonce;
  free_text = p.free_text;
  info = p.info;
}

form_fits : (p : HeaderPlan) (fits : FitsPlan p) (text : Option (List ℕ)) → plan_size p + 256 < 2 ^ 32 → IsTimeOf text p.time → FitsHead (form_of p fits text)
form_fits p fits text counted timed = record {
  pvno = (number_form p.pvno (omega (arith, fits.pvno)), omega (arith, number_size p.pvno));
  sender = fits.sender.general;
  recipient = fits.recipient.general;
  time = time_fits text p.time timed;
  alg = alg_fits p.alg fits.alg (omega (arith, counted));
  sender_kid = explicit_fits 0x04 IsAnything p.sender_kid (anything p.sender_kid) (omega (arith, counted));
  recip_kid = explicit_fits 0x04 IsAnything p.recip_kid (anything p.recip_kid) (omega (arith, counted));
  tid = explicit_fits 0x04 IsAnything p.tid (anything p.tid) (omega (arith, counted));
  sender_nonce = explicit_fits 0x04 IsAnything p.sender_nonce (anything p.sender_nonce) (omega (arith, counted));
  recip_nonce = explicit_fits 0x04 IsAnything p.recip_nonce (anything p.recip_nonce) (omega (arith, counted));
  free_text = explicit_fits 0x30 _ p.free_text fits.free_text (omega (arith, counted));
  info = explicit_fits 0x30 _ p.info fits.info (omega (arith, counted));
}

form_says : (p : HeaderPlan) (fits : FitsPlan p) (text : Option (List ℕ)) → Says p text (form_of p fits text)
form_says p fits text = record {
  pvno = refl;
  sender = fits.sender.whole;
  recipient = fits.recipient.whole;
  text = refl;
  alg = alg_says p.alg fits.alg;
  sender_kid = refl;
  recip_kid = refl;
  tid = refl;
  sender_nonce = refl;
  recip_nonce = refl;
  free_text = refl;
  info = refl;
}

header_of : (p : HeaderPlan) (octets : List ℕ) → plan_size p + 256 < 2 ^ 32 → IsPlanned p octets → FitsPlan p → IsHeaderOf p octets
header_of p octets counted is fits =
    let says = form_says p fits is.time in
    let spelled : planned_content p is.time ≡ head_content (form_of p fits is.time) = plan_is_spelled p is.time (form_of p fits is.time) says in
    let short : length (planned_content p is.time) < 2 ^ 32 = omega (arith, counted, plan_short p is.time (time_short is.time p.time is.timed)) in
    record {
      form = form_of p fits is.time;
      fits = form_fits p fits is.time counted is.timed;
      timed = is.timed;
      says = says;
      alone = record { low_tag = omega arith; counted = subst (λ (l : List ℕ). length l < 2 ^ 32) spelled short; spelled = is.spelled ∙ ap (element 0x30) spelled };
    }

-- what was written is a header of what the plan says
pub header_result : {E : Type 0} (r : Result (List ℕ) E) (p : HeaderPlan) → plan_size p + 256 < 2 ^ 32 → IfOk r (IsPlanned p) → FitsPlan p → IfOk r (IsHeaderOf p)
header_result (Ok octets) p counted is fits = header_of p octets counted is fits
header_result (Err e) p counted is fits = tt

-- and how long it is at most
size_of : (p : HeaderPlan) (octets : List ℕ) → IsPlanned p octets → length octets ≤ plan_size p + 256
size_of p octets is = omega (arith, ap (λ (l : List ℕ). length l) is.spelled, length_element_le 0x30 (planned_content p is.time), plan_short p is.time (time_short is.time p.time is.timed))

pub header_size : {E : Type 0} (r : Result (List ℕ) E) (p : HeaderPlan) → IfOk r (IsPlanned p) → IfOk r (λ octets. length octets ≤ plan_size p + 256)
header_size (Ok octets) p is = size_of p octets is
header_size (Err e) p is = tt

-- and how long it is at least
explicit_least : (tag inner : ℕ) (o : Option (List ℕ)) → field_size o ≤ length (explicit_octets tag inner o)
explicit_least tag inner None = omega arith
explicit_least tag inner (Some x) = omega (arith, length_element_lt tag (element inner x), length_element_lt inner x)

plain_least : (tag : ℕ) (o : Option (List ℕ)) → field_size o ≤ length (optional_spelling tag same o)
plain_least tag None = omega arith
plain_least tag (Some x) = omega (arith, length_element_lt tag x)

plan_least : (p : HeaderPlan) (text : Option (List ℕ)) → plan_size p ≤ length (planned_content p text)
plan_least p text =
    omega (
      arith,
      row_length (element 0x02 (number_octets p.pvno)) p.sender p.recipient (explicit_octets 0xA0 0x18 text) (optional_spelling 0xA1 same p.alg) (explicit_octets 0xA2 0x04 p.sender_kid) (explicit_octets 0xA3 0x04 p.recip_kid) (explicit_octets 0xA4 0x04 p.tid) (explicit_octets 0xA5 0x04 p.sender_nonce) (explicit_octets 0xA6 0x04 p.recip_nonce) (explicit_octets 0xA7 0x30 p.free_text) (explicit_octets 0xA8 0x30 p.info),
      plain_least 0xA1 p.alg,
      explicit_least 0xA2 0x04 p.sender_kid,
      explicit_least 0xA3 0x04 p.recip_kid,
      explicit_least 0xA4 0x04 p.tid,
      explicit_least 0xA5 0x04 p.sender_nonce,
      explicit_least 0xA6 0x04 p.recip_nonce,
      explicit_least 0xA7 0x30 p.free_text,
      explicit_least 0xA8 0x30 p.info,
    )

pub planned_least : (p : HeaderPlan) (octets : List ℕ) → IsPlanned p octets → plan_size p ≤ length octets
planned_least p octets is = omega (arith, ap (λ (l : List ℕ). length l) is.spelled, length_element_lt 0x30 (planned_content p is.time), plan_least p is.time)
