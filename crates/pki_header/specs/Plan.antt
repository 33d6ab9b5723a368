-- Headers from the fields of a plan.
use Rattle.std.specs.Prelude.{◌≡◌, ℕ, ◌+◌, ◌^◌, ◌<◌, ◌++◌, List, [], length, Option, Some, None, IfSome, option_map, unwrap_or}
use Rattle.der_base.specs.Element.{element, IsElement}
use Rattle.der_base.specs.Reading.{Part}
use Rattle.asn_fields.specs.Forms.{optional_spelling}
use Rattle.asn_types.specs.Algorithm.{Algorithm, FitsAlgorithm, algorithm_content}
use Rattle.asn_types.specs.Template.{same}
use Rattle.asn_parts.specs.Number.{number_octets}
use Rattle.asn_parts.specs.Parts.{tagged, IsWholeGeneral}
use Rattle.pki_header.specs.Header.{HeadForm, FitsHead, head_content, explicit_octets}
use Rattle.pki_header.specs.Rows.{IsFreeText, IsGeneralInfo}
use Rattle.pki_header.specs.Time.{IsTimeOf}
use Rattle.pki_header.specs.declared.plan.HeaderPlan.{HeaderPlan}

-- The fields of a plan put in as they stand, in a header whose time has this text: the general names and the algorithm are
-- whole elements.
abbrev pub planned_content : HeaderPlan → Option (List ℕ) → List ℕ
planned_content p time =
    element 0x02 (number_octets p.pvno) ++ (p.sender ++ (p.recipient
    ++ (explicit_octets 0xA0 0x18 time ++ (optional_spelling 0xA1 same p.alg
    ++ (explicit_octets 0xA2 0x04 p.sender_kid ++ (explicit_octets 0xA3 0x04 p.recip_kid
    ++ (explicit_octets 0xA4 0x04 p.tid ++ (explicit_octets 0xA5 0x04 p.sender_nonce
    ++ (explicit_octets 0xA6 0x04 p.recip_nonce ++ (explicit_octets 0xA7 0x30 p.free_text
    ++ explicit_octets 0xA8 0x30 p.info))))))))))

-- The octets are the header of a plan.
pub record IsPlanned (p : HeaderPlan) (octets : List ℕ) : Type 0 where
  pub time : Option (List ℕ)
  pub timed : IsTimeOf time p.time
  pub spelled : octets ≡ element 0x30 (planned_content p time)

-- how many octets the fields have
abbrev pub field_size : Option (List ℕ) → ℕ
field_size o = length (unwrap_or o [])

abbrev pub plan_size : HeaderPlan → ℕ
plan_size p =
    length p.sender + length p.recipient + field_size p.alg + field_size p.sender_kid + field_size p.recip_kid + field_size p.tid
    + field_size p.sender_nonce + field_size p.recip_nonce + field_size p.free_text + field_size p.info

-- A header says what a plan does: each field is the plan's, and the time has this text.
pub record Says (p : HeaderPlan) (time : Option (List ℕ)) (h : HeadForm) : Type 0 where
  pub pvno : h.pvno ≡ number_octets p.pvno
  pub sender : h.sender.whole ≡ p.sender
  pub recipient : h.recipient.whole ≡ p.recipient
  pub text : h.time ≡ time
  pub alg : option_map (tagged 0x30 algorithm_content) h.alg ≡ p.alg
  pub sender_kid : h.sender_kid ≡ p.sender_kid
  pub recip_kid : h.recip_kid ≡ p.recip_kid
  pub tid : h.tid ≡ p.tid
  pub sender_nonce : h.sender_nonce ≡ p.sender_nonce
  pub recip_nonce : h.recip_nonce ≡ p.recip_nonce
  pub free_text : h.free_text ≡ p.free_text
  pub info : h.info ≡ p.info

-- What is written of a plan is the spelling of each header that says what the plan does.
abbrev pub PlanIsSpelled : Type 0
PlanIsSpelled = (p : HeaderPlan) (time : Option (List ℕ)) (h : HeadForm) → Says p time h → planned_content p time ≡ head_content h

-- The octets are the element of a general name.
pub record IsNameElement (octets : List ℕ) : Type 0 where
  pub name : Part
  pub whole : name.whole ≡ octets
  pub general : IsWholeGeneral name

-- The octets are an AlgorithmIdentifier.
pub record IsAlgorithmElement (octets : List ℕ) : Type 0 where
  pub form : Algorithm
  pub fits : FitsAlgorithm form
  pub alone : IsElement octets 0x30 (algorithm_content form)

-- The parts of a plan have the forms of their types.
pub record FitsPlan (p : HeaderPlan) : Type 0 where
  pub pvno : p.pvno < 2 ^ 8
  pub sender : IsNameElement p.sender
  pub recipient : IsNameElement p.recipient
  pub alg : IfSome p.alg IsAlgorithmElement
  pub free_text : IfSome p.free_text IsFreeText
  pub info : IfSome p.info IsGeneralInfo

-- The octets are a header that says what a plan does.
pub record IsHeaderOf (p : HeaderPlan) (octets : List ℕ) : Type 0 where
  pub form : HeadForm
  pub fits : FitsHead form
  pub timed : IsTimeOf form.time p.time
  pub says : Says p form.time form
  pub alone : IsElement octets 0x30 (head_content form)
