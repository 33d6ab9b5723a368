-- PKIBody (RFC 9810, 5.1.2): each alternative by the number of its tag and by what stands inside the tag.
use Rattle.std.specs.Prelude.{◌≡◌, ◌≢◌, ℕ, ◌&&◌, ◌||◌, ◌==◌, not, nat_le, if◌then◌else◌, Bool, IsTrue, List, [], length, Option, Some, None}
use Rattle.std.specs.List.{list_all}
use Rattle.der_base.specs.Element.{IsElement}
use Rattle.der_base.specs.Reading.{Part, whole_at}
use Rattle.der_base.specs.Row.{items_of}
use Rattle.der_base.specs.Values.{is_null}
use Rattle.asn_fields.specs.Fields.{◌>>=◌, ok_of}
use Rattle.asn_fields.specs.Rows.{RowForm}
use Rattle.asn_types.specs.Algorithm.{IsAny}
use Rattle.asn_types.specs.Rows.{IsRowOf, passes}
use Rattle.asn_types.specs.Template.{tested_at}
use Rattle.asn_parts.specs.Parts.{sole_with}
use Rattle.req_forms.specs.Requests.{ReqForm, IsCrmf, list_of, crmf_at}
use Rattle.req_forms.specs.Pkcs10.{P10Form, IsP10, p10_of, p10_at}
use Rattle.pki_header.specs.Rows.{IsInfo, is_info}
use Rattle.pki_parts.specs.CertRep.{RepForm, IsCertRep, rep_of, rep_at}
use Rattle.pki_parts.specs.Confirmation.{CertStatusForm, IsConfirm, confirm_of, confirm_at}
use Rattle.pki_parts.specs.Error.{ErrorForm, FitsError, error_content, error_of, error_at}
use Rattle.pki_parts.specs.Lists.{IsOne}
use Rattle.pki_parts.specs.Polling.{PollForm, IsPollReq, IsPollRep, poll_req_of, poll_rep_of, poll_req_at, poll_rep_at}
use Rattle.pki_parts.specs.Revocation.{RevForm, IsRevReq, rev_req_of, rev_req_at}
use Rattle.pki_parts.specs.Revoked.{IsRevRep, rev_rep_of, rev_rep_at}
use Rattle.pki_parts.specs.Status.{StatusForm}
use Rattle.pki_message.specs.declared.body.Body.{Body}
use Rattle.pki_message.specs.declared.body.Body.TheVariants as variant

-- what a body shows: of a list of requests, replies or others how many they are and the first one; of nested messages and of
-- general messages the content of their SEQUENCE; of a body that is not looked into the number of its tag
pub data BodyForm : Type 0 where
  ir : RowForm ReqForm → BodyForm
  ip : RepForm → BodyForm
  cr : RowForm ReqForm → BodyForm
  cp : RepForm → BodyForm
  p10cr : P10Form → BodyForm
  kur : RowForm ReqForm → BodyForm
  kup : RepForm → BodyForm
  rr : RowForm RevForm → BodyForm
  rp : RowForm StatusForm → BodyForm
  pkiconf : BodyForm
  nested : List ℕ → BodyForm
  genm : List ℕ → BodyForm
  genp : List ℕ → BodyForm
  error : ErrorForm → BodyForm
  cert_conf : RowForm CertStatusForm → BodyForm
  poll_req : RowForm (List ℕ) → BodyForm
  poll_rep : RowForm PollForm → BodyForm
  other : ℕ → BodyForm

-- The number of its tag.
abbrev pub tag_of : BodyForm → ℕ
tag_of (ir requests) = 0
tag_of (ip replies) = 1
tag_of (cr requests) = 2
tag_of (cp replies) = 3
tag_of (p10cr request) = 4
tag_of (kur requests) = 7
tag_of (kup replies) = 8
tag_of (rr requests) = 11
tag_of (rp responses) = 12
tag_of pkiconf = 19
tag_of (nested messages) = 20
tag_of (genm infos) = 21
tag_of (genp infos) = 22
tag_of (error message) = 23
tag_of (cert_conf statuses) = 24
tag_of (poll_req polls) = 25
tag_of (poll_rep answers) = 26
tag_of (other tag) = tag

-- The octets are a SEQUENCE of such a content.
pub record IsSequence (Form : List ℕ → Type 0) (octets : List ℕ) : Type 0 where
  pub content : List ℕ
  pub alone : IsElement octets 0x30 content
  pub form : Form content

-- One or more SEQUENCEs, which are not looked into: messages in a message.
abbrev pub IsSequencePart : Part → Type 0
IsSequencePart p = p.tag ≡ 0x30

pub record IsSequences (content : List ℕ) : Type 0 where
  pub some : content ≢ []
  pub row : IsRowOf IsSequencePart content

-- Any number of InfoTypeAndValue (RFC 9810, 5.3.19).
abbrev pub IsInfos : List ℕ → Type 0
IsInfos = IsRowOf IsInfo

-- The alternatives that are not looked into: popdecc, popdecr, krr, krp, ccr, ccp, ckuann, cann, rann and crlann.
abbrev pub is_other_tag : ℕ → Bool
is_other_tag tag = tag == 5 || (tag == 6 || (tag == 9 || (tag == 10 || (nat_le 13 tag && nat_le tag 18))))

-- What stands inside the tag.
abbrev pub IsInside : BodyForm → List ℕ → Type 0
IsInside (ir requests) inside = IsCrmf inside requests
IsInside (ip replies) inside = IsSequence (λ content. IsCertRep content replies) inside
IsInside (cr requests) inside = IsCrmf inside requests
IsInside (cp replies) inside = IsSequence (λ content. IsCertRep content replies) inside
IsInside (p10cr request) inside = IsP10 inside request
IsInside (kur requests) inside = IsCrmf inside requests
IsInside (kup replies) inside = IsSequence (λ content. IsCertRep content replies) inside
IsInside (rr requests) inside = IsOne (λ p. IsRevReq p requests) inside
IsInside (rp responses) inside = IsOne (λ p. IsRevRep p responses) inside
IsInside pkiconf inside = IsElement inside 0x05 []
IsInside (nested messages) inside = IsElement inside 0x30 messages × IsSequences messages
IsInside (genm infos) inside = IsElement inside 0x30 infos × IsInfos infos
IsInside (genp infos) inside = IsElement inside 0x30 infos × IsInfos infos
IsInside (error message) inside = IsElement inside 0x30 (error_content message) × FitsError message
IsInside (cert_conf statuses) inside = IsOne (λ p. IsConfirm p statuses) inside
IsInside (poll_req polls) inside = IsOne (λ p. IsPollReq p polls) inside
IsInside (poll_rep answers) inside = IsOne (λ p. IsPollRep p answers) inside
IsInside (other tag) inside = IsTrue (is_other_tag tag) × IsAny inside

-- The octets inside this tag are this body.
pub record IsBody (tag : ℕ) (inside : List ℕ) (b : BodyForm) : Type 0 where
  pub tagged : tag ≡ tag_of b
  pub form : IsInside b inside

-- what a body that was read shows
abbrev pub body_of : Body → BodyForm
body_of (variant.Ir requests) = ir (list_of requests)
body_of (variant.Ip replies) = ip (rep_of replies)
body_of (variant.Cr requests) = cr (list_of requests)
body_of (variant.Cp replies) = cp (rep_of replies)
body_of (variant.P10cr request) = p10cr (p10_of request)
body_of (variant.Kur requests) = kur (list_of requests)
body_of (variant.Kup replies) = kup (rep_of replies)
body_of (variant.Rr requests) = rr (rev_req_of requests)
body_of (variant.Rp responses) = rp (rev_rep_of responses)
body_of variant.PkiConf = pkiconf
body_of (variant.Nested messages) = nested messages.now
body_of (variant.Genm infos) = genm infos.now
body_of (variant.Genp infos) = genp infos.now
body_of (variant.Error message) = error (error_of message)
body_of (variant.CertConf statuses) = cert_conf (confirm_of statuses)
body_of (variant.PollReq polls) = poll_req (poll_req_of polls)
body_of (variant.PollRep answers) = poll_rep (poll_rep_of answers)
body_of (variant.Other tag) = other tag

-- what is read
abbrev pub is_sequence_part : Part → Bool
is_sequence_part p = p.tag == 0x30

unfoldable pub are_sequences : List ℕ → Bool
are_sequences content = not (length content == 0) && list_all (passes is_sequence_part) (items_of content)

abbrev pub all_infos : List ℕ → Bool
all_infos content = list_all (passes is_info) (items_of content)

-- a value in the one element that the octets are
abbrev pub one_at : {X : Type 0} → (Part → Option X) → List ℕ → Option X
one_at read inside = ok_of (whole_at inside) >>= read

-- which is a SEQUENCE
abbrev pub in_sequence : {X : Type 0} → (List ℕ → Option X) → Part → Option X
in_sequence read p = if p.tag == 0x30 then read p.content else None

abbrev pub sequences_at : List ℕ → Option (List ℕ)
sequences_at = sole_with (tested_at are_sequences) 0x30

abbrev pub infos_at : List ℕ → Option (List ℕ)
infos_at = sole_with (tested_at all_infos) 0x30

abbrev pub nothing_at : List ℕ → Option (List ℕ)
nothing_at = sole_with (tested_at is_null) 0x05

abbrev pub anything_of : ℕ → Part → Option BodyForm
anything_of tag p = Some (other tag)

unfoldable pub other_at : ℕ → List ℕ → Option BodyForm
other_at tag inside = if is_other_tag tag then one_at (anything_of tag) inside else None

unfoldable pub last_body_at : ℕ → List ℕ → Option BodyForm
last_body_at tag inside =
    if tag == 21 then (infos_at inside >>= λ x. Some (genm x))
    else (if tag == 22 then (infos_at inside >>= λ x. Some (genp x))
    else (if tag == 23 then (one_at (in_sequence error_at) inside >>= λ x. Some (error x))
    else (if tag == 24 then (one_at confirm_at inside >>= λ x. Some (cert_conf x))
    else (if tag == 25 then (one_at poll_req_at inside >>= λ x. Some (poll_req x))
    else (if tag == 26 then (one_at poll_rep_at inside >>= λ x. Some (poll_rep x))
    else other_at tag inside)))))

unfoldable pub middle_body_at : ℕ → List ℕ → Option BodyForm
middle_body_at tag inside =
    if tag == 7 then (crmf_at inside >>= λ x. Some (kur x))
    else (if tag == 8 then (one_at (in_sequence rep_at) inside >>= λ x. Some (kup x))
    else (if tag == 11 then (one_at rev_req_at inside >>= λ x. Some (rr x))
    else (if tag == 12 then (one_at rev_rep_at inside >>= λ x. Some (rp x))
    else (if tag == 19 then (nothing_at inside >>= λ x. Some pkiconf)
    else (if tag == 20 then (sequences_at inside >>= λ x. Some (nested x))
    else last_body_at tag inside)))))

unfoldable pub body_at : ℕ → List ℕ → Option BodyForm
body_at tag inside =
    if tag == 0 then (crmf_at inside >>= λ x. Some (ir x))
    else (if tag == 1 then (one_at (in_sequence rep_at) inside >>= λ x. Some (ip x))
    else (if tag == 2 then (crmf_at inside >>= λ x. Some (cr x))
    else (if tag == 3 then (one_at (in_sequence rep_at) inside >>= λ x. Some (cp x))
    else (if tag == 4 then (p10_at inside >>= λ x. Some (p10cr x))
    else middle_body_at tag inside))))
