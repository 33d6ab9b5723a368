-- Request messages are read exactly where they are spelled.
use Rattle.std.proofs.Common.{◌≡◌, ◌≢◌, ℕ, ◌%◌, ◌^◌, ◌<◌, ◌++◌, Bool, true, false, cond, eqb, IsTrue, List, [], ◌∷◌, length, map, Option, Some, None, option_map, Result, Ok, Err, IfOk, append-nil, refl, sym, ap, subst, ◌∙◌, arith}
use Rattle.std.proofs.lemmas.List.{length-map}
use Rattle.der_base.specs.Element.{element, IsElement}
use Rattle.der_base.specs.Reading.{Part, part}
use Rattle.der_base.specs.Values.{is_integer}
use Rattle.asn_fields.specs.Fields.{◌>>=◌, Gives, field_at, sole_at, optional_with}
use Rattle.asn_fields.specs.Forms.{IsRead, IsFront, IsField, optional_spelling, FitsOptional}
use Rattle.asn_fields.specs.Rows.{RowForm, row_of, first_of, entries_spelling, FitsEntries, IsRowContent, row_at}
use Rattle.asn_fields.specs.declared.fault.BadForm.{BadForm}
use Rattle.asn_fields.proofs.FieldLemmas.{IsTagged, bound, passed, some_same, field_takes, field_reads, sole_takes, sole_reads, optional_field}
use Rattle.asn_fields.proofs.RowLemmas.{row_takes, row_again}
use Rattle.asn_types.specs.Template.{FitsTemplate, Passes, same, template_content, tested_at, template_at}
use Rattle.asn_types.proofs.TemplateLemmas.{template_is_read}
use Rattle.asn_parts.specs.Parts.{tagged, FitsTagged, required_with}
use Rattle.asn_parts.proofs.PartLemmas.{tested_is_read, required_front, empty_of, field_last}
use Rattle.req_forms.specs.Controls.{IsControls, controls_content, controls_at}
use Rattle.req_forms.specs.Possession.{ProofForm, proof_spelling, proof_front_at}
use Rattle.req_forms.specs.Requests.{are_elements, RequestForm, request_content, FitsRequest, MessageForm, message_content, FitsMessage, ReqForm, shown_of, IsCrmf, list_of, request_at, request_front_at, message_at, shown_row, crmf_at}
use Rattle.req_forms.specs.declared.requests.CrmfList.{CrmfList}
use Rattle.req_forms.proofs.ControlLemmas.{controls_are_read}
use Rattle.req_forms.proofs.PossessionLemmas.{IsNoProof, front_takes, front_again}

pub id_front : IsFront (required_with (tested_at is_integer) 0x02) (tagged 0x02 same) (FitsTagged same (Passes is_integer))
id_front = required_front (tested_at is_integer) 0x02 same (Passes is_integer) (omega arith) (tested_is_read is_integer)

template_front : IsFront (required_with template_at 0x30) (tagged 0x30 template_content) (FitsTagged template_content FitsTemplate)
template_front = required_front template_at 0x30 template_content FitsTemplate (omega arith) template_is_read

controls_field : IsField (optional_with controls_at 0x30) 0x30 controls_content IsControls
controls_field = optional_field controls_at 0x30 controls_content IsControls (omega arith) controls_are_read

request_made : (bytes : List ℕ) (r : RequestForm) (r0 r1 r2 : List ℕ) → bytes ≡ element 0x02 r.id ++ r0 → r0 ≡ element 0x30 (template_content r.template) ++ r1 → r1 ≡ optional_spelling 0x30 controls_content r.controls ++ r2 → r2 ≡ [] → bytes ≡ request_content r
request_made bytes r r0 r1 r2 e0 e1 e2 end =
    e0 ∙ ap (λ (l : List ℕ). element 0x02 r.id ++ l) (e1 ∙ ap (λ (l : List ℕ). element 0x30 (template_content r.template) ++ l)
    (e2 ∙ ap (λ (l : List ℕ). optional_spelling 0x30 controls_content r.controls ++ l) end ∙ append-nil (optional_spelling 0x30 controls_content r.controls)))

request_takes : (bytes : List ℕ) (r : RequestForm) → request_at bytes ≡ Some r → FitsRequest r × (bytes ≡ request_content r)
unfolding request_at
request_takes bytes r e =
    bound (FitsRequest r × (bytes ≡ request_content r)) (required_with (tested_at is_integer) 0x02 bytes) _ r e (λ i r0 e0.
    bound (FitsRequest r × (bytes ≡ request_content r)) (required_with template_at 0x30 i.1) _ r e0 (λ t r1 e1.
    bound (FitsRequest r × (bytes ≡ request_content r)) (optional_with controls_at 0x30 t.1) _ r e1 (λ c r2 e2.
    passed (FitsRequest r × (bytes ≡ request_content r)) (eqb (length c.1) 0) (record { id = i.0; template = t.0; controls = c.0 }) r e2 (λ none is.
    let f0 = id_front.takes bytes i.0 i.1 r0 in
    let f1 = template_front.takes i.1 t.0 t.1 r1 in
    let f2 = controls_field.takes t.1 c.0 c.1 r2 in
    subst (λ (x : RequestForm). FitsRequest x × (bytes ≡ request_content x)) is (
      record { id = f0.0; template = f1.0; controls = f2.0 },
      request_made bytes (record { id = i.0; template = t.0; controls = c.0 }) i.1 t.1 c.1 f0.1 f1.1 f2.1 (empty_of c.1 none),
    )))))

request_again : (r : RequestForm) → FitsRequest r → request_at (request_content r) ≡ Some r
unfolding request_at
request_again r fits =
    rw (
      id_front.again r.id (element 0x30 (template_content r.template) ++ optional_spelling 0x30 controls_content r.controls) fits.id,
      template_front.again r.template (optional_spelling 0x30 controls_content r.controls) fits.template,
      field_last controls_at 0x30 controls_content IsControls (omega arith) controls_are_read r.controls fits.controls,
    ) refl

-- a request as it stands at the front, and what is in it
pub record IsRequestFront (bytes octets : List ℕ) (r : RequestForm) (rest : List ℕ) : Type 0 where
  pub fits : FitsRequest r
  pub alone : IsElement octets 0x30 (request_content r)
  pub parts : bytes ≡ octets ++ rest

request_front_by : (bytes octets : List ℕ) (r : RequestForm) (rest : List ℕ) (p : Part) (more : List ℕ) (x : RequestForm) → IsTagged 0x30 bytes p more → FitsRequest x → p.content ≡ request_content x → ◌≡◌ {A = (List ℕ × RequestForm) × List ℕ} ((p.whole, x), more) ((octets, r), rest) → IsRequestFront bytes octets r rest
request_front_by bytes octets r rest p more x t fits c e =
    subst (λ (z : (List ℕ × RequestForm) × List ℕ). IsRequestFront bytes z.0.0 z.0.1 z.1) e
    (record { fits = fits; alone = subst (λ (l : List ℕ). IsElement p.whole 0x30 l) c t.element_is; parts = t.parts })

request_front_takes : (bytes octets : List ℕ) (r : RequestForm) (rest : List ℕ) → request_front_at bytes ≡ Some ((octets, r), rest) → IsRequestFront bytes octets r rest
unfolding request_front_at
request_front_takes bytes octets r rest e =
    bound (IsRequestFront bytes octets r rest) (field_at 0x30 bytes) _ ((octets, r), rest) e (λ f read e1.
    bound (IsRequestFront bytes octets r rest) (request_at f.0.content) (λ (x : RequestForm). Some ((f.0.whole, x), f.1)) ((octets, r), rest) e1 (λ x got last.
    let w = request_takes f.0.content x got in
    request_front_by bytes octets r rest f.0 f.1 x (field_takes 0x30 bytes f.0 f.1 read) w.0 w.1 (some_same ((f.0.whole, x), f.1) ((octets, r), rest) last)))

request_front_again : (octets : List ℕ) (r : RequestForm) (rest : List ℕ) → IsElement octets 0x30 (request_content r) → FitsRequest r → request_front_at (octets ++ rest) ≡ Some ((octets, r), rest)
unfolding request_front_at
request_front_again octets r rest is fits =
    rw (field_reads 0x30 (octets ++ rest) octets (request_content r) rest is refl, request_again r fits)
    (ap (λ (l : List ℕ). let x : (List ℕ × RequestForm) × List ℕ = ((l, r), rest) in Some x) (sym is.spelled))

reg_info_field : IsField (optional_with (tested_at are_elements) 0x30) 0x30 same (Passes are_elements)
reg_info_field = optional_field (tested_at are_elements) 0x30 same (Passes are_elements) (omega arith) (tested_is_read are_elements)

no_proof : (o : Option (List ℕ)) → IsNoProof (optional_spelling 0x30 same o)
unfolding element
no_proof None = tt
no_proof (Some octets) = refl

message_made : (bytes : List ℕ) (m : MessageForm) (r0 r1 r2 : List ℕ) → bytes ≡ m.request ++ r0 → r0 ≡ proof_spelling m.proof ++ r1 → r1 ≡ optional_spelling 0x30 same m.reg_info ++ r2 → r2 ≡ [] → bytes ≡ message_content m
message_made bytes m r0 r1 r2 e0 e1 e2 end =
    e0 ∙ ap (λ (l : List ℕ). m.request ++ l) (e1 ∙ ap (λ (l : List ℕ). proof_spelling m.proof ++ l)
    (e2 ∙ ap (λ (l : List ℕ). optional_spelling 0x30 same m.reg_info ++ l) end ∙ append-nil (optional_spelling 0x30 same m.reg_info)))

message_takes : (bytes : List ℕ) (m : MessageForm) → message_at bytes ≡ Some m → FitsMessage m × (bytes ≡ message_content m)
unfolding message_at
message_takes bytes m e =
    bound (FitsMessage m × (bytes ≡ message_content m)) (request_front_at bytes) _ m e (λ q r0 e0.
    bound (FitsMessage m × (bytes ≡ message_content m)) (proof_front_at q.1) _ m e0 (λ p r1 e1.
    bound (FitsMessage m × (bytes ≡ message_content m)) (optional_with (tested_at are_elements) 0x30 p.1) _ m e1 (λ i r2 e2.
    passed (FitsMessage m × (bytes ≡ message_content m)) (eqb (length i.1) 0) (record { request = q.0.0; inside = q.0.1; proof = p.0; reg_info = i.0 }) m e2 (λ none is.
    let f0 = request_front_takes bytes q.0.0 q.0.1 q.1 r0 in
    let f1 = front_takes q.1 p.0 p.1 r1 in
    let f2 = reg_info_field.takes p.1 i.0 i.1 r2 in
    subst (λ (x : MessageForm). FitsMessage x × (bytes ≡ message_content x)) is (
      record { request = f0.alone; inside = f0.fits; proof = f1.0; reg_info = f2.0 },
      message_made bytes (record { request = q.0.0; inside = q.0.1; proof = p.0; reg_info = i.0 }) q.1 p.1 i.1 f0.parts f1.1 f2.1 (empty_of i.1 none),
    )))))

message_again : (m : MessageForm) → FitsMessage m → message_at (message_content m) ≡ Some m
unfolding message_at
message_again m fits =
    rw (
      request_front_again m.request m.inside (proof_spelling m.proof ++ optional_spelling 0x30 same m.reg_info) fits.request fits.inside,
      front_again m.proof (optional_spelling 0x30 same m.reg_info) fits.proof (no_proof m.reg_info),
      field_last (tested_at are_elements) 0x30 same (Passes are_elements) (omega arith) (tested_is_read are_elements) m.reg_info fits.reg_info,
    ) refl

-- The law of messages.
pub message_is_read : IsRead message_at message_content FitsMessage
message_is_read = record { takes = message_takes; again = message_again }

shown_first : (messages : List MessageForm) → shown_row (row_of messages) ≡ row_of (map shown_of messages)
shown_first [] = refl
shown_first (m ∷ messages) = ap (λ (n : ℕ). let x : RowForm ReqForm = record { count = n; first = Some (shown_of m) } in x) (sym (length-map (m ∷ messages) shown_of))

crmf_by : (bytes : List ℕ) (list : RowForm ReqForm) (p : Part) (row : RowForm MessageForm) → IsTagged 0x30 bytes p [] → IsRowContent 0x30 message_content FitsMessage p.content row → shown_row row ≡ list → IsCrmf bytes list
crmf_by bytes list p row t is e = record {
  messages = is.entries;
  fit = is.fit;
  alone = subst (λ (l : List ℕ). IsElement bytes 0x30 l) is.spelled (subst (λ (l : List ℕ). IsElement l 0x30 p.content) (sym (t.parts ∙ append-nil p.whole)) t.element_is);
  shown = sym e ∙ ap shown_row is.shown ∙ shown_first is.entries;
}

pub crmf_takes : (bytes : List ℕ) (list : RowForm ReqForm) → crmf_at bytes ≡ Some list → IsCrmf bytes list
unfolding crmf_at
crmf_takes bytes list e =
    bound (IsCrmf bytes list) (sole_at 0x30 bytes) _ list e (λ p read e1.
    bound (IsCrmf bytes list) (row_at message_at 0x30 p.content) (λ (row : RowForm MessageForm). Some (shown_row row)) list e1 (λ row got last.
    crmf_by bytes list p row (sole_takes 0x30 bytes p read) (row_takes message_is_read 0x30 p.content row got) (some_same (shown_row row) list last)))

pub crmf_again : (bytes : List ℕ) (list : RowForm ReqForm) → IsCrmf bytes list → crmf_at bytes ≡ Some list
unfolding crmf_at
crmf_again bytes list is =
    let content : List ℕ = entries_spelling 0x30 message_content is.messages in
    let row : IsRowContent 0x30 message_content FitsMessage content (row_of is.messages) = record { entries = is.messages; fit = is.fit; spelled = refl; shown = refl } in
    rw (sole_reads 0x30 bytes content is.alone, row_again message_is_read 0x30 (omega arith) content (row_of is.messages) row)
    (ap (λ (x : RowForm ReqForm). Some x) (shown_first is.messages ∙ sym is.shown))

pub crmf_found : (bytes : List ℕ) (r : Result CrmfList BadForm) → Gives list_of r (crmf_at bytes) → IfOk r (λ l. IsCrmf bytes (list_of l))
crmf_found bytes (Ok l) e = crmf_takes bytes (list_of l) e
crmf_found bytes (Err f) e = tt

pub crmf_only : (bytes : List ℕ) (r : Result CrmfList BadForm) → Gives list_of r (crmf_at bytes) → (list : RowForm ReqForm) → IsCrmf bytes list → Gives list_of r (Some list)
crmf_only bytes (Ok l) e list is = sym (crmf_again bytes list is) ∙ e
crmf_only bytes (Err f) e list is = sym (crmf_again bytes list is) ∙ e
