-- Certificate request messages (RFC 4211, 3 to 5).
use Rattle.std.specs.Prelude.{◌≡◌, ℕ, ◌++◌, ◌==◌, Bool, true, if◌then◌else◌, List, [], ◌∷◌, length, map, Option, Some, None, option_map}
use Rattle.std.specs.List.{list_all}
use Rattle.std.specs.Option.{option_copied}
use Rattle.der_base.specs.Element.{element, IsElement}
use Rattle.der_base.specs.Reading.{Part}
use Rattle.der_base.specs.Row.{items_of}
use Rattle.der_base.specs.Values.{is_integer}
use Rattle.asn_fields.specs.Fields.{◌>>=◌, field_at, sole_at, optional_with}
use Rattle.asn_fields.specs.Forms.{optional_spelling, FitsOptional}
use Rattle.asn_fields.specs.Rows.{RowForm, row_of, entries_spelling, FitsEntries, row_at}
use Rattle.asn_types.specs.Rows.{passes}
use Rattle.asn_types.specs.Template.{TemplateForm, FitsTemplate, Passes, same, template_content, template_of, tested_at, template_at}
use Rattle.asn_parts.specs.Parts.{FitsTagged, required_with}
use Rattle.req_forms.specs.Controls.{OldCertForm, ControlsForm, IsControls, controls_content, controls_of, old_of, controls_at}
use Rattle.req_forms.specs.Possession.{ProofForm, PopoForm, FitsProof, proof_spelling, popo_shown, proof_of, popo_of, proof_front_at}
use Rattle.req_forms.specs.declared.requests.Request.{Request}
use Rattle.req_forms.specs.declared.requests.Message.{Message}
use Rattle.req_forms.specs.declared.requests.CrmfReq.{CrmfReq}
use Rattle.req_forms.specs.declared.requests.CrmfList.{CrmfList}

-- any elements, one behind the other
abbrev pub is_element : Part → Bool
is_element p = true

unfoldable pub are_elements : List ℕ → Bool
are_elements octets = list_all (passes is_element) (items_of octets)

-- CertRequest: certReqId, the template, and the controls (RFC 4211, 5)
pub record RequestForm : Type 0 where
  pub id : List ℕ
  pub template : TemplateForm
  pub controls : Option ControlsForm

abbrev pub request_content : RequestForm → List ℕ
request_content r = element 0x02 r.id ++ (element 0x30 (template_content r.template) ++ optional_spelling 0x30 controls_content r.controls)

pub record FitsRequest (r : RequestForm) : Type 0 where
  pub id : FitsTagged same (Passes is_integer) r.id
  pub template : FitsTagged template_content FitsTemplate r.template
  pub controls : FitsOptional controls_content IsControls r.controls

-- CertReqMsg: the request as it stands and what is in it, the proof of possession, and regInfo, elements that are not looked
-- into (RFC 4211, 3)
pub record MessageForm : Type 0 where
  pub request : List ℕ
  pub inside : RequestForm
  pub proof : ProofForm
  pub reg_info : Option (List ℕ)

abbrev pub message_content : MessageForm → List ℕ
message_content m = m.request ++ (proof_spelling m.proof ++ optional_spelling 0x30 same m.reg_info)

pub record FitsMessage (m : MessageForm) : Type 0 where
  pub request : IsElement m.request 0x30 (request_content m.inside)
  pub inside : FitsRequest m.inside
  pub proof : FitsProof m.proof
  pub reg_info : FitsOptional same (Passes are_elements) m.reg_info

-- what a list shows of its first message
pub record ReqForm : Type 0 where
  pub id : List ℕ
  pub request : List ℕ
  pub template : TemplateForm
  pub old : Option OldCertForm
  pub popo : PopoForm

-- the first oldCertID, where there are controls
abbrev pub old_in : Option ControlsForm → Option OldCertForm
old_in None = None
old_in (Some c) = c.old

abbrev pub shown_of : MessageForm → ReqForm
shown_of m = record {
  id = m.inside.id;
  request = m.request;
  template = m.inside.template;
  old = old_in m.inside.controls;
  popo = popo_shown m.proof;
}

-- The octets are CertReqMessages, a SEQUENCE of these messages (RFC 4211, 3), so many, and the first one shows this.
pub record IsCrmf (bytes : List ℕ) (list : RowForm ReqForm) : Type 0 where
  pub messages : List MessageForm
  pub fit : FitsEntries message_content FitsMessage messages
  pub alone : IsElement bytes 0x30 (entries_spelling 0x30 message_content messages)
  pub shown : list ≡ row_of (map shown_of messages)

-- what was read shows
abbrev pub request_of : Request → RequestForm
request_of r = record { id = r.id.now; template = template_of r.template; controls = option_map controls_of r.controls }

abbrev pub message_of : Message → MessageForm
message_of m = record { request = m.request.now; inside = request_of m.inside; proof = proof_of m.proof; reg_info = option_copied m.reg_info }

abbrev pub req_of : CrmfReq → ReqForm
req_of r = record {
  id = r.id.now;
  request = r.request.now;
  template = template_of r.template;
  old = option_map old_of r.old;
  popo = popo_of r.popo;
}

abbrev pub list_of : CrmfList → RowForm ReqForm
list_of l = record { count = l.count; first = option_map req_of l.first }

-- what is read
unfoldable pub request_at : List ℕ → Option RequestForm
request_at bytes = do
  id ← required_with (tested_at is_integer) 0x02 bytes
  template ← required_with template_at 0x30 id.1
  controls ← optional_with controls_at 0x30 template.1
  if length controls.1 == 0 then Some (record { id = id.0; template = template.0; controls = controls.0 }) else None

-- a request as it stands at the front and what is in it, and what follows
unfoldable pub request_front_at : List ℕ → Option ((List ℕ × RequestForm) × List ℕ)
request_front_at bytes = do
  f ← field_at 0x30 bytes
  r ← request_at f.0.content
  Some ((f.0.whole, r), f.1)

unfoldable pub message_at : List ℕ → Option MessageForm
message_at bytes = do
  request ← request_front_at bytes
  proof ← proof_front_at request.1
  reg_info ← optional_with (tested_at are_elements) 0x30 proof.1
  if length reg_info.1 == 0 then Some (record {
    request = request.0.0;
    inside = request.0.1;
    proof = proof.0;
    reg_info = reg_info.0;
  }) else None

abbrev pub shown_row : RowForm MessageForm → RowForm ReqForm
shown_row r = record { count = r.count; first = option_map shown_of r.first }

unfoldable pub crmf_at : List ℕ → Option (RowForm ReqForm)
crmf_at bytes = do
  s ← sole_at 0x30 bytes
  row ← row_at message_at 0x30 s.content
  Some (shown_row row)
