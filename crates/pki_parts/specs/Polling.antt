-- Polling for what is not there yet (RFC 9810, 5.3.22).
use Rattle.std.specs.Prelude.{◌≡◌, ℕ, ℤ, ◌++◌, ◌==◌, if◌then◌else◌, List, length, Option, Some, None, option_map}
use Rattle.std.specs.Option.{option_copied}
use Rattle.der_base.specs.Element.{element}
use Rattle.der_base.specs.Reading.{Part}
use Rattle.der_base.specs.Values.{is_integer}
use Rattle.asn_fields.specs.Fields.{◌>>=◌, optional_with}
use Rattle.asn_fields.specs.Forms.{optional_spelling, FitsOptional}
use Rattle.asn_fields.specs.Rows.{RowForm}
use Rattle.asn_types.specs.Template.{Passes, same, tested_at}
use Rattle.asn_parts.specs.Number.{number_octets}
use Rattle.asn_parts.specs.Parts.{tagged, FitsTagged, required_with, sole_with}
use Rattle.pki_parts.specs.Identifier.{id_octets}
use Rattle.pki_parts.specs.Lists.{IsList, list_at}
use Rattle.pki_parts.specs.Texts.{IsTexts, are_texts}
use Rattle.pki_parts.specs.declared.polling.PollId.{PollId}
use Rattle.pki_parts.specs.declared.polling.PollReq.{PollReq}
use Rattle.pki_parts.specs.declared.polling.PollAnswer.{PollAnswer}
use Rattle.pki_parts.specs.declared.polling.PollEntry.{PollEntry}
use Rattle.pki_parts.specs.declared.polling.PollRep.{PollRep}

-- PollReqContent: the certReqId of each request that is asked for
abbrev pub IsPollReq : Part → RowForm (List ℕ) → Type 0
IsPollReq = IsList (tagged 0x02 same) (FitsTagged same (Passes is_integer))

-- an entry of PollRepContent: certReqId, checkAfter in seconds, and the reason, a row of texts
pub record AnswerForm : Type 0 where
  pub id : List ℕ
  pub after : List ℕ
  pub text : Option (List ℕ)

abbrev pub answer_content : AnswerForm → List ℕ
answer_content a = element 0x02 a.id ++ (element 0x02 a.after ++ optional_spelling 0x30 same a.text)

pub record FitsAnswer (a : AnswerForm) : Type 0 where
  pub id : FitsTagged same (Passes is_integer) a.id
  pub after : FitsTagged same (Passes is_integer) a.after
  pub text : FitsOptional same IsTexts a.text

-- what is shown of an entry
pub record PollForm : Type 0 where
  pub id : List ℕ
  pub after : List ℕ

abbrev pub shown_of : AnswerForm → PollForm
shown_of a = record { id = a.id; after = a.after }

abbrev pub shown_row : RowForm AnswerForm → RowForm PollForm
shown_row r = record { count = r.count; first = option_map shown_of r.first }

-- PollRepContent: an entry for each request that is not answered yet, so many, and the first one shows this
pub record IsPollRep (p : Part) (row : RowForm PollForm) : Type 0 where
  pub full : RowForm AnswerForm
  pub list : IsList answer_content FitsAnswer p full
  pub shown : row ≡ shown_row full

-- what was read shows
abbrev pub poll_id_of : PollId → List ℕ
poll_id_of p = p.id.now

abbrev pub poll_req_of : PollReq → RowForm (List ℕ)
poll_req_of p = record { count = p.count; first = option_copied p.first }

abbrev pub answer_of : PollAnswer → AnswerForm
answer_of a = record { id = a.id.now; after = a.after.now; text = option_copied a.text }

abbrev pub poll_of : PollEntry → PollForm
poll_of p = record { id = p.id.now; after = p.after.now }

abbrev pub poll_rep_of : PollRep → RowForm PollForm
poll_rep_of p = record { count = p.count; first = option_map poll_of p.first }

-- what is read
abbrev pub poll_id_at : List ℕ → Option (List ℕ)
poll_id_at = sole_with (tested_at is_integer) 0x02

abbrev pub poll_req_at : Part → Option (RowForm (List ℕ))
poll_req_at = list_at poll_id_at

unfoldable pub answer_at : List ℕ → Option AnswerForm
answer_at content = do
  id ← required_with (tested_at is_integer) 0x02 content
  after ← required_with (tested_at is_integer) 0x02 id.1
  text ← optional_with (tested_at are_texts) 0x30 after.1
  if length text.1 == 0 then Some (record { id = id.0; after = after.0; text = text.0 }) else None

unfoldable pub poll_rep_at : Part → Option (RowForm PollForm)
poll_rep_at p = do
  row ← list_at answer_at p
  Some (shown_row row)

-- what is written: the poll for one request
abbrev pub poll_req_octets : ℤ → List ℕ
poll_req_octets id = element 0x30 (element 0x30 (element 0x02 (id_octets id)))

-- and the answer to it, without a reason
abbrev pub poll_rep_octets : ℤ → ℕ → List ℕ
poll_rep_octets id after = element 0x30 (element 0x30 (element 0x02 (id_octets id) ++ element 0x02 (number_octets after)))

-- what is read again of it
abbrev pub written_poll : ℤ → ℕ → PollForm
written_poll id after = record { id = id_octets id; after = number_octets after }
