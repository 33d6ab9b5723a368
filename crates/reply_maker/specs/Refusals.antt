-- Refusals: error messages (RFC 9810, 5.3.21).
use Rattle.std.specs.Prelude.{ℕ, List, [], Option, None, Some, option_map, unwrap_or}
use Rattle.der_base.specs.Element.{element}
use Rattle.cmp_values.specs.Reasons.{name_of}
use Rattle.cmp_values.specs.declared.fail_info.FailInfo.{FailInfo}
use Rattle.deal_model.specs.declared.asking.Brief.{Brief}
use Rattle.deal_table.specs.Message.{Echoed}
use Rattle.deal_table.specs.Table.{Secret}
use Rattle.pbmac.specs.Mac.{mac_of}
use Rattle.pki_header.specs.declared.plan.HeaderPlan.{HeaderPlan}
use Rattle.pki_parts.specs.Status.{status_content, written_status}
use Rattle.protect.specs.Algorithms.{mac_algorithm}
use Rattle.cert_maker.specs.Plans.{ca_name}
use Rattle.reply_maker.specs.Messages.{planned_message, directory_name, recipient_for, nonce_in, salt_in}

-- The header names who refuses, and repeats what can be read of the message that is refused: its version, its sender as the
-- recipient, its transactionID, and its senderNonce as recipNonce (RFC 9810, 5.1.1).
abbrev pub refusal_header : List ℕ → Echoed → Option Secret → ℕ → Option (List ℕ) → HeaderPlan
refusal_header name e guard time words = record {
  pvno = e.pvno;
  sender = directory_name name;
  recipient = recipient_for e.sender;
  time = Some time;
  alg = None;
  sender_kid = option_map (λ g. g.kid) guard;
  recip_kid = None;
  tid = e.tid;
  sender_nonce = option_map nonce_in words;
  recip_nonce = e.nonce;
  free_text = None;
  info = None;
}

-- error, [23]: a rejection (2) with the reason, and its name as the one text
abbrev pub refusal_body : FailInfo → List ℕ
refusal_body fail = element 0xB7 (element 0x30 (element 0x30 (status_content (written_status 2 (Some (name_of fail)) (Some fail)))))

-- The refusal by whoever has this Name: protected by the MAC of a secret, of so many rounds, where there is one (5.1.3.1), and else
-- not protected.
unfoldable pub refusal_by : List ℕ → ℕ → Echoed → FailInfo → Option Secret → ℕ → Option (List ℕ) → List ℕ
refusal_by name rounds e fail None time words = planned_message (refusal_header name e None time words) (refusal_body fail) None (λ part. None) None
refusal_by name rounds e fail (Some g) time words =
    planned_message (refusal_header name e (Some g) time words) (refusal_body fail)
    (Some (mac_algorithm (salt_in (unwrap_or words [])) rounds))
    (λ part. Some (mac_of g.key (record { salt = salt_in (unwrap_or words []); rounds = rounds }) part)) None

-- the refusal by an authority, with the rounds of its settings
unfoldable pub refusal_of : Brief → Echoed → FailInfo → Option Secret → ℕ → Option (List ℕ) → List ℕ
refusal_of keys e fail guard time words = refusal_by (ca_name keys) keys.rounds e fail guard time words
