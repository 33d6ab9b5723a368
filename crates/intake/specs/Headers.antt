-- What a header says of which a decision asks (RFC 9810, 5.1.1).
use Rattle.std.specs.Prelude.{ℕ, ◌&&◌, Bool, false, is_some, if◌then◌else◌, List, [], ◌∷◌, Option, Some, None, unwrap_or}
use Rattle.std.specs.List.{list_any}
use Rattle.std.specs.Str.{bytes_eq}
use Rattle.asn_fields.specs.Rows.{entries_at}
use Rattle.asn_types.specs.Algorithm.{Algorithm, algorithm_at}
use Rattle.asn_types.specs.Oids.{dotted}
use Rattle.pbmac.specs.Params.{params_at}
use Rattle.pki_header.specs.Header.{HeadForm}
use Rattle.deal_changes.specs.declared.change.Kind.{Kind}
use Rattle.deal_changes.specs.declared.change.Kind.TheVariants.{Mac, Lms}
use Rattle.deal_table.specs.Message.{Header}
use Rattle.intake.specs.Values.{sized, version_of, is_plain_hss}

-- How a protectionAlg protects: PBMAC1 within the limits of its parameters by a secret (RFC 9481, 6.1.2), HSS/LMS without
-- parameters by a signature (RFC 9708, 4). No other one is served.
abbrev pub kind_of : Option Algorithm → Option Kind
kind_of None = None
kind_of (Some a) = if is_some (params_at a) then Some Mac else (if is_plain_hss a then Some Lms else None)

-- a senderKID; none is empty, and so is one of more than 64 octets
abbrev pub kid_of : Option (List ℕ) → List ℕ
kid_of kid = unwrap_or (sized 0 64 kid) []

-- the header of a message, and the second of its time
abbrev pub header_of : HeadForm → Option ℕ → Header
header_of head time = record {
  pvno = version_of head.pvno;
  sender = head.sender.whole;
  kid = kid_of head.sender_kid;
  tid = sized 1 64 head.tid;
  sender_nonce = sized 16 64 head.sender_nonce;
  recip_nonce = sized 0 64 head.recip_nonce;
  time = time;
  kind = kind_of head.alg;
}

-- id-it-implicitConfirm, 1.3.6.1.5.5.7.4.13, with the value NULL (RFC 9810, 5.1.1.1)
abbrev pub is_implicit_confirm : Algorithm → Bool
is_implicit_confirm info = bytes_eq info.oid (dotted (1 ∷ 3 ∷ 6 ∷ 1 ∷ 5 ∷ 5 ∷ 7 ∷ 4 ∷ 13 ∷ [])) && bytes_eq (unwrap_or info.params []) (0x05 ∷ 0x00 ∷ [])

-- generalInfo asks for implicit confirmation
abbrev pub asks_implicit : Option (List ℕ) → Bool
asks_implicit None = false
asks_implicit (Some content) = list_any is_implicit_confirm (unwrap_or (entries_at algorithm_at 0x30 content) [])
