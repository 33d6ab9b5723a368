-- PKIHeader (RFC 9810, 5.1.1), whose optional fields have explicit tags.
use Rattle.std.specs.Prelude.{◌≡◌, ℕ, ◌++◌, ◌==◌, if◌then◌else◌, List, [], length, Option, Some, None, option_map}
use Rattle.std.specs.Option.{option_copied}
use Rattle.der_base.specs.Element.{element}
use Rattle.der_base.specs.Reading.{Part}
use Rattle.der_base.specs.Values.{is_integer}
use Rattle.asn_fields.specs.Fields.{◌>>=◌, optional_with}
use Rattle.asn_fields.specs.Forms.{optional_spelling, FitsOptional}
use Rattle.asn_types.specs.Algorithm.{Algorithm, FitsAlgorithm, algorithm_content, algorithm_of, algorithm_at}
use Rattle.asn_types.specs.Template.{IsAnything, Passes, same, tested_at, anything_at}
use Rattle.asn_parts.specs.Parts.{tagged, FitsTagged, IsWholeGeneral, general_part, required_with, sole_with, general_front_at}
use Rattle.pki_header.specs.Rows.{IsFreeText, IsGeneralInfo, is_free_text, is_general_info}
use Rattle.pki_header.specs.declared.header.Fields.{Fields}
use Rattle.pki_header.specs.declared.header.Header.{Header}

-- what stands in a header: contents of elements inside their tags, and the general names as elements. The time is its text.
pub record HeadForm : Type 0 where
  pub pvno : List ℕ
  pub sender : Part
  pub recipient : Part
  pub time : Option (List ℕ)
  pub alg : Option Algorithm
  pub sender_kid : Option (List ℕ)
  pub recip_kid : Option (List ℕ)
  pub tid : Option (List ℕ)
  pub sender_nonce : Option (List ℕ)
  pub recip_nonce : Option (List ℕ)
  pub free_text : Option (List ℕ)
  pub info : Option (List ℕ)

-- a field that may be left out: inside its tag an element of the inner one
abbrev pub explicit_octets : ℕ → ℕ → Option (List ℕ) → List ℕ
explicit_octets tag inner = optional_spelling tag (tagged inner same)

-- The fields in their order: pvno, sender and recipient, then messageTime [0], protectionAlg [1], senderKID [2], recipKID [3],
-- transactionID [4], senderNonce [5], recipNonce [6], freeText [7] and generalInfo [8], each of which may be left out.
abbrev pub head_content : HeadForm → List ℕ
head_content h =
    element 0x02 h.pvno ++ (h.sender.whole ++ (h.recipient.whole
    ++ (explicit_octets 0xA0 0x18 h.time ++ (optional_spelling 0xA1 (tagged 0x30 algorithm_content) h.alg
    ++ (explicit_octets 0xA2 0x04 h.sender_kid ++ (explicit_octets 0xA3 0x04 h.recip_kid
    ++ (explicit_octets 0xA4 0x04 h.tid ++ (explicit_octets 0xA5 0x04 h.sender_nonce
    ++ (explicit_octets 0xA6 0x04 h.recip_nonce ++ (explicit_octets 0xA7 0x30 h.free_text
    ++ explicit_octets 0xA8 0x30 h.info))))))))))

abbrev pub FitsExplicit : ℕ → (List ℕ → Type 0) → Option (List ℕ) → Type 0
FitsExplicit inner Fits = FitsOptional (tagged inner same) (FitsTagged same Fits)

-- Each field that stands there has the form of its type, and a length that fits.
pub record FitsHead (h : HeadForm) : Type 0 where
  pub pvno : FitsTagged same (Passes is_integer) h.pvno
  pub sender : IsWholeGeneral h.sender
  pub recipient : IsWholeGeneral h.recipient
  pub time : FitsExplicit 0x18 IsAnything h.time
  pub alg : FitsOptional (tagged 0x30 algorithm_content) (FitsTagged algorithm_content FitsAlgorithm) h.alg
  pub sender_kid : FitsExplicit 0x04 IsAnything h.sender_kid
  pub recip_kid : FitsExplicit 0x04 IsAnything h.recip_kid
  pub tid : FitsExplicit 0x04 IsAnything h.tid
  pub sender_nonce : FitsExplicit 0x04 IsAnything h.sender_nonce
  pub recip_nonce : FitsExplicit 0x04 IsAnything h.recip_nonce
  pub free_text : FitsExplicit 0x30 IsFreeText h.free_text
  pub info : FitsExplicit 0x30 IsGeneralInfo h.info

-- what a header that was read shows
abbrev pub fields_of : Fields → HeadForm
fields_of h = record {
  pvno = h.pvno.now;
  sender = general_part h.sender;
  recipient = general_part h.recipient;
  time = option_copied h.time;
  alg = option_map algorithm_of h.alg;
  sender_kid = option_copied h.sender_kid;
  recip_kid = option_copied h.recip_kid;
  tid = option_copied h.tid;
  sender_nonce = option_copied h.sender_nonce;
  recip_nonce = option_copied h.recip_nonce;
  free_text = option_copied h.free_text;
  info = option_copied h.info;
}

abbrev pub head_of : Header → HeadForm
head_of h = record {
  pvno = h.pvno.now;
  sender = general_part h.sender;
  recipient = general_part h.recipient;
  time = option_copied h.time_text;
  alg = option_map algorithm_of h.alg;
  sender_kid = option_copied h.sender_kid;
  recip_kid = option_copied h.recip_kid;
  tid = option_copied h.tid;
  sender_nonce = option_copied h.sender_nonce;
  recip_nonce = option_copied h.recip_nonce;
  free_text = option_copied h.free_text;
  info = option_copied h.info;
}

-- and with it the second of the time
abbrev pub timed_of : Header → HeadForm × Option ℕ
timed_of h = (head_of h, h.time)

-- what is read
abbrev pub explicit_at : (List ℕ → Option (List ℕ)) → ℕ → ℕ → List ℕ → Option (Option (List ℕ) × List ℕ)
explicit_at read tag inner = optional_with (sole_with read inner) tag

unfoldable pub head_at : List ℕ → Option HeadForm
head_at content = do
  pvno ← required_with (tested_at is_integer) 0x02 content
  sender ← general_front_at pvno.1
  recipient ← general_front_at sender.1
  time ← explicit_at anything_at 0xA0 0x18 recipient.1
  alg ← optional_with (sole_with algorithm_at 0x30) 0xA1 time.1
  sender_kid ← explicit_at anything_at 0xA2 0x04 alg.1
  recip_kid ← explicit_at anything_at 0xA3 0x04 sender_kid.1
  tid ← explicit_at anything_at 0xA4 0x04 recip_kid.1
  sender_nonce ← explicit_at anything_at 0xA5 0x04 tid.1
  recip_nonce ← explicit_at anything_at 0xA6 0x04 sender_nonce.1
  free_text ← explicit_at (tested_at is_free_text) 0xA7 0x30 recip_nonce.1
  info ← explicit_at (tested_at is_general_info) 0xA8 0x30 free_text.1
  if length info.1 == 0 then Some (record {
    pvno = pvno.0;
    sender = sender.0;
    recipient = recipient.0;
    time = time.0;
    alg = alg.0;
    sender_kid = sender_kid.0;
    recip_kid = recip_kid.0;
    tid = tid.0;
    sender_nonce = sender_nonce.0;
    recip_nonce = recip_nonce.0;
    free_text = free_text.0;
    info = info.0;
  }) else None
