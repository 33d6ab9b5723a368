-- What a device says, as functions of its plan: the bodies (RFC 9810, 5.3), the headers (5.1.1) and the whole messages.
use Rattle.std.specs.Prelude.{ℕ, ◌++◌, Bool, true, false, List, [], ◌∷◌, take, Option, Some, None, if◌then◌else◌}
use Rattle.sha2.specs.Sha256.{sha256}
use Rattle.der_base.specs.Element.{element}
use Rattle.asn_types.specs.Oids.{dotted}
use Rattle.deal_changes.specs.declared.change.Body4.{Body4}
use Rattle.deal_changes.specs.declared.change.Body4.TheVariants.{Ir, Cr, P10cr, Kur}
use Rattle.req_forms.specs.declared.wish.CrmfWish.{CrmfWish}
use Rattle.req_forms.specs.declared.wish.Proof.TheVariants.{RaVerified, Signature}
use Rattle.req_forms.specs.Written.{request_octets, around_octets, info_octets, p10_octets}
use Rattle.pki_parts.specs.Polling.{poll_req_octets}
use Rattle.pki_parts.specs.Confirmation.{confirm_octets}
use Rattle.pki_header.specs.declared.plan.HeaderPlan.{HeaderPlan}
use Rattle.pki_message.specs.Frame.{protected_part}
use Rattle.pbmac.specs.Mac.{mac_of}
use Rattle.protect.specs.Algorithms.{hss_lms, mac_algorithm, algorithm_octets}
use Rattle.protect.specs.Written.{with_algorithm}
use Rattle.cert_maker.specs.Plans.{own_spki}
use Rattle.reply_maker.specs.Messages.{header_octets, planned_message, directory_name, nonce_in, salt_in}
use Rattle.reply_maker.specs.Replies.{reply_id}
use Rattle.device_table.specs.declared.stage.Deal.{Deal}
use Rattle.device_table.specs.declared.deeds.Verdict.{Verdict}
use Rattle.device_table.specs.declared.deeds.Verdict.TheVariants.{Accepts, Rejects}
use Rattle.device_table.specs.declared.deeds.Speech.{Speech}
use Rattle.device_table.specs.declared.deeds.Speech.TheVariants.{Requests, Polls, Settles}
use Rattle.device_plan.specs.declared.plan.DeviceGuard.{DeviceGuard}
use Rattle.device_plan.specs.declared.plan.DeviceGuard.TheVariants.{Mac, Signed}
use Rattle.device_plan.specs.declared.plan.DevicePlan.{DevicePlan}
use Rattle.device_plan.specs.Plans.{sender_in, kid_in, old_in}

-- ---- bodies

abbrev pub is_p10cr : Body4 → Bool
is_p10cr P10cr = true
is_p10cr Ir = false
is_p10cr Cr = false
is_p10cr Kur = false

-- The template has the subject and the key alone; a key update names the certificate that it replaces (RFC 4211, 6.5).
abbrev pub wish_of : DevicePlan → List ℕ → CrmfWish
wish_of p key = record { subject = p.subject; spki = own_spki key; exts = []; old = old_in p; issuer = p.ca; proof = RaVerified }

-- what a proof of possession signs: the CertRequest (RFC 4211, 4.1), or the info of PKCS #10 (RFC 2986, 4.2)
abbrev pub proof_text_of : DevicePlan → List ℕ → List ℕ
proof_text_of p key = if is_p10cr p.body then info_octets (wish_of p key) else element 0x30 (request_octets (wish_of p key))

-- ir [0], cr [2], p10cr [4], kur [7] (RFC 9810, 5.1.2)
abbrev pub request_tag : Body4 → ℕ
request_tag Ir = 0xA0
request_tag Cr = 0xA2
request_tag P10cr = 0xA4
request_tag Kur = 0xA7

-- the request around what was signed, with its signature
abbrev pub request_inside : Body4 → List ℕ → List ℕ → List ℕ
request_inside body text proof = if is_p10cr body then p10_octets text proof else around_octets text (Signature proof)

-- PKIStatus: accepted 0, rejection 2 (RFC 9810, 5.2.3)
abbrev pub status_of : Verdict → ℕ
status_of Accepts = 0
status_of Rejects = 2

-- The request; pollReq [25]; certConf [24], whose certHash is the certificate's SHA-256 (RFC 9810, 5.3.18).
abbrev pub body_of : DevicePlan → List ℕ → List ℕ → Speech → List ℕ
body_of p key proof Requests = element (request_tag p.body) (request_inside p.body (proof_text_of p key) proof)
body_of p key proof (Polls last) = element 0xB9 (poll_req_octets (reply_id p.body))
body_of p key proof (Settles verdict cert last) = element 0xB8 (confirm_octets (sha256 cert) (reply_id p.body) (Some (status_of verdict)))

-- ---- headers

-- By the words that are drawn for the first message: its transactionID is 16 octets of their SHA-256.
abbrev pub deal_by : List ℕ → Deal
deal_by words = record { tid = take 16 (sha256 words); nonce = nonce_in words }

-- recipNonce: the senderNonce of the reply that is followed
abbrev pub answered : Speech → Option (List ℕ)
answered Requests = None
answered (Polls last) = last
answered (Settles verdict cert last) = last

-- implicitConfirm, 1.3.6.1.5.5.7.4.13, with the value NULL (RFC 9810, 5.1.1.1)
abbrev pub implicit_confirm : List ℕ
implicit_confirm = element 0x30 (element 0x06 (dotted (1 ∷ 3 ∷ 6 ∷ 1 ∷ 5 ∷ 5 ∷ 7 ∷ 4 ∷ 13 ∷ [])) ++ element 0x05 [])

-- the request asks for implicit confirmation, where the plan does
abbrev pub info_of : Bool → Speech → Option (List ℕ)
info_of implicit Requests = if implicit then Some implicit_confirm else None
info_of implicit (Polls last) = None
info_of implicit (Settles verdict cert last) = None

abbrev pub header_of : DevicePlan → Deal → Speech → ℕ → List ℕ → HeaderPlan
header_of p d s now words = record {
  pvno = 2;
  sender = directory_name (sender_in p);
  recipient = directory_name p.ca;
  time = Some now;
  alg = None;
  sender_kid = Some (kid_in p);
  recip_kid = None;
  tid = Some d.tid;
  sender_nonce = Some (nonce_in words);
  recip_nonce = answered s;
  free_text = None;
  info = info_of p.implicit s;
}

-- ---- messages

-- protected by the MAC of the secret, or signed by a leaf of the certificate's key, with the certificate in extraCerts (RFC 9810,
-- 5.1.3.1 and 5.1.3.3)
abbrev pub protected_by : DeviceGuard → (List ℕ → List ℕ) → ℕ → List ℕ → HeaderPlan → List ℕ → List ℕ
protected_by (Mac reference secret) sign rounds words header body = planned_message header body (Some (mac_algorithm (salt_in words) rounds))
    (λ part. Some (mac_of secret (record { salt = salt_in words; rounds = rounds }) part)) None
protected_by (Signed cert) sign rounds words header body = planned_message header body (Some hss_lms) (λ part. Some (sign part)) (Some cert)

-- What a device says in a transaction, at a second, with the words that are drawn for it: the key that is to be certified, the
-- signature that shows its possession, and how the leaf that is given to the message signs.
unfoldable pub spoken : DevicePlan → List ℕ → List ℕ → (List ℕ → List ℕ) → Deal → Speech → ℕ → List ℕ → List ℕ
spoken p key proof sign d s now words = protected_by p.guard sign p.rounds words (header_of p d s now words) (body_of p key proof s)

-- what the leaf signs
unfoldable pub signed_text_of : DevicePlan → List ℕ → List ℕ → Deal → Speech → ℕ → List ℕ → List ℕ
signed_text_of p key proof d s now words =
    protected_part (header_octets (with_algorithm (header_of p d s now words) (Some (algorithm_octets hss_lms)))) (body_of p key proof s)
