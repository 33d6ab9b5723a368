-- The replies to the changes that messages made (RFC 9810, 5.3).
use Rattle.std.specs.Prelude.{ℕ, ◌+◌, ◌++◌, Bool, List, [], ◌∷◌, Option, None, Some, codes, unwrap_or, if◌then◌else◌, ℤ, pos, negsuc}
use Rattle.der_base.specs.Element.{element}
use Rattle.cmp_values.specs.declared.fail_info.FailInfo.{FailInfo}
use Rattle.cmp_values.specs.declared.fail_info.FailInfo.TheVariants.{NotAuthorized}
use Rattle.asn_types.specs.Key.{key_identifier}
use Rattle.asn_types.specs.Oids.{dotted}
use Rattle.deal_changes.specs.declared.change.Body4.{Body4}
use Rattle.deal_changes.specs.declared.change.Body4.TheVariants.{Ir, Cr, P10cr, Kur}
use Rattle.deal_changes.specs.declared.change.Change.{Change}
use Rattle.deal_changes.specs.declared.change.Change.TheVariants.{Grant, Hold, Turned, Polled, Settled, Revoke}
use Rattle.deal_changes.specs.declared.change.Stamp.{Stamp}
use Rattle.deal_changes.specs.declared.change.Who.{Who}
use Rattle.deal_changes.specs.declared.change.Who.TheVariants.{Listed, Cert}
use Rattle.deal_changes.specs.declared.change.Settings.{Settings}
use Rattle.deal_changes.specs.Times.{stamp_of}
use Rattle.deal_model.specs.declared.asking.Brief.{Brief}
use Rattle.deal_table.specs.History.{Receipted, brief_of}
use Rattle.hss_sig.specs.OneLevel.{hss_signature}
use Rattle.pbmac.specs.Mac.{mac_of}
use Rattle.pki_header.specs.declared.plan.HeaderPlan.{HeaderPlan}
use Rattle.pki_parts.specs.CertRep.{rep_octets}
use Rattle.pki_parts.specs.Polling.{poll_rep_octets}
use Rattle.pki_parts.specs.Revoked.{rev_rep_octets}
use Rattle.pki_parts.specs.Status.{status_content, written_status}
use Rattle.protect.specs.Algorithms.{hss_lms, mac_algorithm}
use Rattle.cert_maker.specs.Certificates.{cert_of}
use Rattle.cert_maker.specs.Moments.{generalized_of}
use Rattle.cert_maker.specs.Plans.{ca_name, reply_name}
use Rattle.sha2.specs.Sha256.{sha256}
use Rattle.reply_maker.specs.Certificates as own
use Rattle.reply_maker.specs.Keys.{issue_secret, reply_secret}
use Rattle.reply_maker.specs.Messages.{planned_message, directory_name, recipient_for, nonce_in, salt_in}

-- What an authority replies with: its settings, its two certificates, and how the leaves of its two keys sign.
pub record Replier : Type 0 where
  pub keys : Brief
  pub root : List ℕ
  pub reply : List ℕ
  pub issues : ℕ → List ℕ → List ℕ
  pub signs : ℕ → List ℕ → List ℕ

-- the one whose keys are those of a key file, under these settings
unfoldable pub replier_of : List ℕ → Settings → Replier
replier_of file s = record {
  keys = brief_of s;
  root = own.root_of (issue_secret file s) s;
  reply = own.reply_of (issue_secret file s) s;
  issues = hss_signature (issue_secret file s);
  signs = hss_signature (reply_secret file s);
}

-- the hash that the certConf of a granted certificate is to have (5.3.18)
unfoldable pub certificate_hash : Replier → Receipted → List ℕ
certificate_hash k r = sha256 (cert_of k.issues k.keys r.change)

-- ---- bodies

-- the reply to a request: ip [1], cp [3], which answers PKCS #10 too, or kup [8] (5.3.2, 5.3.4 and 5.3.6)
abbrev pub reply_tag : Body4 → ℕ
reply_tag Ir = 0xA1
reply_tag Cr = 0xA3
reply_tag P10cr = 0xA3
reply_tag Kur = 0xA8

-- certReqId: 0, and -1 for PKCS #10 (5.3.4)
abbrev pub reply_id : Body4 → ℤ
reply_id P10cr = negsuc 0
reply_id _ = pos 0

-- PKIStatusInfo: accepted 0, grantedWithMods 1, rejection 2, waiting 3 (5.2.3)
abbrev pub status_octets : ℕ → Option (List ℕ) → Option FailInfo → List ℕ
status_octets status text fail = element 0x30 (status_content (written_status status text fail))

-- the reply to the request of a transaction, with one response
abbrev pub response_body : Body4 → Option (List ℕ) → List ℕ → Option (List ℕ) → List ℕ
response_body b ca_pubs status cert = element (reply_tag b) (element 0x30 (rep_octets ca_pubs (reply_id b) status cert))

-- caPubs has the authority's own certificate, in an ip alone
abbrev pub ca_pubs_for : List ℕ → Body4 → Option (List ℕ)
ca_pubs_for root Ir = Some root
ca_pubs_for root _ = None

abbrev pub granted_status : Bool → ℕ
granted_status mods = if mods then 1 else 0

abbrev pub granted_body : Replier → Body4 → Bool → Change → List ℕ
granted_body k b mods c = response_body b (ca_pubs_for k.root b) (status_octets (granted_status mods) None None) (Some (cert_of k.issues k.keys c))

abbrev pub waiting_body : Body4 → List ℕ
waiting_body b = response_body b None (status_octets 3 None None) None

abbrev pub denied_body : Body4 → List ℕ
denied_body b = response_body b None (status_octets 2 (Some (codes "denied")) (Some NotAuthorized)) None

-- pollRep [26] (5.3.22)
abbrev pub polled_body : Replier → Body4 → List ℕ
polled_body k b = element 0xBA (poll_rep_octets (reply_id b) k.keys.check_after)

-- pkiconf [19], which is NULL (5.3.17)
abbrev pub confirmed_body : List ℕ
confirmed_body = element 0xB3 (element 0x05 [])

-- rp [12] with one status accepted (5.3.10)
abbrev pub revoked_body : List ℕ
revoked_body = element 0xAC (rev_rep_octets (status_octets 0 None None))

-- the body of the request that began the transaction; a Grant and a Hold have their own
abbrev pub body_of : Receipted → Body4
body_of r = unwrap_or r.body Ir

-- the body of the reply to a change, by its kind
abbrev pub reply_body : Replier → Receipted → Change → List ℕ
reply_body k r (Grant s b w serial leaf) = granted_body k b w.mods (Grant s b w serial leaf)
reply_body k r (Hold s b w) = waiting_body b
reply_body k r (Turned s) = denied_body (body_of r)
reply_body k r (Polled s) = polled_body k (body_of r)
reply_body k r (Settled s accepted) = confirmed_body
reply_body k r (Revoke s serial reason) = revoked_body
reply_body k r _ = []

-- ---- headers

-- id-it-n, 1.3.6.1.5.5.7.4.n, with a value
abbrev pub info_octets : ℕ → List ℕ → List ℕ
info_octets n value = element 0x30 (element 0x06 (dotted (1 ∷ 3 ∷ 6 ∷ 1 ∷ 5 ∷ 5 ∷ 7 ∷ 4 ∷ n ∷ [])) ++ value)

-- Until when a certificate waits for its confirmation: implicitConfirm (5.1.1.1) where nothing is waited for, and else
-- confirmWaitTime (5.1.1.2).
abbrev pub granted_info : Brief → ℕ → Bool → List ℕ
granted_info keys time implicit = if implicit then info_octets 13 (element 0x05 []) else info_octets 14 (element 0x18 (generalized_of (time + keys.wait)))

abbrev pub reply_info : Brief → Change → Option (List ℕ)
reply_info keys (Grant s b w serial leaf) = Some (granted_info keys s.time w.implicit)
reply_info keys _ = None

abbrev pub reference_of : Who → List ℕ
reference_of (Listed kind kid) = kid
reference_of (Cert serial) = []

-- The sender and its key: the authority's name and the reference under a secret, the name of the reply certificate and that
-- key's identifier where a leaf signs.
abbrev pub sender_for : Brief → Option ℕ → List ℕ
sender_for keys (Some leaf) = directory_name (reply_name keys)
sender_for keys None = directory_name (ca_name keys)

abbrev pub kid_for : Brief → Who → Option ℕ → List ℕ
kid_for keys who (Some leaf) = key_identifier keys.reply_key
kid_for keys who None = reference_of who

abbrev pub reply_header : Brief → Change → Stamp → HeaderPlan
reply_header keys c s = record {
  pvno = s.pvno;
  sender = sender_for keys s.leaf;
  recipient = recipient_for s.sender;
  time = Some s.time;
  alg = None;
  sender_kid = Some (kid_for keys s.who s.leaf);
  recip_kid = None;
  tid = Some s.tid;
  sender_nonce = Some (nonce_in s.words);
  recip_nonce = Some s.sender_nonce;
  free_text = None;
  info = reply_info keys c;
}

-- ---- the reply

-- A reply is signed by the leaf of its stamp, and brings the certificate of the key that signs; or it has the MAC of its
-- sender's secret (5.1.3).
abbrev pub sealed : Replier → Receipted → Stamp → HeaderPlan → List ℕ → Option ℕ → List ℕ
sealed k r s header body (Some leaf) = planned_message header body (Some hss_lms) (λ part. Some (k.signs leaf part)) (Some k.reply)
sealed k r s header body None =
    planned_message header body (Some (mac_algorithm (salt_in s.words) k.keys.rounds))
    (λ part. Some (mac_of r.key (record { salt = salt_in s.words; rounds = k.keys.rounds }) part)) None

abbrev pub sealed_for : Replier → Receipted → Option Stamp → List ℕ
sealed_for k r (Some s) = sealed k r s (reply_header k.keys r.change s) (reply_body k r r.change) s.leaf
sealed_for k r None = []

-- the reply to a change; none of a change that no message made
unfoldable pub reply_of : Replier → Receipted → List ℕ
reply_of k r = sealed_for k r (stamp_of r.change)
