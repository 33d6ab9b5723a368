-- Which replies and which certificates a device trusts.
use Rattle.std.specs.Prelude.{◌≡◌, ℕ, ◌++◌, IsSome, List, drop, Option, Some, None}
use Rattle.der_base.specs.Element.{element, IsElement}
use Rattle.asn_parts.specs.Parts.{FitsTagged}
use Rattle.asn_types.specs.Key.{Key, FitsKey, key_content, spki_content}
use Rattle.x509_cert.specs.Cert.{CertForm, FitsCert, cert_content, cert_octets, tbs_octets}
use Rattle.x509_cert.specs.Validity.{IsValidity}
use Rattle.hss_sig.specs.Hss.{HssOk}
use Rattle.pki_message.specs.Message.{MessageForm}
use Rattle.protect.specs.Algorithms.{hss_lms}
use Rattle.protect.specs.Holds.{ProtectionHolds}
use Rattle.protect.specs.declared.key.Key.TheVariants as keys
use Rattle.intake.specs.Values.{number_in}
use Rattle.device_hearing.specs.declared.listener.ReplyGuard.{ReplyGuard}
use Rattle.device_hearing.specs.declared.listener.ReplyGuard.TheVariants.{Mac, Signed}
use Rattle.device_hearing.specs.declared.listener.Listener.{Listener}

-- ---- certificates

-- The octets are this certificate, of whatever validity (RFC 5280, 4.1).
pub record IsCertificate (octets : List ℕ) (c : CertForm) : Type 0 where
  pub fits : FitsTagged cert_content FitsCert c
  pub from : ℕ
  pub to : ℕ
  pub dated : IsValidity c.tbs.validity from to
  pub spelled : octets ≡ cert_octets c

-- It is the first of a row of certificates, which follow each other.
pub record IsFirstOf (row : List ℕ) (c : CertForm) : Type 0 where
  pub octets : List ℕ
  pub others : List ℕ
  pub certificate : IsCertificate octets c
  pub parts : row ≡ octets ++ others

-- It is the first of a row that may be left out.
abbrev pub IsFirstIn : Option (List ℕ) → CertForm → Type 0
IsFirstIn None c = ⊥
IsFirstIn (Some row) c = IsFirstOf row c

-- It is about this key (RFC 5280, 4.1.2.7).
pub record IsAbout (c : CertForm) (k : Key) : Type 0 where
  pub fits : FitsKey k
  pub alone : IsElement c.tbs.spki 0x30 (key_content k)

-- It has the signature of a root: of its BIT STRING the octets behind the number of unused bits.
abbrev pub IsCertifiedBy : List ℕ → CertForm → Type 0
IsCertifiedBy root c = HssOk root (tbs_octets c.tbs) (drop 1 c.sig)

-- ---- replies

-- The certificate of the key that signs an authority's replies: the root certified it under the serial number 2, which it gives to no
-- other one. So a certificate that was granted to a device signs no reply.
pub record SignsReplies (root : List ℕ) (c : CertForm) : Type 0 where
  pub serial : number_in c.tbs.serial ≡ Some 2
  pub certified : IsCertifiedBy root c

-- The message is signed by the key of the first of extraCerts, which signs the replies of the root's authority (RFC 9810, 5.1.3.3).
pub record IsSignedReply (root : List ℕ) (m : MessageForm) : Type 0 where
  pub signer : CertForm
  pub first : IsFirstIn m.extra signer
  pub signs : SignsReplies root signer
  pub key : Key
  pub about : IsAbout signer key
  pub holds : ProtectionHolds (keys.Lms key.key) m

-- A device that has a secret trusts its MAC (RFC 9810, 5.1.3.1); another one trusts a signed reply, where it knows the root.
abbrev pub IsTrustedBy : ReplyGuard → Option (List ℕ) → MessageForm → Type 0
IsTrustedBy (Mac secret) root m = ProtectionHolds (keys.Mac secret) m
IsTrustedBy Signed None m = ⊥
IsTrustedBy Signed (Some root) m = IsSignedReply root m

-- ---- the certificate that was asked for

-- The key is that of the first certificate of caPubs (RFC 9810, 5.3.2).
pub record IsPublished (ca_pubs : Option (List ℕ)) (root : List ℕ) : Type 0 where
  pub cert : CertForm
  pub first : IsFirstIn ca_pubs cert
  pub key : Key
  pub about : IsAbout cert key
  pub is : root ≡ key.key

-- The root by which the certificate of a reply is trusted: the one that is known; or, where a device that has a secret knows none, the
-- one that the reply publishes, since the MAC protects that too.
abbrev pub IsRootOf : ReplyGuard → Option (List ℕ) → Option (List ℕ) → List ℕ → Type 0
IsRootOf guard (Some known) ca_pubs root = root ≡ known
IsRootOf (Mac secret) None ca_pubs root = IsPublished ca_pubs root
IsRootOf Signed None ca_pubs root = ⊥

-- The certificate is one of the root, with a serial number of at most 64 bits, over the HSS key (RFC 9802).
pub record IsGranted (root key : List ℕ) (c : CertForm) : Type 0 where
  pub serial : IsSome (number_in c.tbs.serial)
  pub certified : IsCertifiedBy root c
  pub about : c.tbs.spki ≡ element 0x30 (spki_content hss_lms key)

-- The octets are such a certificate.
pub record IsIssuedFor (root key cert : List ℕ) : Type 0 where
  pub form : CertForm
  pub certificate : IsCertificate cert form
  pub granted : IsGranted root key form

-- A certificate is the one that was asked for.
pub record IsAskedFor (l : Listener) (ca_pubs : Option (List ℕ)) (cert : List ℕ) : Type 0 where
  pub root : List ℕ
  pub trusted : IsRootOf l.guard l.root ca_pubs root
  pub issued : IsIssuedFor root l.key cert
