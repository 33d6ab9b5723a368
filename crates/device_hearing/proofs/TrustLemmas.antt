-- Who signs a reply, and by which root a certificate is trusted.
use Rattle.std.proofs.Common.{◌≡◌, List, ℕ, Bool, false, IsTrue, Option, Some, None, Result, Ok, Err, IfOk, sym, ap, subst, ◌∙◌, ◌↔◌}
use Rattle.std.proofs.lemmas.Bool.{false≢true}
use Rattle.asn_fields.proofs.FieldLemmas.{none_some, some_same}
use Rattle.asn_types.specs.Key.{Key}
use Rattle.x509_cert.specs.Cert.{CertForm}
use Rattle.pki_message.specs.Message.{MessageForm}
use Rattle.protect.specs.Holds.{ProtectionHolds}
use Rattle.protect.specs.declared.key.Key.TheVariants as keys
use Rattle.device_hearing.specs.Trust.{IsCertificate, IsFirstIn, IsAbout, SignsReplies, IsSignedReply, IsPublished, IsGranted, IsIssuedFor}
use Rattle.device_hearing.proofs.CertificateLemmas.{about_one}

-- no other certificate stands first in the row
abbrev pub HasOnly : Option (List ℕ) → CertForm → Type 0
HasOnly row one = (c : CertForm) → IsFirstIn row c → Some one ≡ Some c

-- the signer is the one that was read
signer_holds : (root : List ℕ) (m : MessageForm) (c : CertForm) (k : Key) → HasOnly m.extra c → IsAbout c k → IsSignedReply root m → ProtectionHolds (keys.Lms k.key) m
signer_holds root m c k only about h =
    let same : h.signer ≡ c = sym (some_same c h.signer (only h.signer h.first)) in
    let key : h.key ≡ k = about_one c h.key k (subst (λ (x : CertForm). IsAbout x h.key) same h.about) about in
    subst (λ (x : Key). ProtectionHolds (keys.Lms x.key) m) key h.holds

signed : (root : List ℕ) (m : MessageForm) (c : CertForm) (k : Key) → IsFirstIn m.extra c → IsAbout c k → SignsReplies root c → ProtectionHolds (keys.Lms k.key) m → IsSignedReply root m
signed root m c k first about signs holds = record { signer = c; first = first; signs = signs; key = k; about = about; holds = holds }

-- so it is a signed reply exactly where the protection holds
pub signed_when : {E : Type 0} (root : List ℕ) (m : MessageForm) (c : CertForm) (k : Key) (r : Result Bool E) → IsFirstIn m.extra c → HasOnly m.extra c → IsAbout c k → SignsReplies root c
    → IfOk r (λ b. IsTrue b ↔ ProtectionHolds (keys.Lms k.key) m) → IfOk r (λ b. IsTrue b ↔ IsSignedReply root m)
signed_when root m c k (Ok b) first only about signs h = (λ t. signed root m c k first about signs (h.0 t), λ s. h.1 (signer_holds root m c k only about s))
signed_when root m c k (Err e) first only about signs h = tt

-- ---- certificates that were asked for

pub issued_as : (root key cert : List ℕ) (c : CertForm) (b : Bool) → IsCertificate cert c → ((o : CertForm) → IsCertificate cert o → Some c ≡ Some o) → (IsTrue b ↔ IsGranted root key c) → (IsTrue b ↔ IsIssuedFor root key cert)
issued_as root key cert c b is only h = (
  λ t. record { form = c; certificate = is; granted = h.0 t },
  λ i. h.1 (subst (λ (x : CertForm). IsGranted root key x) (sym (some_same c i.form (only i.form i.certificate))) i.granted),
)

pub unissued : (root key cert : List ℕ) → ((o : CertForm) → IsCertificate cert o → None ≡ Some o) → IsTrue false ↔ IsIssuedFor root key cert
unissued root key cert none = (λ t. absurd (false≢true t), λ i. absurd (none_some i.form (none i.form i.certificate)))

-- the root that is published
pub published_one : (row : Option (List ℕ)) (root : List ℕ) (c : CertForm) (k : Key) → HasOnly row c → IsAbout c k → IsPublished row root → k.key ≡ root
published_one row root c k only about h =
    let same : h.cert ≡ c = sym (some_same c h.cert (only h.cert h.first)) in
    let key : h.key ≡ k = about_one c h.key k (subst (λ (x : CertForm). IsAbout x h.key) same h.about) about in
    sym (h.is ∙ ap (λ (x : Key). x.key) key)
