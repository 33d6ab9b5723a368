-- What holds of the texts that an authority's keys sign.
use Rattle.std.specs.Prelude.{◌≡◌, ℕ, List, Some, slice_get}
use Rattle.der_base.specs.Element.{element}
use Rattle.hss_sig.specs.OneLevel.{hss_signature}
use Rattle.lms_tree.specs.Keys.{Secret}
use Rattle.x509_cert.specs.Plan.{signed_octets}
use Rattle.pki_message.specs.Frame.{protected_part}
use Rattle.pki_message.specs.Written.{written_content}
use Rattle.deal_changes.specs.declared.change.Stamp.{Stamp}
use Rattle.deal_changes.specs.Times.{stamp_of}
use Rattle.deal_model.specs.declared.states.Key.{Key}
use Rattle.deal_model.specs.declared.states.Key.TheVariants.{Issue, Reply}
use Rattle.deal_model.specs.Views.{History, settings_of}
use Rattle.deal_table.specs.History.{Receipted, receipt_at}
use Rattle.cert_maker.specs.Certificates.{IsGrant, cert_of}
use Rattle.reply_maker.specs.Keys.{issue_secret, reply_secret}
use Rattle.reply_maker.specs.Replies.{Replier, replier_of, reply_of}
use Rattle.world_core.specs.declared.world.Signed.{Signed}
use Rattle.world_core.specs.declared.world.World.{World}
use Rattle.world_core.specs.Safety.{place_of}
use Rattle.signed_texts.specs.Texts.{SignedText, texts_of}

-- it is one of them
abbrev pub Stands : {X : Type 0} → X → List X → Type 0
Stands x xs = (i : ℕ) × (slice_get xs i ≡ Some x)

-- no leaf of a key stands at two places among the texts
abbrev pub EachLeafOneText : Replier → History → Type 0
EachLeafOneText k h = (i j : ℕ) (e f : SignedText) → slice_get (texts_of k h) i ≡ Some e → slice_get (texts_of k h) j ≡ Some f → e.key ≡ f.key → e.leaf ≡ f.leaf → i ≡ j

-- ---- what is sent

-- the authority whose key file this is, with the settings of a history
abbrev pub authority : List ℕ → History → Replier
authority file h = replier_of file (settings_of h)

abbrev pub secret_for : List ℕ → History → Key → Secret
secret_for file h Issue = issue_secret file (settings_of h)
secret_for file h Reply = reply_secret file (settings_of h)

-- the signature of a text by its leaf
abbrev pub signature_of : List ℕ → History → SignedText → List ℕ
signature_of file h e = hss_signature (secret_for file h e.key) e.leaf e.text

-- The octets are a certificate of what a text for this place says, signed by its leaf of the key that issues (RFC 9802, 5).
pub record IsSignedCertificate (file : List ℕ) (h : History) (place : ℕ) (octets : List ℕ) : Type 0 where
  pub entry : SignedText
  pub stands : Stands entry (texts_of (authority file h) h)
  pub issued : entry.key ≡ Issue
  pub there : entry.place ≡ place
  pub whole : octets ≡ signed_octets entry.text (signature_of file h entry)

-- The octets are a message whose protected part is a text for this place, signed by its leaf of the key of the replies; it brings
-- the certificate of that key (RFC 9810, 5.1 and 5.1.3).
pub record IsSignedReply (file : List ℕ) (h : History) (place : ℕ) (octets : List ℕ) : Type 0 where
  pub entry : SignedText
  pub stands : Stands entry (texts_of (authority file h) h)
  pub replies : entry.key ≡ Reply
  pub there : entry.place ≡ place
  pub header : List ℕ
  pub body : List ℕ
  pub part : entry.text ≡ protected_part header body
  pub whole : octets ≡ element 0x30 (written_content header body (Some (signature_of file h entry)) (Some (authority file h).reply))

-- the authority's own two certificates are signed so, for the founding change
abbrev pub OwnAreSigned : List ℕ → History → Type 0
OwnAreSigned file h = IsSignedCertificate file h 1 (authority file h).root × IsSignedCertificate file h 1 (authority file h).reply

-- each certificate that is granted
abbrev pub GrantedAreSigned : List ℕ → History → Type 0
GrantedAreSigned file h = (n : ℕ) (r : Receipted) → receipt_at h n ≡ Some r → IsGrant r.change
    → IsSignedCertificate file h n (cert_of (authority file h).issues (authority file h).keys r.change)

-- each reply to a change whose stamp has a leaf
abbrev pub RepliesAreSigned : List ℕ → History → Type 0
RepliesAreSigned file h = (n : ℕ) (r : Receipted) (s : Stamp) (leaf : ℕ) → receipt_at h n ≡ Some r → stamp_of r.change ≡ Some s → s.leaf ≡ Some leaf
    → IsSignedReply file h n (reply_of (authority file h) r)

-- ---- all runs

-- the world has signed this text with the leaf of the key
abbrev pub HasSigned : Replier → World → Key → ℕ → List ℕ → Type 0
HasSigned k w key leaf text = (e : Signed) × Stands e w.signed × (e.key ≡ key) × (e.leaf ≡ leaf)
    × Stands (record { key = key; leaf = leaf; text = text; place = place_of e.source }) (texts_of k w.durable)

-- each leaf that was signed with has a text
abbrev pub AllHaveTexts : Replier → World → Type 0
AllHaveTexts k w = (e : Signed) → Stands e w.signed → (text : List ℕ) × HasSigned k w e.key e.leaf text

-- from one world to a later one no leaf of a key is signed with for another text
abbrev pub OneTextEach : Replier → World → World → Type 0
OneTextEach k w v = (key : Key) (leaf : ℕ) (text other : List ℕ) → HasSigned k w key leaf text → HasSigned k v key leaf other → text ≡ other

-- what was signed stays so
abbrev pub SignedStays : Replier → World → World → Type 0
SignedStays k w v = (key : Key) (leaf : ℕ) (text : List ℕ) → HasSigned k w key leaf text → HasSigned k v key leaf text

-- once something is signed, the settings stay, and so the authority of a key file
abbrev pub SettingsStay : World → World → Type 0
SettingsStay w v = (e : Signed) → Stands e w.signed → settings_of v.durable ≡ settings_of w.durable
