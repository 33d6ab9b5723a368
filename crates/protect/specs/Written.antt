-- Messages that are protected as a caller asks.
use Rattle.std.specs.Prelude.{◌≡◌, ℕ, ◌+◌, ◌^◌, ◌<◌, ◌≤◌, IfSome, length, List, Option, Some, None, option_map}
use Rattle.der_base.specs.Element.{element, IsElement}
use Rattle.pbmac.specs.Mac.{mac_of}
use Rattle.pki_header.specs.Plan.{IsPlanned, FitsPlan, Says}
use Rattle.pki_header.specs.declared.plan.HeaderPlan.{HeaderPlan}
use Rattle.pki_message.specs.Body.{BodyForm, IsInside, tag_of}
use Rattle.pki_message.specs.Frame.{message_limit, protected_part}
use Rattle.pki_message.specs.Message.{MessageForm, IsExtraCerts, IsMessage}
use Rattle.pki_message.specs.Written.{written_content}
use Rattle.asn_types.specs.Algorithm.{Algorithm, FitsAlgorithm, algorithm_content}
use Rattle.protect.specs.Algorithms.{hss_lms, mac_algorithm, algorithm_octets}
use Rattle.protect.specs.Holds.{HoldsOver, ProtectionHolds}
use Rattle.protect.specs.declared.key.Key.{Key}
use Rattle.protect.specs.declared.key.Key.TheVariants as keys
use Rattle.protect.specs.declared.how.How.{How}
use Rattle.protect.specs.declared.how.How.TheVariants as variant

-- a plan of a header with this algorithm in the place of its own
abbrev pub with_algorithm : HeaderPlan → Option (List ℕ) → HeaderPlan
with_algorithm p alg = record {
  pvno = p.pvno;
  sender = p.sender;
  recipient = p.recipient;
  time = p.time;
  alg = alg;
  sender_kid = p.sender_kid;
  recip_kid = p.recip_kid;
  tid = p.tid;
  sender_nonce = p.sender_nonce;
  recip_nonce = p.recip_nonce;
  free_text = p.free_text;
  info = p.info;
}

-- The octets are the message of a planned header with this algorithm, a body, the protection that the protected part gets, and
-- the one certificate of extraCerts.
pub record IsProtected (plan : HeaderPlan) (body : List ℕ) (alg : Option Algorithm) (protect : List ℕ → Option (List ℕ)) (cert : Option (List ℕ)) (octets : List ℕ) : Type 0 where
  pub header : List ℕ
  pub planned : IsPlanned (with_algorithm plan (option_map algorithm_octets alg)) header
  pub spelled : octets ≡ element 0x30 (written_content header body (protect (protected_part header body)) cert)

-- The octets are the whole element of a body.
pub record IsWholeBody (b : BodyForm) (octets : List ℕ) : Type 0 where
  pub inside : List ℕ
  pub alone : IsElement octets (0xA0 + tag_of b) inside
  pub form : IsInside b inside

-- The octets are read as a message whose header says what the plan does, with this algorithm, whose time, body and certificate
-- are these, and whose protection holds under the key, where there is one.
pub record IsReadBack (plan : HeaderPlan) (alg : Option Algorithm) (cert : Option (List ℕ)) (key : Option Key) (b : BodyForm) (octets : List ℕ) : Type 0 where
  pub form : MessageForm
  pub says : Says (with_algorithm plan (option_map algorithm_octets alg)) form.head.time form.head
  pub time : form.time ≡ plan.time
  pub body : form.body ≡ b
  pub extra : form.extra ≡ cert
  pub message : IsMessage octets form
  pub holds : IfSome key (λ k. ProtectionHolds k form)

-- An algorithm, where there is one, has the form of its type.
abbrev pub FitsAlgorithmOrNone : Option Algorithm → Type 0
FitsAlgorithmOrNone alg = IfSome alg (λ a. FitsAlgorithm a × (length (algorithm_content a) < 2 ^ 32))

-- The protection of these parts holds under the key, where there is one.
abbrev pub HoldsFor : Option Key → Option Algorithm → Option (List ℕ) → List ℕ → Type 0
HoldsFor key alg protection part = IfSome key (λ k. HoldsOver k alg protection part)

-- Each message that is protected as asked, of parts that have the forms of their types, is read back as such a message, where its
-- protection holds and it is within the limit.
abbrev pub ProtectedIsReadBack : Type 0
ProtectedIsReadBack = (plan : HeaderPlan) (body : List ℕ) (alg : Option Algorithm) (protect : List ℕ → Option (List ℕ)) (cert : Option (List ℕ)) (key : Option Key) (b : BodyForm) (octets : List ℕ)
    → (is : IsProtected plan body alg protect cert octets) → FitsPlan plan → FitsAlgorithmOrNone alg → IsWholeBody b body → IfSome cert IsExtraCerts
    → HoldsFor key alg (protect (protected_part is.header body)) (protected_part is.header body)
    → length octets ≤ message_limit → IsReadBack plan alg cert key b octets

module _ {L : Type 0} where
  -- the algorithm of a protection
  abbrev pub algorithm_for : How L → Option Algorithm
  algorithm_for variant.Nothing = None
  algorithm_for (variant.Mac secret salt rounds) = Some (mac_algorithm salt rounds)
  algorithm_for (variant.Leaf signer leaf) = Some hss_lms

  -- the protection of a part: its MAC, or its signature by the leaf
  abbrev pub protection_for : (L → ℕ → List ℕ → List ℕ) → How L → List ℕ → Option (List ℕ)
  protection_for signature variant.Nothing part = None
  protection_for signature (variant.Mac secret salt rounds) part = Some (mac_of secret (record { salt = salt; rounds = rounds }) part)
  protection_for signature (variant.Leaf signer leaf) part = Some (signature signer.now leaf part)

  -- the key that a protection is checked under
  abbrev pub key_for : (L → List ℕ) → How L → Option Key
  key_for public variant.Nothing = None
  key_for public (variant.Mac secret salt rounds) = Some (keys.Mac secret)
  key_for public (variant.Leaf signer leaf) = Some (keys.Lms (public signer.now))

  -- There is at least one round, and the leaf is one of the signer's.
  abbrev pub IsUsable : (L → ℕ) → How L → Type 0
  IsUsable leaves variant.Nothing = Unit {0}
  IsUsable leaves (variant.Mac secret salt rounds) = 1 ≤ rounds
  IsUsable leaves (variant.Leaf signer leaf) = leaf < leaves signer.now

  -- The count of rounds is one that is accepted when the protection is checked.
  abbrev pub IsAccepted : How L → Type 0
  IsAccepted variant.Nothing = Unit {0}
  IsAccepted (variant.Mac secret salt rounds) = rounds ≤ 200000
  IsAccepted (variant.Leaf signer leaf) = Unit {0}
