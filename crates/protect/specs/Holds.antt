-- When the protection of a message holds (RFC 9810, 5.1.3): it is the MAC or the signature of the SEQUENCE of the header and the
-- body, as their octets stand in the message.
use Rattle.std.specs.Prelude.{◌≡◌, ℕ, ◌+◌, ◌^◌, ◌<◌, List, length, Option, Some, None}
use Rattle.asn_types.specs.Algorithm.{Algorithm}
use Rattle.pbmac.specs.Mac.{MacOk}
use Rattle.pbmac.specs.declared.params.MacParams.{MacParams}
use Rattle.pbmac_grammar.specs.Pbmac1.{IsPbmac1}
use Rattle.hss_sig.specs.Hss.{HssOk}
use Rattle.pki_message.specs.Frame.{protected_part}
use Rattle.pki_message.specs.Message.{MessageForm, IsMessage}
use Rattle.protect.specs.Algorithms.{hss_lms}
use Rattle.protect.specs.declared.key.Key.{Key}
use Rattle.protect.specs.declared.key.Key.TheVariants as variant

-- PBMAC1 with parameters that are accepted (RFC 9481, 6.1.2)
pub record IsMacAlgorithm (a : Algorithm) : Type 0 where
  pub params : MacParams
  pub form : IsPbmac1 a params.salt params.rounds

-- The algorithm is the key's: PBMAC1 under a secret, HSS/LMS under a public key. HSS/LMS has no parameters (RFC 9708, 4).
abbrev pub IsForKey : Key → Algorithm → Type 0
IsForKey (variant.Mac secret) a = IsMacAlgorithm a
IsForKey (variant.Lms key) a = a ≡ hss_lms

-- an algorithm is there, and isn't the key's
abbrev pub HasOther : Key → Option Algorithm → Type 0
HasOther key None = ⊥
HasOther key (Some a) = IsForKey key a → ⊥

-- The octets are the MAC of the part under the secret, by the parameters of the algorithm.
pub record IsMacked (secret : List ℕ) (a : Algorithm) (part mac : List ℕ) : Type 0 where
  pub params : MacParams
  pub form : IsPbmac1 a params.salt params.rounds
  pub valid : MacOk secret params part mac

-- The octets are a signature of the part under the public key.
pub record IsSigned (key : List ℕ) (a : Algorithm) (part sig : List ℕ) : Type 0 where
  pub form : a ≡ hss_lms
  pub valid : HssOk key part sig

abbrev pub Protects : Key → Algorithm → List ℕ → List ℕ → Type 0
Protects (variant.Mac secret) a part octets = IsMacked secret a part octets
Protects (variant.Lms key) a part octets = IsSigned key a part octets

-- Both an algorithm and a protection are there, and they protect the part.
abbrev pub HoldsOver : Key → Option Algorithm → Option (List ℕ) → List ℕ → Type 0
HoldsOver key None octets part = ⊥
HoldsOver key (Some a) None part = ⊥
HoldsOver key (Some a) (Some octets) part = Protects key a part octets

-- The protection of a message holds under a key.
abbrev pub ProtectionHolds : Key → MessageForm → Type 0
ProtectionHolds key m = HoldsOver key m.head.alg m.protection (protected_part m.header_bytes m.body_bytes)

-- The header and the body of each message are short enough for the element of both.
abbrev pub MessagesAreChecked : Type 0
MessagesAreChecked = (bytes : List ℕ) (m : MessageForm) → IsMessage bytes m → length m.header_bytes + length m.body_bytes < 2 ^ 32
