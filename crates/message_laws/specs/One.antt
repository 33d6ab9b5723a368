-- That octets are one message at most.
use Rattle.std.specs.Prelude.{◌≡◌, ℕ, List}
use Rattle.cmp_time.specs.Time.{IsGeneralized}
use Rattle.pki_message.specs.Frame.{FrameForm, IsFrame}
use Rattle.pki_message.specs.Message.{MessageForm, IsMessage}

-- Octets spell at most one message (RFC 9810, 5.1).
abbrev pub OctetsAreOneMessage : Type 0
OctetsAreOneMessage = (octets : List ℕ) (a b : MessageForm) → IsMessage octets a → IsMessage octets b → a ≡ b

-- A message has one spelling.
abbrev pub MessageHasOneSpelling : Type 0
MessageHasOneSpelling = (a b : List ℕ) (m : MessageForm) → IsMessage a m → IsMessage b m → a ≡ b

-- Octets spell at most one frame: the same, the body not looked into.
abbrev pub OctetsAreOneFrame : Type 0
OctetsAreOneFrame = (octets : List ℕ) (a b : FrameForm) → IsFrame octets a → IsFrame octets b → a ≡ b

-- A GeneralizedTime is that of one second (RFC 5280, 4.1.2.5.2).
abbrev pub TextIsOneTime : Type 0
TextIsOneTime = (text : List ℕ) (s t : ℕ) → IsGeneralized text s → IsGeneralized text t → s ≡ t
