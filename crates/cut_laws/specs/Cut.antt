-- That what is left of a message which is cut off is none.
use Rattle.std.specs.Prelude.{◌≡◌, ◌≢◌, ◌⊎◌, ◌++◌, ℕ, List, [], None, IfOk, Result}
use Rattle.asn_fields.specs.Fields.{Gives}
use Rattle.asn_fields.specs.declared.fault.BadForm.{BadForm}
use Rattle.pki_message.specs.Frame.{FrameForm, IsFrame, frame_of}
use Rattle.pki_message.specs.declared.frame.Frame.{Frame}
use Rattle.pki_message.specs.Message.{MessageForm, IsMessage, message_of}
use Rattle.pki_message.specs.declared.message.Message.{Message}

-- The octets are a message (RFC 9810, 5.1), or a frame, whose body is not looked into.
abbrev pub IsAny : List ℕ → Type 0
IsAny octets = ((m : MessageForm) × IsMessage octets m) ⊎ ((f : FrameForm) × IsFrame octets f)

-- A part is what is left of octets that lost some at the end; it may be all lost.
pub record IsCutOff (part whole : List ℕ) : Type 0 where
  pub lost : List ℕ
  pub some : lost ≢ []
  pub all : whole ≡ part ++ lost

-- What is left of a message or a frame that is cut off is neither.
abbrev pub CutIsNeither : Type 0
CutIsNeither = (part whole : List ℕ) → IsCutOff part whole → IsAny whole → IsAny part → ⊥

-- The octets are what is left of a message or a frame that is cut off.
pub record IsLeft (part : List ℕ) : Type 0 where
  pub whole : List ℕ
  pub cut : IsCutOff part whole
  pub was : IsAny whole

-- Whoever answers octets with a message, or with a frame, only where they are that, refuses what is left of one.
abbrev pub MessageReadersRefuse : Type 0
MessageReadersRefuse = (octets : List ℕ) (answer : Result Message BadForm) → IfOk answer (λ m. IsMessage octets (message_of m)) → IsLeft octets → Gives message_of answer None

abbrev pub FrameReadersRefuse : Type 0
FrameReadersRefuse = (octets : List ℕ) (answer : Result Frame BadForm) → IfOk answer (λ f. IsFrame octets (frame_of f)) → IsLeft octets → Gives frame_of answer None
