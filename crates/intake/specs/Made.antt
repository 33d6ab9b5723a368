-- How a request is made of what was read. No clause of a public call reads these words.
use Rattle.std.specs.Prelude.{◌≡◌, ℕ, true, List, Option, Some, None}
use Rattle.sha2.specs.Sha256.{sha256}
use Rattle.pki_message.specs.Message.{MessageForm, IsMessage}
use Rattle.deal_changes.specs.declared.change.Kind.{Kind}
use Rattle.deal_model.specs.declared.asking.Ask.{Ask}
use Rattle.deal_model.specs.declared.asking.Echo.{Echo}
use Rattle.cmp_values.specs.declared.fail_info.FailInfo.{FailInfo}
use Rattle.deal_table.specs.Message.{Header, echo_of, echoed}
use Rattle.deal_table.specs.Table.{Row, To, Decision, Refuses, unless, pass, tid_of, header_rows}
use Rattle.intake.specs.Headers.{header_of}
use Rattle.intake.specs.Bodies.{nested_inside}
use Rattle.intake.specs.Letter.{no_header, IsReading}

-- a row applies for this reason, or none does
abbrev pub FirstApplies : List Row → Option FailInfo → Type 0
FirstApplies rows (Some fail) = (to : To) (next : Decision) → unless to rows next ≡ Refuses fail to
FirstApplies rows None = pass rows ≡ true

-- the header of what was read
abbrev pub heading_of : Option MessageForm → Header
heading_of None = no_header
heading_of (Some m) = header_of m.head m.time

-- This is asked about octets that are read so, with this credential of the message around them.
pub record IsAskFor (bytes : List ℕ) (head : Header) (around : Option (Kind × List ℕ)) (ask : Ask) : Type 0 where
  pub digest : ask.digest ≡ sha256 bytes
  pub tid : ask.tid ≡ tid_of head
  pub kind : ask.kind ≡ head.kind
  pub kid : ask.kid ≡ head.kid
  pub outer : ask.outer ≡ around

-- the credential of a message around another one, where it is of a kind that is served
abbrev pub with_kid : Option Kind → List ℕ → Option (Kind × List ℕ)
with_kid None kid = None
with_kid (Some kind) kid = Some (kind, kid)

abbrev pub credential_of : Header → Option (Kind × List ℕ)
credential_of head = with_kid head.kind head.kid

-- This is asked and repeated about octets in which a message stands with this header, where the message around it has that one.
pub record IsMadeOf (subject : List ℕ) (head around : Header) (outer : Option (Kind × List ℕ)) (ask : Ask) (echo outer_echo : Echo) : Type 0 where
  pub asked : IsAskFor subject head outer ask
  pub echo_is : echoed echo ≡ echo_of head
  pub outer_is : echoed outer_echo ≡ echo_of around

-- The same about octets that are a message with a header in form: about the message itself, or about what stands inside it where
-- it nests one.
pub record IsMade (bytes : List ℕ) (ask : Ask) (echo outer_echo : Echo) : Type 0 where
  pub some : ((m : MessageForm) → IsMessage bytes m → ⊥) → ⊥
  pub header : (m : MessageForm) → IsMessage bytes m → pass (header_rows (heading_of (Some m))) ≡ true
  pub plain : (m : MessageForm) → IsMessage bytes m → nested_inside m.body ≡ None → IsMadeOf bytes (heading_of (Some m)) (heading_of (Some m)) None ask echo outer_echo
  pub nested : (m : MessageForm) (inside : List ℕ) (o : Option MessageForm) → IsMessage bytes m → nested_inside m.body ≡ Some inside → IsReading inside o
      → IsMadeOf inside (heading_of o) (heading_of (Some m)) (credential_of (heading_of (Some m))) ask echo outer_echo
