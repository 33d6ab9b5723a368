-- Which facts the octets of a message are. For octets there is one letter at most, but for functions that agree everywhere: octets
-- are one message at most, and what verifies is settled by its standard.
use Rattle.std.specs.Prelude.{◌≡◌, ℕ, ◌&&◌, ◌↔◌, Bool, true, false, IsTrue, is_some, List, [], Option, Some, None, unwrap_or}
use Rattle.sha2.specs.Sha256.{sha256}
use Rattle.pki_message.specs.Message.{MessageForm, IsMessage}
use Rattle.deal_table.specs.History.{Receipted}
use Rattle.deal_table.specs.Message.{OtherBody, Header, Facts, Letter}
use Rattle.intake.specs.Bodies.{body_facts, nested_inside}
use Rattle.intake.specs.Headers.{header_of, asks_implicit}
use Rattle.intake.specs.Holds.{Verifies, IsProven}

-- what octets are: this message, or none
abbrev pub IsReading : List ℕ → Option MessageForm → Type 0
IsReading bytes (Some m) = IsMessage bytes m
IsReading bytes None = (m : MessageForm) → IsMessage bytes m → ⊥

-- whether the protection verifies under a secret or key, and whether the private key was shown
pub record Checks : Type 0 where
  pub verifies : List ℕ → Bool
  pub is_proven : Bool

-- They say so exactly where it holds.
pub record AreChecked (m : MessageForm) (c : Checks) : Type 0 where
  pub verified : (key : List ℕ) → IsTrue (c.verifies key) ↔ Verifies m key
  pub proven : IsTrue c.is_proven ↔ IsProven m.body

abbrev pub AreChecks : Option MessageForm → Checks → Type 0
AreChecks (Some m) c = AreChecked m c
AreChecks None c = Unit {0}

-- the header of octets that are no message
abbrev pub no_header : Header
no_header = record { pvno = 0; sender = []; kid = []; tid = None; sender_nonce = None; recip_nonce = None; time = None; kind = None }

-- The facts of octets. A certHash is compared with the hashes of certificates.
abbrev pub facts_of : (Receipted → List ℕ) → List ℕ → Option MessageForm → Checks → Facts
facts_of hashes bytes None c = record {
  is_message = false;
  digest = sha256 bytes;
  header = no_header;
  is_protected = false;
  verifies = λ key. false;
  body = OtherBody;
}
facts_of hashes bytes (Some m) c = record {
  is_message = true;
  digest = sha256 bytes;
  header = header_of m.head m.time;
  is_protected = is_some m.protection && is_some m.head.alg;
  verifies = c.verifies;
  body = body_facts hashes (asks_implicit m.head.info) c.is_proven m.body;
}

-- the octets inside a nested message
abbrev pub inside_of : Option MessageForm → List ℕ
inside_of None = []
inside_of (Some m) = unwrap_or (nested_inside m.body) []

-- The octets are this letter: a message, and where it is nested what stands inside it. Of another one, no octets stand inside.
pub record IsLetter (hashes : Receipted → List ℕ) (bytes : List ℕ) (l : Letter) : Type 0 where
  pub outer : Option MessageForm
  pub inner : Option MessageForm
  pub outer_checks : Checks
  pub inner_checks : Checks
  pub is_outer : IsReading bytes outer
  pub is_inner : IsReading (inside_of outer) inner
  pub outer_checked : AreChecks outer outer_checks
  pub inner_checked : AreChecks inner inner_checks
  pub message : l.message ≡ facts_of hashes bytes outer outer_checks
  pub inside : l.inner ≡ facts_of hashes (inside_of outer) inner inner_checks
