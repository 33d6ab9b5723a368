-- Who sent a message, without its time, and whether it has the private key.
use Rattle.std.specs.Prelude.{◌≡◌, ℕ, Bool, true, false, is_some, List, Option, Some}
use Rattle.pki_message.specs.Message.{MessageForm, IsMessage}
use Rattle.deal_model.specs.declared.states.Owner.{Owner}
use Rattle.deal_model.specs.declared.states.Standing.{Standing}
use Rattle.deal_model.specs.declared.states.Standing.TheVariants.{Good}
use Rattle.deal_table.specs.History.{Receipted}
use Rattle.deal_table.specs.Message.{Body, Enrols, Confirms, Polls, Withdraws, Nests, OtherBody, Facts}
use Rattle.deal_table.specs.Table.{To, Decision, Refuses, guard_by, proven_by, is_possessed}
use Rattle.intake.specs.Letter.{Checks, AreChecked, facts_of}
use Rattle.intake.specs.declared.sender.Sender.{Sender}
use Rattle.intake.specs.declared.unfit.Unfit.{Unfit}
use Rattle.intake.specs.declared.unfit.Unfit.TheVariants.{Refused, NoMemory}

-- octets are the message
pub record IsOfOctets (m : MessageForm) : Type 0 where
  pub octets : List ℕ
  pub is : IsMessage octets m

-- Something holds of the facts of a message.
abbrev pub ForFacts : MessageForm → ((Receipted → List ℕ) → Facts → Type 0) → Type 0
ForFacts m P = (hashes : Receipted → List ℕ) (bytes : List ℕ) (c : Checks) → AreChecked m c → P hashes (facts_of hashes bytes (Some m) c)

-- ---- refusals

-- whom a refusal answers
pub record IsTo (is_guarded to_outer : Bool) (to : To) : Type 0 where
  pub outer : to.outer ≡ to_outer
  pub guard : is_some to.guard ≡ is_guarded

-- It is refused so, whatever would be decided next.
abbrev pub IsBack : (X : Type 0) → (X → Decision) → Unfit → Type 0
IsBack X decide (Refused fail is_guarded to_outer) = (to : To) × IsTo is_guarded to_outer to × ((next : X) → decide next ≡ Refuses fail to)
IsBack X decide NoMemory = Unit {0}

-- ---- the sender

-- The sender is good, the message is its own, and no row on protection and sender refuses it.
pub record IsVerified (standing : Standing) (outer : Bool) (f : Facts) (s : Sender) : Type 0 where
  pub good : standing ≡ Good s.owner.who s.owner.key s.owner.rights
  pub protected : f.is_protected ≡ true
  pub kind : is_some f.header.kind ≡ true
  pub verified : f.verifies s.owner.key ≡ true
  pub guard : is_some (guard_by f.header.kind f.header.kid s.owner) ≡ s.guarded
  pub passes : (next : Owner → Decision) → proven_by standing outer f next ≡ next s.owner

-- ---- possession

-- A request shows that its sender has the private key, by the word of one who may vouch or else by a signature; nothing else does.
abbrev pub IsPossession : Owner → Body → Bool → Type 0
IsPossession o (Enrols e) shown = is_possessed o e ≡ shown
IsPossession o (Confirms c) shown = shown ≡ false
IsPossession o (Polls p) shown = shown ≡ false
IsPossession o (Withdraws w) shown = shown ≡ false
IsPossession o (Nests count) shown = shown ≡ false
IsPossession o OtherBody shown = shown ≡ false
