-- What a certificate is granted on, or a request for one held: a protection that verifies, and a private key whose possession
-- is shown (RFC 9810, 5.1.3 and 5.2.8).
use Rattle.std.specs.Prelude.{◌≡◌, ◌⊎◌, ℕ, true, List, Some, find}
use Rattle.deal_changes.specs.declared.change.Stamp.{Stamp}
use Rattle.deal_changes.specs.declared.change.Change.{Change}
use Rattle.deal_changes.specs.declared.change.Change.TheVariants.{Hold}
use Rattle.deal_model.specs.declared.states.DealState.TheVariants.{Released}
use Rattle.deal_model.specs.declared.states.Owner.{Owner}
use Rattle.deal_model.specs.declared.states.Standing.TheVariants.{Good}
use Rattle.deal_model.specs.Views.{History, is_hold_for, transaction_state}
use Rattle.deal_table.specs.History.{Deal, deal_in, event_time}
use Rattle.deal_table.specs.Message.{Enrolment, Polling, Enrols, Polls, is_nested, Facts, Letter, subject_of}
use Rattle.deal_table.specs.Table.{Makes, standing_now, may_enrol, may_wrap, tid_of, is_possessed, decision}

-- The message is its owner's: the credential that its header names is good at this time, and its protection verifies under the
-- secret or key of that credential (RFC 9810, 5.1.3).
pub record IsFrom (h : History) (t : ℕ) (m : Facts) (o : Owner) : Type 0 where
  pub protected : m.is_protected ≡ true
  pub good : standing_now h t m ≡ Good o.who o.key o.rights
  pub verified : m.verifies o.key ≡ true

-- where another message stands around it, that one is somebody's who may wrap (RFC 9810, 5.1.3.5)
abbrev pub IsCarried : History → ℕ → Letter → Type 0
IsCarried h t l = is_nested l.message.body ≡ true → (o : Owner) × IsFrom h t l.message o × (may_wrap o ≡ true)

-- The message asks for the certificate, and its sender may enrol. The private key has signed the request, or the sender says so
-- and may vouch (RFC 4211, 4; RFC 9810, 5.2.8).
pub record IsAsked (m : Facts) (o : Owner) (d : Deal) : Type 0 where
  pub request : Enrolment
  pub asks : m.body ≡ Enrols request
  pub may : may_enrol o ≡ true
  pub possessed : is_possessed o request ≡ true
  pub deal : d ≡ record { who = o.who; body = request.body; wish = request.wish }

-- The message polls for a request of its sender that was held and is released, and the certificate is the one that was asked for
-- then (RFC 9810, 5.3.22).
pub record IsReleased (h : History) (m : Facts) (o : Owner) (d : Deal) : Type 0 where
  pub polling : Polling
  pub polls : m.body ≡ Polls polling
  pub state : transaction_state h (tid_of m.header) ≡ Released
  pub stamp : Stamp
  pub held : find (is_hold_for (tid_of m.header)) h ≡ Some (Hold stamp d.body d.wish)
  pub holder : stamp.who ≡ o.who
  pub who : d.who ≡ o.who

-- The message is its sender's, and it earns the sender this: as a request, or as a poll for one that is released.
pub record IsEarned (h : History) (t : ℕ) (l : Letter) (d : Deal) : Type 0 where
  pub owner : Owner
  pub from : IsFrom h t (subject_of l) owner
  pub carried : IsCarried h t l
  pub wished : IsAsked (subject_of l) owner d ⊎ IsReleased h (subject_of l) owner d

-- Where the table makes a Grant or a Hold of a message, the message has earned it.
abbrev pub GrantsOnlyOnProof : Type 0
GrantsOnlyOnProof = (h : History) (l : Letter) (now : ℕ) (w : List ℕ) (c : Change) (d : Deal) → decision h l now w ≡ Makes c → deal_in c ≡ Some d → IsEarned h (event_time h now) l d
