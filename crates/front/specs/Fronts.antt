-- What a front does as it answers.
use Rattle.std.specs.Prelude.{◌≡◌, ℕ, ◌≤◌, List, Option, Some, None}
use Rattle.cmp_ports.specs.Coming.{Gives, latest}
use Rattle.cmp_ports.specs.Faults.{Rose}
use Rattle.cmp_ports.specs.declared.clock.Clock as clocks
use Rattle.cmp_ports.specs.declared.entropy.Entropy as entropies
use Rattle.cmp_ports.specs.declared.note.Answered.{Answered}
use Rattle.deal_changes.specs.declared.change.Change.{Change}
use Rattle.deal_changes.specs.declared.change.Settings.{Settings}
use Rattle.deal_model.specs.Views.{History, founding}
use Rattle.desk.specs.declared.clerk.Clerk as clerks
use Rattle.letter_laws.specs.Laws.{HasLetter}
use Rattle.reply_maker.specs.Keys.{Loaded}
use Rattle.reply_maker.specs.Replies.{Replier, replier_of}
use Rattle.front.specs.Answers.{IsOwn}
use Rattle.front.specs.Clerks.{clerked, Goes}
use Rattle.front.specs.Ends.{IsEnd, failed_in}
use Rattle.front.specs.declared.device.Device.{Device}

-- what is told of a front at a moment: its keys, its clerk, its clock, its entropy, and which device failed in the last answer
pub record Parts (K C E : Type 0) : Type 0 where
  pub keys : Loaded
  pub clerk : K
  pub clock : C
  pub entropy : E
  pub failed : Option Device

-- what an authority with these keys replies with
abbrev pub replier_by : Loaded → Replier
replier_by keys = replier_of keys.file keys.settings

-- the service was founded with these settings
abbrev pub HasSettings : History → Settings → Type 0
HasSettings h s = founding h ≡ Some s

-- a draw that fails is counted
abbrev pub IsCounted : Option (List ℕ) → ℕ → ℕ → Type 0
IsCounted (Some w) before now = now ≡ before
IsCounted None before now = Rose before now × (before ≤ now)

-- the change that the message makes with the words that were drawn, over what the clerk had seen
abbrev pub Own : Replier → List ℕ → History → ℕ → Option (List ℕ) → Change → Type 0
Own k b seen now (Some w) c = IsOwn k b seen now w c
Own k b seen now None c = ⊥

-- How a front answers octets: it reads its clock once and draws words once, and its clerk decides. The octets have a letter, so that
-- what is said of each letter that they are is said of one.
pub record IsFrontAnswer {K C E : Type 0} (ks : clerks.Ghosts K) (cs : clocks.Ghosts C) (es : entropies.Ghosts E) (old : Parts K C E) (b : List ℕ) (end : Answered) (reply : List ℕ) (new : Parts K C E) : Type 0 where
  pub keys : new.keys ≡ old.keys
  pub letter : HasLetter b
  pub now : ℕ
  pub timely : now ≤ latest
  pub reads : Gives (cs.readings old.clock) (cs.readings new.clock) now
  pub clock : cs.loan new.clock ≡ cs.loan old.clock
  pub drawn : Option (List ℕ)
  pub draws : Gives (es.draws old.entropy) (es.draws new.entropy) drawn
  pub counted : IsCounted drawn (es.faults old.entropy) (es.faults new.entropy)
  pub entropy : es.loan new.entropy ≡ es.loan old.entropy
  pub goes : Goes ks old.clerk new.clerk (Own (replier_by old.keys) b (ks.seen old.clerk) now drawn)
  pub end_is : IsEnd (replier_by old.keys) b (clerked ks old.clerk) (clerked ks new.clerk) now drawn end reply
  pub failed : new.failed ≡ failed_in end drawn
