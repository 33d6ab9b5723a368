-- All runs on one disk have one history.
use Rattle.std.specs.Prelude.{◌≡◌, ℕ, List, [], ◌∷◌, ◌++◌, take, Option, Some, slice_get}
use Rattle.cmp_ports.specs.declared.disk.Disk.{Ghosts}
use Rattle.deal_changes.specs.declared.change.Stamp.{Stamp}
use Rattle.deal_changes.specs.declared.change.Change.{Change}
use Rattle.deal_changes.specs.Times.{stamp_of}
use Rattle.deal_model.specs.declared.states.Key.TheVariants.{Reply}
use Rattle.deal_model.specs.Laws.{OneGrantEach}
use Rattle.deal_model.specs.Views.{History}
use Rattle.deal_table.specs.History.{Receipted, Deal, deal_in, receipt_at, event_time}
use Rattle.deal_table.specs.Message.{Letter}
use Rattle.intake.specs.Letter.{IsLetter}
use Rattle.grant_laws.specs.Grants.{IsEarned}
use Rattle.reply_maker.specs.Replies.{reply_of, certificate_hash}
use Rattle.signed_texts.specs.Texts.{SignedText}
use Rattle.signed_texts.specs.Laws.{Stands, authority}
use Rattle.one_history.specs.Visits.{Holding, Visit, AreRuns, IsEmpty}
use Rattle.one_history.specs.Worlds.{WorkedOn, AreOne}
use Rattle.one_history.specs.Causes.{Cause, Message, IsCausedBy, Answer, IsAnswerOf, HandsOut, Asked}

-- one of the causes of what was asked makes this change behind this history
abbrev pub MayCause : Asked → History → Change → Type 0
MayCause asked h c = (x : Cause × ℕ) × Stands x asked.causes × IsCausedBy x.0 x.1 h c

-- A run was given a message that earns this certificate over this history, as the letter that its octets are.
pub record IsEarnedBy {D : Type 0} (vs : List (Visit D Asked)) (h : History) (d : Deal) : Type 0 where
  pub run : Visit D Asked
  pub among : Stands run vs
  pub key : List ℕ
  pub octets : List ℕ
  pub words : List ℕ
  pub now : ℕ
  pub given : Stands (Message key octets words, now) run.asked.causes
  pub letter : Letter
  pub is : IsLetter (certificate_hash (authority key h)) octets letter
  pub earned : IsEarned h (event_time h now) letter d

-- ---- the headline

-- All runs have one history, whatever they were asked, whatever failed, and wherever the machine stopped.
pub record HaveOneHistory {D : Type 0} (vs : List (Visit D Asked)) (h : History) (d : Option Change) : Type 0 where
  -- the runs are one run of the world; what stood by a run at the end of its work begins the history
  pub one : AreOne MayCause vs h d
  -- each answer that was given is the history's, or says that a device failed
  pub answers : (v : Visit D Asked) (k : History) (a : Answer) → Stands v vs → WorkedOn v k → Stands a v.asked.answers → IsAnswerOf k h a
  -- a transaction has one certificate at most
  pub single : OneGrantEach h
  -- a certificate is granted, or a request for it waits, for nothing but a message whose protection verifies and a key whose
  -- possession is shown
  pub earned : (n : ℕ) (c : Change) (x : Deal) → slice_get h n ≡ Some c → deal_in c ≡ Some x → IsEarnedBy vs (take n h) x
  -- under one key file no leaf of a key signs two texts
  pub signs : (v w : Visit D Asked) (a b : Answer) (e f : SignedText) → Stands v vs → Stands w vs → Stands a v.asked.answers → Stands b w.asked.answers
      → HandsOut h a e → HandsOut h b f → a.key ≡ b.key → e.key ≡ f.key → e.leaf ≡ f.leaf → e.text ≡ f.text
  -- and the reply to a change whose stamp has a leaf hands out such a text, of that change, by the key of replies
  pub hands : (a : Answer) (place : ℕ) (r : Receipted) (s : Stamp) (leaf : ℕ) → receipt_at h place ≡ Some r → stamp_of r.change ≡ Some s → s.leaf ≡ Some leaf → a.reply ≡ reply_of (authority a.key h) r
      → (e : SignedText) × HandsOut h a e × (e.key ≡ Reply) × (e.place ≡ place)

-- the answers of a run are those of the history that it goes on from, with what it makes
abbrev pub AnswersRight : {D : Type 0} → Visit D Asked → Type 0
AnswersRight v = (k : History) (a : Answer) → v.finding ≡ Holding k → Stands a v.asked.answers → IsAnswerOf k (k ++ v.made) a

-- Of the runs on a disk on which no service was founded, up to one that found a history and came to the end of its work.
abbrev pub AllRunsHaveOneHistory : {D : Type 0} → Ghosts D → Type 0
AllRunsHaveOneHistory {D} g = (d last : D) (vs : List (Visit D Asked)) (v : Visit D Asked) (h : History) → IsEmpty g d → AreRuns g MayCause d (vs ++ v ∷ []) last
    → ((w : Visit D Asked) → Stands w (vs ++ v ∷ []) → AnswersRight w) → WorkedOn v h → HaveOneHistory (vs ++ v ∷ []) (h ++ v.made) v.doubt
