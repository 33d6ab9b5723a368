-- How an answer ends.
use Rattle.std.specs.Prelude.{◌≡◌, ◌⊎◌, ℕ, List, [], ◌∷◌, ◌++◌, length, replicate, Option, Some, None, IsSome}
use Rattle.cmp_ports.specs.Faults.{Rose}
use Rattle.cmp_ports.specs.declared.note.Answered.{Answered}
use Rattle.cmp_ports.specs.declared.note.Answered.TheVariants.{Replied, Failed, NoMemory}
use Rattle.cmp_ports.specs.declared.note.Note.{Note}
use Rattle.cmp_ports.specs.declared.note.Outcome.{Outcome}
use Rattle.cmp_ports.specs.declared.note.Outcome.TheVariants.{Done, Again, Refused, SystemFailure}
use Rattle.deal_changes.specs.declared.change.Change.{Change}
use Rattle.reply_maker.specs.Replies.{Replier}
use Rattle.front.specs.Answers.{after, IsAnswered, IsFailure, IsMade}
use Rattle.front.specs.Clerks.{Clerked, IsAlone}
use Rattle.front.specs.declared.device.Device.{Device}
use Rattle.front.specs.declared.device.Device.TheVariants.{Entropy, Disk}

-- the clerk's own places gain that of a change which was made
abbrev pub done_place : ℕ → Outcome → List ℕ
done_place place Done = place ∷ []
done_place place Again = []
done_place place (Refused fail) = []
done_place place SystemFailure = []

-- No disk failed under the clerk; and where it is alone, nothing is in doubt any more, or what was in doubt before.
pub record IsClear (old new : Clerked) : Type 0 where
  pub faults : new.faults ≡ old.faults
  pub doubt : IsAlone old → (new.doubt ≡ None) ⊎ (new.doubt ≡ old.doubt)

-- A decision settles what was in doubt before it makes a change or tells an earlier one again.
abbrev pub IsSettled : Outcome → Option Change → Type 0
IsSettled Done doubt = doubt ≡ None
IsSettled Again doubt = doubt ≡ None
IsSettled (Refused fail) doubt = Unit {0}
IsSettled SystemFailure doubt = Unit {0}

-- The message was decided and answered; where the clerk is alone, over the history that it had seen, and nothing else was made.
pub record IsReply (k : Replier) (b : List ℕ) (old new : Clerked) (now : ℕ) (w : List ℕ) (note : Note) (reply : List ℕ) : Type 0 where
  pub answered : IsAnswered k b old.seen new.seen now w note reply
  pub mine : new.mine ≡ old.mine ++ done_place note.place note.outcome
  pub alone : IsAlone old → (answered.before ≡ old.seen) × (new.seen ≡ after answered.before answered.what)
  pub clear : IsClear old new
  pub settled : IsAlone old → IsSettled note.outcome new.doubt

-- A device failed, and nothing was made.
pub record IsDown (k : Replier) (b : List ℕ) (old new : Clerked) (now : ℕ) (note : Note) (reply : List ℕ) : Type 0 where
  pub failure : IsFailure k b old.seen new.seen now note reply
  pub mine : new.mine ≡ old.mine
  pub alone : IsAlone old → (failure.known ≡ old.seen) × (new.seen ≡ old.seen)

-- the disk failed: what was in doubt still is, or the message's own change
pub record IsDiskDown (k : Replier) (b : List ℕ) (old new : Clerked) (now : ℕ) (w : List ℕ) (note : Note) (reply : List ℕ) : Type 0 where
  pub down : IsDown k b old new now note reply
  pub words : note.words ≡ w
  pub rose : Rose old.faults new.faults
  pub doubtful : IsAlone old → IsSome new.doubt

-- no words could be drawn: they are zeros in the note
pub record IsEntropyDown (k : Replier) (b : List ℕ) (old new : Clerked) (now : ℕ) (note : Note) (reply : List ℕ) : Type 0 where
  pub down : IsDown k b old new now note reply
  pub words : note.words ≡ replicate 32 0
  pub clear : IsClear old new

-- Memory ran out, and nothing was made. It may have run out as a failure of the disk was to be told.
pub record IsIdle (old new : Clerked) : Type 0 where
  pub mine : new.mine ≡ old.mine
  pub alone : IsAlone old → new.seen ≡ old.seen
  pub clear : IsClear old new ⊎ Rose old.faults new.faults

-- Memory ran out after the message had made its change.
pub record IsUnanswered (k : Replier) (b : List ℕ) (old new : Clerked) (now : ℕ) (w : List ℕ) : Type 0 where
  pub made : IsMade k b old.seen new.seen now w
  pub mine : new.mine ≡ old.mine ++ length (made.before ++ made.change ∷ []) ∷ []
  pub alone : IsAlone old → (made.before ≡ old.seen) × (new.seen ≡ made.before ++ made.change ∷ [])
  pub clear : IsClear old new
  pub settled : IsAlone old → new.doubt ≡ None

-- a reply with the words that were drawn, by its outcome
abbrev pub IsReplyFor : Replier → List ℕ → Clerked → Clerked → ℕ → List ℕ → Note → List ℕ → Outcome → Type 0
IsReplyFor k b old new now w note reply Done = IsReply k b old new now w note reply
IsReplyFor k b old new now w note reply Again = IsReply k b old new now w note reply
IsReplyFor k b old new now w note reply (Refused fail) = IsReply k b old new now w note reply
IsReplyFor k b old new now w note reply SystemFailure = IsDiskDown k b old new now w note reply

-- There is a reply, by the words that were drawn, or none where the draw failed.
abbrev pub IsReplied : Replier → List ℕ → Clerked → Clerked → ℕ → Option (List ℕ) → Note → List ℕ → Type 0
IsReplied k b old new now (Some w) note reply = IsReplyFor k b old new now w note reply note.outcome
IsReplied k b old new now None note reply = IsEntropyDown k b old new now note reply

-- Memory ran out.
abbrev pub IsSpent : Replier → List ℕ → Clerked → Clerked → ℕ → Option (List ℕ) → Type 0
IsSpent k b old new now (Some w) = IsIdle old new ⊎ IsUnanswered k b old new now w
IsSpent k b old new now None = IsIdle old new

-- How an answer ends: with a reply, or with none for want of memory.
abbrev pub IsEnd : Replier → List ℕ → Clerked → Clerked → ℕ → Option (List ℕ) → Answered → List ℕ → Type 0
IsEnd k b old new now drawn (Replied note) reply = IsReplied k b old new now drawn note reply
IsEnd k b old new now drawn NoMemory reply = (reply ≡ []) × IsSpent k b old new now drawn
IsEnd k b old new now drawn Failed reply = ⊥

-- ---- which device failed

abbrev pub failed_by : Outcome → Option (List ℕ) → Option Device
failed_by SystemFailure (Some w) = Some Disk
failed_by SystemFailure None = Some Entropy
failed_by Done drawn = None
failed_by Again drawn = None
failed_by (Refused fail) drawn = None

-- the device that failed, where that was answered
abbrev pub failed_in : Answered → Option (List ℕ) → Option Device
failed_in (Replied note) drawn = failed_by note.outcome drawn
failed_in NoMemory drawn = None
failed_in Failed drawn = None
