-- An upstream in memory, as contracts see it.
use Rattle.std.specs.Prelude.{◌≡◌, ℕ, Bool, false, List, [], ◌∷◌, ◌++◌, replicate}
use Rattle.cmp_ports.specs.declared.list_up.ListUp.{ListUp}
use Rattle.cmp_ports.specs.declared.note.Answered.{Answered}
use Rattle.cmp_ports.specs.declared.note.Answered.TheVariants.{Replied, Failed, NoMemory}
use Rattle.cmp_ports.specs.declared.note.Note.{Note}
use Rattle.cmp_ports.specs.declared.note.Outcome.TheVariants.{Done}
use Rattle.cmp_ports.specs.Faults.{counted}
use Rattle.cmp_ports.specs.Schedule.{listed_of, is_due}

-- the replies that are left
abbrev pub replies_of : ListUp → List (List ℕ)
replies_of u = u.replies.items

-- the requests that were answered, the first of them first
abbrev pub asked_of : ListUp → List (List ℕ)
asked_of u = u.asked.items

-- how many calls failed
abbrev pub up_faults : ListUp → ℕ
up_faults u = u.schedule.faults

-- the numbers of the calls that fail, counted from 1, and how many calls there were
abbrev pub up_listed : ListUp → List ℕ
up_listed u = listed_of u.schedule

abbrev pub up_calls : ListUp → ℕ
up_calls u = u.schedule.calls

-- the next call is one that fails
abbrev pub is_up_due : ListUp → Bool
is_up_due u = is_due u.schedule

-- the note of an answer that no authority gave
abbrev pub blank_note : Note
blank_note = record { place = 0; time = 0; words = replicate 32 0; outcome = Done }

-- A reply is the first of those left, and its request is on the record; a failure takes no reply, and is counted once. Nothing else
-- is answered. Where the call is listed, or no reply is left, it fails.
abbrev pub UpGives : ListUp → List ℕ → Answered → List ℕ → ListUp → Type 0
UpGives old request (Replied note) reply new =
    (note ≡ blank_note) × (replies_of old ≡ reply ∷ replies_of new) × (asked_of new ≡ asked_of old ++ request ∷ []) × (up_faults new ≡ up_faults old) × (is_up_due old ≡ false)
UpGives old request Failed reply new = (replies_of new ≡ replies_of old) × (asked_of new ≡ asked_of old) × (up_faults new ≡ counted (up_faults old))
UpGives old request NoMemory reply new = ⊥

pub record UpAnswers (old : ListUp) (request : List ℕ) (end : Answered) (reply : List ℕ) (new : ListUp) : Type 0 where
  pub gives : UpGives old request end reply new
  pub listed : up_listed new ≡ up_listed old
  pub calls : up_calls new ≡ counted (up_calls old)
