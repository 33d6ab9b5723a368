-- What a journal in memory says of its disk: where the log ends, how many payloads it has, and whether one is in doubt.
use Rattle.std.specs.Prelude.{◌≡◌, ℕ, ◌+◌, ◌<◌, ◌≤◌, ◌^◌, ◌||◌, Bool, true, false, nat_le, nat_lt, List, [], ◌∷◌, ◌++◌, length, Result, Ok, Err}
use Rattle.cmp_ports.specs.Disk.{Every}
use Rattle.journal_core.specs.declared.journal.Journal.{Journal}
use Rattle.journal_core.specs.declared.journal.Doubt.{Doubt}
use Rattle.journal_core.specs.declared.journal.Doubt.TheVariants.{Clear, Before, Gate}
use Rattle.journal_core.specs.declared.fault.AppendFault.{AppendFault}
use Rattle.journal_core.specs.declared.fault.AppendFault.TheVariants.{Full, DiskFault}
use Rattle.journal_core.specs.Log.{framed, log_of, ClosedAfter, AreSmall}
use Rattle.journal_core.specs.Staged.{StagedAfter}

-- by the doubt: each image goes on behind the front with a closed gate, or with a gate and the body behind it
abbrev pub IsInState : Doubt → List ℕ → List ℕ → (List ℕ → Type 0) → Type 0
IsInState Clear front body images = Every images (ClosedAfter front)
IsInState Before front body images = Every images (ClosedAfter front)
IsInState Gate front body images = (length front ≤ 1073741824) × Every images (StagedAfter front body)

-- the log of these payloads ends here, has so many, and this one is in doubt, where the doubt says so
pub record IsKeptAs (magic : List ℕ) (payloads : List (List ℕ)) (payload : List ℕ) (last count : ℕ) (doubt : Doubt) (images : List ℕ → Type 0) : Type 0 where
  pub small : AreSmall payloads
  pub fits : length payload < 2 ^ 32
  pub end : last ≡ length (log_of magic payloads)
  pub counted : count ≡ length payloads
  pub state : IsInState doubt (log_of magic payloads) (framed payload) images

-- a payload is in doubt
abbrev pub is_in_doubt : Doubt → Bool
is_in_doubt Clear = false
is_in_doubt Before = true
is_in_doubt Gate = true

abbrev pub is_doubtful : Journal → Bool
is_doubtful journal = is_in_doubt journal.doubt

-- the payload's gate was begun to be written
abbrev pub is_at_gate : Doubt → Bool
is_at_gate Clear = false
is_at_gate Before = false
is_at_gate Gate = true

-- a payload is in doubt, and append had begun to write its gate
abbrev pub has_begun_gate : Journal → Bool
has_begun_gate journal = is_at_gate journal.doubt

-- the journal keeps these payloads on a disk of these images, and the last payload that it failed to append is this one
abbrev pub IsKept : List ℕ → List (List ℕ) → List ℕ → Journal → (List ℕ → Type 0) → Type 0
IsKept magic payloads payload journal images = IsKeptAs magic payloads payload journal.end journal.count journal.doubt images

-- it keeps some payloads there: the disk is as this journal's last call left it
abbrev pub IsSound : Journal → (List ℕ → Type 0) → Type 0
IsSound journal images = (magic : List ℕ) × (payloads : List (List ℕ)) × (payload : List ℕ) × IsKept magic payloads payload journal images

-- it keeps these payloads, and nothing is in doubt: each image recovers to them
abbrev pub IsAtRest : List ℕ → List (List ℕ) → Journal → (List ℕ → Type 0) → Type 0
IsAtRest magic payloads journal images = IsKept magic payloads [] journal images × (is_doubtful journal ≡ false)

-- a further record of so many octets doesn't go into a log of so many payloads and octets
abbrev pub is_past_limit : ℕ → ℕ → ℕ → Bool
is_past_limit count end more = nat_le 262144 count || nat_lt 1073741824 (end + more)

-- the payload stands in the log; or the journal is full and as before; or the payload is in doubt
abbrev pub IsAppended : {T : Type 0} → List ℕ → List (List ℕ) → List ℕ → Result T AppendFault → Journal → Journal → (List ℕ → Type 0) → Type 0
IsAppended magic payloads payload (Ok _) old new images = IsAtRest magic (payloads ++ payload ∷ []) new images
IsAppended magic payloads payload (Err Full) old new images = (new ≡ old) × IsAtRest magic payloads new images
IsAppended magic payloads payload (Err DiskFault) old new images = IsKept magic payloads payload new images × (is_doubtful new ≡ true)
