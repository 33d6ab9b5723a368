-- The record of a disk's calls, replayed: what reads give after them, what a crash may leave, and what a stop left.
use Rattle.std.specs.Prelude.{◌≡◌, ℕ, ◌-◌, ◌≤◌, ◌==◌, nat_le, if◌then◌else◌, List, [], ◌∷◌, length, take, replicate}
use Rattle.cmp_ports.specs.declared.mem_disk.call.Call.{Call}
use Rattle.cmp_ports.specs.declared.mem_disk.call.Call.TheVariants.{Still, Wrote, Synced}
use Rattle.cmp_ports.specs.Disk.{overwritten, Torn, Reached}

-- the file with these octets written into it, where they begin inside it or at its end
abbrev pub put_over : ℕ → List ℕ → List ℕ → List ℕ
put_over at octets file = if nat_le at (length file) then overwritten at octets file else file

-- what reads give after one call more
abbrev pub content_step : List ℕ → Call → List ℕ
content_step file Still = file
content_step file (Wrote at octets done) = if done then put_over at octets file else file
content_step file Synced = file

-- what reads give after these calls, the first of them first
abbrev pub content_after : List ℕ → List Call → List ℕ
content_after file [] = file
content_after file (call ∷ calls) = content_after (content_step file call) calls

-- what a crash may leave after one call more, where reads gave this file before it
abbrev pub image_step : List ℕ → (List ℕ → Type 0) → Call → List ℕ → Type 0
image_step file images Still c = images c
image_step file images (Wrote at octets done) c = Reached (Torn at (length octets)) images c
image_step file images Synced c = c ≡ file

-- what a crash may leave after these calls
abbrev pub image_after : List ℕ → (List ℕ → Type 0) → List Call → List ℕ → Type 0
image_after file images [] c = images c
image_after file images (call ∷ calls) c = image_after (content_step file call) (image_step file images call) calls c

-- what a crash may leave after these calls on a disk that held the first octets alone
abbrev pub IsImage : List ℕ → List Call → List ℕ → Type 0
IsImage first calls c = image_after first (λ d. d ≡ first) calls c

-- what a crash may have left after some number of these calls, from that number on
pub record WasImage (first : List ℕ) (calls : List Call) (from : ℕ) (c : List ℕ) : Type 0 where
  pub after : ℕ
  pub later : from ≤ after
  pub made : after ≤ length calls
  pub image : IsImage first (take after calls) c

-- what a range in doubt holds: the written octets (1), octets 0 (2) or octets 1 (3)
abbrev pub filling : ℕ → List ℕ → List ℕ
filling choice octets = if choice == 1 then octets else replicate (length octets) (choice - 2)

-- what a stop leaves after one call more: by choice 0 nothing of what was written since the last sync
abbrev pub left_step : ℕ → List ℕ → List ℕ → Call → List ℕ
left_step choice file image Still = image
left_step choice file image (Wrote at octets done) = if choice == 0 then image else put_over at (filling choice octets) image
left_step choice file image Synced = file

-- what a stop leaves after these calls
abbrev pub left_after : ℕ → List ℕ → List ℕ → List Call → List ℕ
left_after choice file image [] = image
left_after choice file image (call ∷ calls) = left_after choice (content_step file call) (left_step choice file image call) calls
