-- What a front does at a door: it serves the streams that the door gives out, and hands each back with the end of its session.
use Rattle.std.specs.Prelude.{◌≡◌, ◌≢◌, ℕ, zero, suc, ◌+◌, ◌-◌, ◌^◌, ◌≤◌, min, false, List, ◌++◌, length, map, flat_map, count_by, sum_by, Option, Some, None}
use Rattle.std.specs.List.{AllByRecursion}
use Rattle.std.specs.Io.KnownBytes.{Keeps}
use Rattle.cmp_links.specs.declared.door.Door as doors
use Rattle.cmp_links.specs.declared.end.EndCause.TheVariants.{NoMemory}
use Rattle.cmp_links.specs.declared.end.SessionEnd.{SessionEnd}
use Rattle.cmp_links.specs.declared.link.Link as links
use Rattle.cmp_links.specs.Ends.{is_failure}
use Rattle.cmp_links.specs.Links.{IsUntouched}
use Rattle.cmp_ports.specs.Coming.{GivesAll}
use Rattle.cmp_ports.specs.Faults.{RoseBy, counted}
use Rattle.cmp_ports.specs.declared.clock.Clock as clocks
use Rattle.cmp_ports.specs.declared.entropy.Entropy as entropies
use Rattle.deal_model.specs.Views.{History}
use Rattle.deal_table.specs.History.{Begins}
use Rattle.desk.specs.declared.clerk.Clerk as clerks
use Rattle.front.specs.Clerks.{clerked}
use Rattle.front.specs.Fronts.{Parts, replier_by}
use Rattle.http_heads.specs.Comings.{input}
use Rattle.reply_maker.specs.Replies.{Replier}
use Rattle.sessions.specs.Events.{Event, Lost, readings_of, draws_of, done_places, lost_places}
use Rattle.sessions.specs.Sessions.{IsSession}
use Rattle.workers.specs.declared.tally.Tally.{Tally}

-- A stream that was served: as the door gave it out and as it was handed back, with the end of its session; the messages that were
-- answered in it, and the one that got no reply, where there is one.
pub record Served (L : Type 0) : Type 0 where
  pub from : L
  pub link : L
  pub end : SessionEnd
  pub events : List Event
  pub lost : Option Lost

-- a count after so many more
abbrev pub counted_by : ℕ → ℕ → ℕ
counted_by zero count = count
counted_by (suc n) count = counted (counted_by n count)

-- a list that is told has these more at its end
abbrev pub AddsAll : {X : Type 0} → Option (List X) → Option (List X) → List X → Type 0
AddsAll None new xs = Unit {0}
AddsAll (Some old) None xs = ⊥
AddsAll (Some old) (Some new) xs = new ≡ old ++ xs

module _ {L : Type 0} where
  -- what was handed back
  abbrev pub handed : Served L → L × SessionEnd
  handed s = (s.link, s.end)

  -- what the session took of the clock, and of the entropy
  abbrev pub readings_in : Served L → List ℕ
  readings_in s = readings_of s.events s.lost

  abbrev pub draws_in : Served L → List (Option (List ℕ))
  draws_in s = draws_of s.events s.lost

  -- the places of the changes that were made in it
  abbrev pub places_in : Served L → List ℕ
  places_in s = done_places s.end.notes ++ lost_places s.lost

  -- how many of its answers told that the service failed
  abbrev pub failures_in : Served L → ℕ
  failures_in s = count_by is_failure s.end.notes

  -- The session over the stream is one over the history h, which begins with h0. The stream was new as it began, and all that it gave
  -- and has left is what it had then.
  pub record IsServed (ls : links.Ghosts L) (k : Replier) (h0 h : History) (s : Served L) : Type 0 where
    pub fresh : IsUntouched (ls.faults s.from) (ls.gave s.from) (ls.written s.from)
    pub whole : Keeps (input (ls.gave s.from) (ls.left s.from)) (input (ls.gave s.link) (ls.left s.link))
    pub session : IsSession k h0 h (ls.left s.from) (ls.written s.from) (ls.written s.link) (ls.faults s.from) (ls.faults s.link) (readings_in s) (draws_in s) s.end s.events s.lost

  -- no memory ran out in it
  abbrev pub IsRemembered : Served L → Type 0
  IsRemembered s = s.end.cause ≢ NoMemory

-- The streams that a front served at a door, one after the other: the door gave out so many and took them back, each is a session over
-- what the clerk has seen afterwards and over each history that begins with it, and the clerk's places are those of their changes. Each
-- answer that a device failed is counted by the entropy or by the clerk.
pub record IsDoorServed {K C E S L : Type 0} (ls : links.Ghosts L) (ds : doors.Ghosts S L) (ks : clerks.Ghosts K) (cs : clocks.Ghosts C) (es : entropies.Ghosts E) (old new : Parts K C E) (before after : S) (streams : List (Served L)) (tally : Tally) : Type 0 where
  pub accepted : ds.accepted after ≡ counted_by (length streams) (ds.accepted before)
  pub ended : ds.ended after ≡ counted_by (length streams) (ds.ended before)
  pub finished : AddsAll (ds.finished before) (ds.finished after) (map handed streams)
  pub each : (h : History) → Begins (ks.seen new.clerk) h → AllByRecursion (IsServed ls (replier_by old.keys) (ks.seen old.clerk) h) streams
  pub keys : new.keys ≡ old.keys
  pub grown : Begins (ks.seen old.clerk) (ks.seen new.clerk)
  pub held : (clerked ks new.clerk).held ≡ (clerked ks old.clerk).held
  pub mine : ks.mine new.clerk ≡ ks.mine old.clerk ++ flat_map places_in streams
  pub clock : cs.loan new.clock ≡ cs.loan old.clock
  pub reads : GivesAll (cs.readings old.clock) (cs.readings new.clock) (flat_map readings_in streams)
  pub entropy : es.loan new.entropy ≡ es.loan old.entropy
  pub drew : GivesAll (es.draws old.entropy) (es.draws new.entropy) (flat_map draws_in streams)
  pub failures : tally.failures ≡ min (sum_by failures_in streams) (2 ^ 64 - 1)
  pub draw_faults : ℕ
  pub disk_faults : ℕ
  pub counts : sum_by failures_in streams ≡ draw_faults + disk_faults
  pub entropy_faults : RoseBy draw_faults (es.faults old.entropy) (es.faults new.entropy)
  pub clerk_faults : RoseBy disk_faults (ks.faults old.clerk) (ks.faults new.clerk)
  pub later : ds.faults before ≤ ds.faults after
  pub entropy_later : es.faults old.entropy ≤ es.faults new.entropy
  pub remembered : tally.memory ≡ false → AllByRecursion IsRemembered streams
