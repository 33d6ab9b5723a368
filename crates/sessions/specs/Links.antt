-- What a front does as it serves a stream.
use Rattle.std.specs.Prelude.{◌≡◌, ℕ, ◌+◌, ◌≤◌, List, ◌++◌, length, count_by, Option}
use Rattle.cmp_ports.specs.Coming.{GivesAll}
use Rattle.cmp_ports.specs.Faults.{RoseBy}
use Rattle.cmp_ports.specs.declared.clock.Clock as clocks
use Rattle.cmp_ports.specs.declared.entropy.Entropy as entropies
use Rattle.cmp_links.specs.Ends.{is_failure}
use Rattle.cmp_links.specs.declared.end.SessionEnd.{SessionEnd}
use Rattle.deal_model.specs.Views.{History}
use Rattle.deal_table.specs.History.{Begins}
use Rattle.desk.specs.Clerks.{places_since}
use Rattle.desk.specs.declared.clerk.Clerk as clerks
use Rattle.front.specs.Clerks.{clerked, IsAlone, IsLawful}
use Rattle.front.specs.Fronts.{Parts, replier_by}
use Rattle.front.specs.declared.front.Front.{Front}
use Rattle.sessions.specs.Events.{Event, Lost, readings_of, draws_of, done_places, lost_places}
use Rattle.sessions.specs.Sessions.{IsSession}

-- what is told of a front
abbrev pub parts_of : {K C E G : Type 0} {ks : clerks.Ghosts K} {cs : clocks.Ghosts C} {es : entropies.Ghosts E} → Front K C E G ks cs es → Parts K C E
parts_of f = record { keys = f.keys.now; clerk = f.clerk; clock = f.clock; entropy = f.entropy; failed = f.failed }

-- A front served a stream: its messages are a session over what the clerk has seen afterwards, and over each history that begins with
-- it. The clerk's own places gain those of the Done notes, and that of the change whose message got no reply; where it is alone, no
-- other change is made. Each answer that a device failed is counted by the entropy or by the clerk.
pub record IsLinkServed {K C E : Type 0} (ks : clerks.Ghosts K) (cs : clocks.Ghosts C) (es : entropies.Ghosts E) (old new : Parts K C E) (left before after : Option (List ℕ)) (faults now : ℕ) (end : SessionEnd) : Type 0 where
  pub events : List Event
  pub lost : Option Lost
  pub session : (h : History) → Begins (ks.seen new.clerk) h
      → IsSession (replier_by old.keys) (ks.seen old.clerk) h left before after faults now (readings_of events lost) (draws_of events lost) end events lost
  pub keys : new.keys ≡ old.keys
  pub grown : Begins (ks.seen old.clerk) (ks.seen new.clerk)
  pub lawful : IsLawful (clerked ks old.clerk) → IsLawful (clerked ks new.clerk)
  pub held : (clerked ks new.clerk).held ≡ (clerked ks old.clerk).held
  pub mine : ks.mine new.clerk ≡ ks.mine old.clerk ++ (done_places end.notes ++ lost_places lost)
  pub alone : IsAlone (clerked ks old.clerk) → places_since (length (ks.seen old.clerk)) (ks.seen new.clerk) ≡ done_places end.notes ++ lost_places lost
  pub clock : cs.loan new.clock ≡ cs.loan old.clock
  pub reads : GivesAll (cs.readings old.clock) (cs.readings new.clock) (readings_of events lost)
  pub entropy : es.loan new.entropy ≡ es.loan old.entropy
  pub drew : GivesAll (es.draws old.entropy) (es.draws new.entropy) (draws_of events lost)
  pub draw_faults : ℕ
  pub disk_faults : ℕ
  pub failures : count_by is_failure end.notes ≡ draw_faults + disk_faults
  pub entropy_faults : RoseBy draw_faults (es.faults old.entropy) (es.faults new.entropy)
  pub clerk_faults : RoseBy disk_faults (ks.faults old.clerk) (ks.faults new.clerk)
  pub entropy_later : es.faults old.entropy ≤ es.faults new.entropy
  pub clerk_later : ks.faults old.clerk ≤ ks.faults new.clerk
