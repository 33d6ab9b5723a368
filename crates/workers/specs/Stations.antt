-- What workers do at their stations.
use Rattle.std.specs.Prelude.{◌≡◌, ◌⊎◌, ℕ, ◌≤◌, List, [], ◌∷◌, ◌++◌, length, map, flat_map}
use Rattle.std.specs.List.{AllByRecursion}
use Rattle.cmp_links.specs.declared.door.Door as doors
use Rattle.cmp_links.specs.declared.link.Link as links
use Rattle.cmp_ports.specs.Coming.{GivesAll}
use Rattle.cmp_ports.specs.declared.clock.Clock as clocks
use Rattle.cmp_ports.specs.declared.entropy.Entropy as entropies
use Rattle.deal_model.specs.Views.{History}
use Rattle.reply_maker.specs.Replies.{Replier}
use Rattle.workers.specs.Doors.{Served, counted_by, AddsAll, handed, readings_in, draws_in, places_in, failures_in, IsServed, IsRemembered}
use Rattle.workers.specs.declared.station.Station.{Station}

-- no memory ran out in the session, and none of its answers told that the service failed
pub record IsSound {L : Type 0} (s : Served L) : Type 0 where
  pub remembered : IsRemembered s
  pub unfailed : failures_in s ≡ 0

-- A worker served streams at its station, at most so many: the door gave them out and took them back, each with the end of its session,
-- which is one over the history h, which begins with h0. The station's clock and entropy gave what these sessions took, and the places are
-- those of their changes. Where all went well there were so many streams, and each session is sound.
pub record IsAttended {S L C E G : Type 0} (ls : links.Ghosts L) (ds : doors.Ghosts S L) (cs : clocks.Ghosts C) (es : entropies.Ghosts E) (k : Replier) (h0 h : History) (count : ℕ) (well : Type 0) (old new : Station S C E G) (places : List ℕ) : Type 0 where
  pub streams : List (Served L)
  pub most : length streams ≤ count
  pub all : well → length streams ≡ count
  pub sound : well → AllByRecursion IsSound streams
  pub accepted : ds.accepted new.door ≡ counted_by (length streams) (ds.accepted old.door)
  pub ended : ds.ended new.door ≡ counted_by (length streams) (ds.ended old.door)
  pub finished : AddsAll (ds.finished old.door) (ds.finished new.door) (map handed streams)
  pub each : AllByRecursion (IsServed ls k h0 h) streams
  pub reads : GivesAll (cs.readings old.clock) (cs.readings new.clock) (flat_map readings_in streams)
  pub drew : GivesAll (es.draws old.entropy) (es.draws new.entropy) (flat_map draws_in streams)
  pub made : places ≡ flat_map places_in streams

-- each station was attended, and the places are theirs in order
abbrev pub AllAttended : {S L C E G : Type 0} → links.Ghosts L → doors.Ghosts S L → clocks.Ghosts C → entropies.Ghosts E → Replier → History → History → ℕ → Type 0 → List (Station S C E G) → List (Station S C E G) → List ℕ → Type 0
AllAttended ls ds cs es k h0 h count well [] [] places = places ≡ []
AllAttended ls ds cs es k h0 h count well [] (t ∷ ts) places = ⊥
AllAttended ls ds cs es k h0 h count well (s ∷ ss) [] places = ⊥
AllAttended ls ds cs es k h0 h count well (s ∷ ss) (t ∷ ts) places = (own : List ℕ) × (more : List ℕ) × (places ≡ own ++ more) × IsAttended ls ds cs es k h0 h count well s t own × AllAttended ls ds cs es k h0 h count well ss ts more

-- it holds of some pair
abbrev pub AnyPair : {X : Type 0} → (X → X → Type 0) → List X → List X → Type 0
AnyPair P [] ts = ⊥
AnyPair P (s ∷ ss) [] = ⊥
AnyPair P (s ∷ ss) (t ∷ ts) = P s t ⊎ AnyPair P ss ts
