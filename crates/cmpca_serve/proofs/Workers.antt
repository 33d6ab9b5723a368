-- What workers make, and that all went well.
use Rattle.std.proofs.Common.{ℕ, List, [], ◌∷◌, sym, subst}
use Rattle.std.specs.Prelude.{flat_map}
use Rattle.std.specs.List.{AllByRecursion}
use Rattle.cmp_links.specs.declared.door.Door as doors
use Rattle.cmp_links.specs.declared.link.Link as links
use Rattle.cmp_ports.specs.declared.clock.Clock as clocks
use Rattle.cmp_ports.specs.declared.entropy.Entropy as entropies
use Rattle.deal_model.specs.Views.{History}
use Rattle.deal_table.specs.Laws.{MakesTheStamped}
use Rattle.reply_maker.specs.Replies.{Replier}
use Rattle.rounds.proofs.Lists.{all_append}
use Rattle.workers.specs.Doors.{Served, IsServed, places_in}
use Rattle.workers.specs.Stations.{AllAttended}
use Rattle.workers.specs.declared.station.Station.{Station}
use Rattle.cmpca_serve.specs.Parts.{IsNoOrder}
use Rattle.cmpca_serve.proofs.Sessions.{session_no_order}

streams_no_order : {L : Type 0} → MakesTheStamped → (ls : links.Ghosts L) (k : Replier) (h0 h : History) (streams : List (Served L)) → AllByRecursion (IsServed ls k h0 h) streams → AllByRecursion (IsNoOrder h) (flat_map places_in streams)
streams_no_order law ls k h0 h [] all = tt
streams_no_order law ls k h0 h (s ∷ ss) all =
    all_append (IsNoOrder h) (places_in s) (flat_map places_in ss)
    (session_no_order law k h0 h _ _ _ _ _ _ _ s.end s.events s.lost all.0.session)
    (streams_no_order law ls k h0 h ss all.1)

-- none of the changes that workers made is an order
pub attended_no_order : {S L C E G : Type 0} → MakesTheStamped → (ls : links.Ghosts L) (ds : doors.Ghosts S L) (cs : clocks.Ghosts C) (es : entropies.Ghosts E) (k : Replier) (h0 h : History) (count : ℕ) (well : Type 0) (old new : List (Station S C E G)) (places : List ℕ)
    → AllAttended ls ds cs es k h0 h count well old new places → AllByRecursion (IsNoOrder h) places
attended_no_order law ls ds cs es k h0 h count well [] [] places all = subst (λ (l : List ℕ). AllByRecursion (IsNoOrder h) l) (sym all) tt
attended_no_order law ls ds cs es k h0 h count well [] (t ∷ ts) places all = absurd all
attended_no_order law ls ds cs es k h0 h count well (s ∷ ss) [] places all = absurd all
attended_no_order law ls ds cs es k h0 h count well (s ∷ ss) (t ∷ ts) places all =
    subst (λ (l : List ℕ). AllByRecursion (IsNoOrder h) l) (sym all.2)
    (all_append (IsNoOrder h) all.0 all.1
    (subst (λ (l : List ℕ). AllByRecursion (IsNoOrder h) l) (sym all.3.made) (streams_no_order law ls k h0 h all.3.streams all.3.each))
    (attended_no_order law ls ds cs es k h0 h count well ss ts all.1 all.4))

-- where all went well, so it did for each
pub all_well : {S L C E G : Type 0} (ls : links.Ghosts L) (ds : doors.Ghosts S L) (cs : clocks.Ghosts C) (es : entropies.Ghosts E) (k : Replier) (h0 h : History) (count : ℕ) (well : Type 0) (old new : List (Station S C E G)) (places : List ℕ)
    → well → AllAttended ls ds cs es k h0 h count well old new places → AllAttended ls ds cs es k h0 h count (Unit {0}) old new places
all_well ls ds cs es k h0 h count well [] [] places went all = all
all_well ls ds cs es k h0 h count well [] (t ∷ ts) places went all = absurd all
all_well ls ds cs es k h0 h count well (s ∷ ss) [] places went all = absurd all
all_well ls ds cs es k h0 h count well (s ∷ ss) (t ∷ ts) places went all =
    let a = all.3 in (
      all.0,
      all.1,
      all.2,
      record { streams = a.streams; most = a.most; all = λ _. a.all went; sound = λ _. a.sound went; accepted = a.accepted; ended = a.ended; finished = a.finished; each = a.each; reads = a.reads; drew = a.drew; made = a.made },
      all_well ls ds cs es k h0 h count well ss ts all.1 went all.4,
    )
