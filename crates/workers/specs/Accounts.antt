-- The account of workers, once they are done.
use Rattle.std.specs.Prelude.{◌≡◌, ℕ, true, false, List}
use Rattle.atomic_table.specs.Seated.{TableId}
use Rattle.cmp_links.specs.declared.door.Door as doors
use Rattle.cmp_links.specs.declared.link.Link as links
use Rattle.cmp_ports.specs.Faults.{Rose}
use Rattle.cmp_ports.specs.declared.clock.Clock as clocks
use Rattle.cmp_ports.specs.declared.entropy.Entropy as entropies
use Rattle.deal_changes.specs.declared.change.Change.{Change}
use Rattle.deal_model.specs.Views.{History}
use Rattle.deal_table.specs.History.{Begins}
use Rattle.reply_maker.specs.Replies.{Replier}
use Rattle.turnstile.specs.declared.view.View.{View}
use Rattle.workers.specs.Badges.{seen_by, places_by, share_by, IsAtRest}
use Rattle.workers.specs.Stations.{AllAttended, AnyPair}
use Rattle.workers.specs.declared.account.Account.{Account}
use Rattle.workers.specs.declared.station.Station.{Station}

-- nothing went amiss: no door and no entropy failed, no memory ran out, and no disk failed under the clerk
pub record IsClean (a : Account) : Type 0 where
  pub door : a.door ≡ false
  pub entropy : a.entropy ≡ false
  pub memory : a.memory ≡ false
  pub disk : a.marks ≡ 0

-- What workers did by a badge at a turnstile, which had this view: the badge counts for as many as before and has seen more; the places
-- of its changes are those of the sessions, over what it has seen and over each history that begins with it. Where a device failed it is
-- told of one whose count of faults rose.
pub record AreAttended {S L C E G : Type 0} (ls : links.Ghosts L) (ds : doors.Ghosts S L) (cs : clocks.Ghosts C) (es : entropies.Ghosts E) (k : Replier) (table : TableId) (count : ℕ) (before : List (View Change)) (old new : List (Station S C E G)) (a : Account) : Type 0 where
  pub rests : IsAtRest table a.badge.table_id a.badge.views
  pub share : share_by a.badge.views ≡ share_by before
  pub grown : Begins (seen_by before) (seen_by a.badge.views)
  pub attended : (h : History) → Begins (seen_by a.badge.views) h → AllAttended ls ds cs es k (seen_by before) h count (IsClean a) old new (places_by a.badge.views)
  pub door : a.door ≡ true → AnyPair (λ s t. Rose (ds.faults s.door) (ds.faults t.door)) old new
  pub entropy : a.entropy ≡ true → AnyPair (λ s t. Rose (es.faults s.entropy) (es.faults t.entropy)) old new
