-- What was done behind a turnstile, told of the history that the last seat has seen.
use Rattle.std.proofs.Common.{◌≡◌, ℕ, ◌*◌, List, [], ◌∷◌, ◌++◌, length, Option, None, ◌∙◌, ap, sym, subst}
use Rattle.std.specs.Prelude.{Result, Ok, Err, IfOk}
use Rattle.std.specs.List.{AllByRecursion}
use Rattle.atomic_table.specs.Seated.{TableId}
use Rattle.cmp_links.specs.declared.door.Door as doors
use Rattle.cmp_links.specs.declared.link.Link as links
use Rattle.cmp_ports.specs.declared.clock.Clock as clocks
use Rattle.cmp_ports.specs.declared.entropy.Entropy as entropies
use Rattle.cmp_ports.specs.declared.order.Order.{Order}
use Rattle.deal_changes.specs.declared.change.Change.{Change}
use Rattle.deal_model.specs.Views.{History}
use Rattle.deal_table.specs.History.{Begins}
use Rattle.deal_table.specs.Laws.{MakesTheStamped}
use Rattle.reply_maker.specs.Replies.{Replier}
use Rattle.rounds.specs.declared.round.Round.{Round}
use Rattle.rounds.specs.Rounds.{IsLastRound, IsRound, both}
use Rattle.rounds.proofs.RoundLemmas.{begins_both}
use Rattle.turnstile.specs.declared.view.View.{View}
use Rattle.turnstile.specs.Views.{one_less, one_more}
use Rattle.workers.specs.Accounts.{IsClean, AreAttended}
use Rattle.workers.specs.Badges.{seen_by, places_by}
use Rattle.workers.specs.Stations.{AllAttended}
use Rattle.workers.specs.Upkeeps.{sight_by, IsKeptUp}
use Rattle.workers.specs.declared.account.Account.{Account}
use Rattle.workers.specs.declared.station.Station.{Station}
use Rattle.workers.specs.declared.upkeep.Upkeep.{Upkeep}
use Rattle.cmpca_serve.specs.Closings.{IsClosing}
use Rattle.cmpca_serve.specs.Parts.{IsNoOrder}
use Rattle.cmpca_serve.specs.Runs.{IsToldRun}
use Rattle.cmpca_serve.specs.Serving.{IsServedBehind}
use Rattle.cmpca_serve.specs.Texts.{summary}
use Rattle.cmpca_serve.specs.declared.words.ServePlan.{ServePlan}
use Rattle.cmpca_serve.proofs.RunLemmas.{told_run}
use Rattle.cmpca_serve.proofs.Workers.{all_well, attended_no_order}

-- what holds of an answer of this kind
pub all_ok : {T E : Type 0} (P Q : T → Type 0) (r : Result T E) → ((x : T) → P x → Q x) → IfOk r P → IfOk r Q
all_ok P Q (Ok x) each p = each x p
all_ok P Q (Err e) each p = tt

-- ---- what was served

module _ {S L C E G : Type 0} (ls : links.Ghosts L) (ds : doors.Ghosts S L) (cs : clocks.Ghosts C) (es : entropies.Ghosts E) where
  pub served_behind : MakesTheStamped → (k by : Replier) (table at : TableId) (count : ℕ) (plan : ServePlan) (whole : View Change) (own rest : List (View Change)) (old new : List (Station S C E G)) (a : Account) (u : Upkeep) (v : View Change) (round : Round)
      (left mid after : Option (List Order)) (coming then later : Option (ℕ → ℕ))
      → whole.mine ≡ [] → own ≡ one_more whole ∷ [] → rest ≡ one_less whole ∷ []
      → by ≡ k → count ≡ plan.connections
      → AreAttended ls ds cs es by table count rest old new a
      → IsKeptUp at own left mid coming then u
      → IsClosing a u v round mid after then later
      → IsServedBehind ls ds cs es k whole.seen v round plan old new left after coming later
  served_behind law k by table at count plan whole own rest old new a u v round left mid after coming then later unused own_is rest_is same few made kept c =
      let attended : AreAttended ls ds cs es k table plan.connections rest old new a =
      subst (λ (n : ℕ). AreAttended ls ds cs es k table n rest old new a) few (subst (λ (r : Replier). AreAttended ls ds cs es r table count rest old new a) same made) in
      let h0 : History = whole.seen in
      let places : List ℕ = places_by a.badge.views in
      let total : ℕ = plan.workers * plan.connections in
      let rest_seen : seen_by rest ≡ h0 = ap seen_by rest_is in
      let own_seen : seen_by own ≡ h0 = ap seen_by own_is in
      let last_grown : Begins c.old.seen v.seen = c.closed.grown in
      let seen_before : Begins (seen_by a.badge.views) v.seen = begins_both (seen_by a.badge.views) c.old.seen v.seen c.served last_grown in
      let every : AllAttended ls ds cs es k h0 v.seen plan.connections (IsClean a) old new places =
      subst (λ (h : History). AllAttended ls ds cs es k h v.seen plan.connections (IsClean a) old new places) rest_seen (attended.attended v.seen seen_before) in
      let none : AllByRecursion (IsNoOrder v.seen) places = attended_no_order law ls ds cs es k h0 v.seen plan.connections (IsClean a) old new places every in
      let first : IsRound (record { seen = h0; mine = []; left = left; coming = coming }) (sight_by u.badge.views mid then) u.round =
      subst (λ (l : List (View Change)). IsRound (sight_by l left coming) (sight_by u.badge.views mid then) u.round) own_is kept.round in
      let opened : Begins h0 (seen_by u.badge.views) = subst (λ (h : History). Begins h (seen_by u.badge.views)) own_seen kept.grown in
      let ended : IsLastRound (record { seen = c.old.seen; mine = places ++ places_by u.badge.views; left = mid; coming = then }) (record { seen = v.seen; mine = v.mine; left = after; coming = later }) c.closed.last =
      subst (λ (l : List ℕ). IsLastRound (record { seen = c.old.seen; mine = l; left = mid; coming = then }) (record { seen = v.seen; mine = v.mine; left = after; coming = later }) c.closed.last) c.places c.closed.made in
      let over : (both u.round c.closed.last).stop ≡ None = ap (λ (r : Round). r.stop) (sym c.closed.whole) ∙ c.closed.over in
      record {
        places = places;
        workers = all_well ls ds cs es k h0 v.seen plan.connections (IsClean a) old new places c.clean every;
        told = λ all. subst (λ (r : Round). IsToldRun h0 v.seen places total left after coming later (summary total (length v.seen) r.done r.refused)) (sym c.closed.whole)
            (told_run h0 (seen_by u.badge.views) c.old.seen v.seen places (places_by u.badge.views) v.mine total left mid after coming then later u.round c.closed.last first c.whole opened c.kept ended last_grown all c.closed.none over none);
      }
