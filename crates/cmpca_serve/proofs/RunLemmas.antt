-- The rounds of a run as one.
use Rattle.std.proofs.Common.{◌≡◌, ℕ, ◌≤◌, min, List, [], ◌∷◌, ◌++◌, length, Option, Some, None, arith, refl, ◌∙◌, ap, sym, subst, append-nil, append_assoc}
use Rattle.std.specs.List.{AllByRecursion}
use Rattle.cmp_ports.specs.Coming.{GivesAll}
use Rattle.cmp_ports.specs.declared.order.Order.{Order}
use Rattle.cmp_ports.proofs.CountLemmas.{gives_both}
use Rattle.deal_model.specs.Views.{History}
use Rattle.deal_table.specs.History.{Begins}
use Rattle.rounds.specs.declared.round.Round.{Round}
use Rattle.rounds.specs.Deeds.{Deed, AreDeeds, IsCaughtUp, reading_of, orders_in, places_in, obeyed, unheeded}
use Rattle.rounds.specs.Rounds.{Accounts, IsAmong, IsLastRound, IsRound, IsSomeLast, IsUsedUp, TakesAll, both, has_room}
use Rattle.rounds.proofs.RoundLemmas.{accounts_follow, begins_both, loses_none, takes_both, went_on}
use Rattle.cmpca_serve.specs.Parts.{AreAll, IsNoOrder}
use Rattle.cmpca_serve.specs.Runs.{IsToldRun}
use Rattle.cmpca_serve.specs.Texts.{summary}
use Rattle.cmpca_serve.proofs.Counting.{orders_told}

used_up : {X : Type 0} (old mid new : Option (List X)) (xs : List X) → TakesAll old mid xs → IsUsedUp mid new → IsUsedUp old new
used_up None mid new xs takes used = tt
used_up (Some old) None new xs takes used = absurd takes
used_up (Some old) (Some mid) new xs takes used = used

-- the reading that is the last
the_last : (h : History) (last : List ℕ) → IsSomeLast h last → (now : ℕ) × (last ≡ now ∷ []) × IsCaughtUp h now
the_last h [] is = absurd is
the_last h (now ∷ []) is = (now, refl, is)
the_last h (now ∷ next ∷ readings) is = absurd is

exactly : (last count n : ℕ) → count ≡ min n last → n ≤ last → count ≡ n
exactly last count n is few = omega (arith, is, few)

pub told_run : (h0 seen h1 h : History) (sessions own all : List ℕ) (connections : ℕ) (o0 o1 o2 : Option (List Order)) (r0 r1 r2 : Option (ℕ → ℕ)) (first last : Round)
    → IsRound (record { seen = h0; mine = []; left = o0; coming = r0 }) (record { seen = seen; mine = own; left = o1; coming = r1 }) first
    → first.stop ≡ None
    → Begins h0 seen
    → Begins seen h1
    → IsLastRound (record { seen = h1; mine = sessions ++ own; left = o1; coming = r1 }) (record { seen = h; mine = all; left = o2; coming = r2 }) last
    → Begins h1 h
    → AreAll (length h0) (length h) all
    → IsUsedUp o1 o2
    → (both first last).stop ≡ None
    → AllByRecursion (IsNoOrder h) sessions
    → IsToldRun h0 h sessions connections o0 o2 r0 r2 (summary connections (length h) (both first last).done (both first last).refused)
told_run h0 seen h1 h sessions own all connections o0 o1 o2 r0 r1 r2 first last a on opened seen_before b after whole used over no_orders =
    let closed : Begins h0 h1 = begins_both h0 seen h1 opened seen_before in
    let begun : Begins h0 h = begins_both h0 h1 h closed after in
    let taken : List Order = a.taken ++ b.whole.taken in
    let readings : List ℕ = a.readings ++ b.whole.readings in
    let told : Accounts h0 h taken readings (a.places ++ b.whole.places) (both first last) = accounts_follow h0 seen h1 h a.taken b.whole.taken a.readings b.whole.readings a.places b.whole.places first last on seen_before after a.accounts b.whole.accounts in
    let ds : List Deed = told.deeds in
    let exact = told.exact over in
    let final = the_last h b.last (b.due (went_on last.stop (has_room first last) over).0) in
    let own_is : own ≡ a.places = a.gained in
    let each : all ≡ sessions ++ places_in ds =
    b.whole.gained
    ∙ append_assoc sessions own b.whole.places
    ∙ ap (λ (l : List ℕ). sessions ++ (l ++ b.whole.places)) own_is
    ∙ ap (λ (l : List ℕ). sessions ++ l) told.made in
    let every : AreAll (length h0) (length h) (sessions ++ places_in ds) = subst (λ (l : List ℕ). AreAll (length h0) (length h) l) each whole in
    let taken_is : taken ≡ orders_in ds = told.orders ∙ ap (λ (l : List Order). orders_in ds ++ l) (loses_none told.lost (both first last).stop over told.loses) ∙ append-nil (orders_in ds) in
    let ends : readings ≡ (a.readings ++ b.earlier) ++ final.0 ∷ [] = ap (λ (l : List ℕ). a.readings ++ l) (b.reads_last ∙ ap (λ (l : List ℕ). b.earlier ++ l) final.1) ∙ sym (append_assoc a.readings b.earlier (final.0 ∷ [])) in
    let done_is : (both first last).done ≡ obeyed ds = exactly _ (both first last).done (obeyed ds) told.obeys exact.0 in
    let refused_is : (both first last).refused ≡ unheeded ds = exactly _ (both first last).refused (unheeded ds) told.refuses exact.1 in
    record {
      gained = begun.0;
      grown = begun.1;
      deeds = ds;
      done = told.done;
      every = every;
      taken = subst (λ (l : List Order). TakesAll o0 o2 l) taken_is (takes_both o0 o1 o2 a.taken b.whole.taken a.takes b.whole.takes);
      none = used_up o0 o1 o2 a.taken a.takes used;
      readings = a.readings ++ b.earlier;
      last = final.0;
      reads = subst (λ (l : List ℕ). GivesAll r0 r2 l) ends (gives_both r0 r1 r2 a.readings b.whole.readings a.reads b.whole.reads);
      among = subst (λ (l : List ℕ). AllByRecursion (λ d. IsAmong l (reading_of d)) ds) ends told.among;
      orders = orders_told h0 begun.0 sessions (length h0) ds (subst (λ (l : History). AreAll (length h0) (length l) (sessions ++ places_in ds)) begun.1 every) (subst (λ (l : History). AllByRecursion (IsNoOrder l) sessions) begun.1 no_orders) (subst (λ (l : History). AreDeeds l (length h0) ds) begun.1 told.done);
      says = ap (λ (n : ℕ). summary connections (length h) n (both first last).refused) done_is ∙ ap (λ (n : ℕ). summary connections (length h) (obeyed ds) n) refused_is;
      due = final.2;
    }
