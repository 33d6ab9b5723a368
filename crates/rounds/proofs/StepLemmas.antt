-- What one order or one call for a lapse adds to a round.
use Rattle.std.proofs.Common.{◌≡◌, ℕ, ◌+◌, ◌-◌, ◌<◌, ◌≤◌, false, List, [], ◌∷◌, ◌++◌, length, take, map, Option, Some, None, Ok, Err, arith, refl, ◌∙◌, ap, sym, subst, inl, inr, length-append, append-nil, append_assoc}
use Rattle.std.specs.Prelude.{is_some}
use Rattle.std.specs.List.{AllByRecursion}
use Rattle.std.proofs.lemmas.Grind.{flat_map-append}
use Rattle.std.proofs.lemmas.List.{map-append, take-append-le}
use Rattle.cmp_ports.specs.Coming.{Gives, GivesAll, Takes}
use Rattle.cmp_ports.specs.declared.order.Order.{Order}
use Rattle.cmp_ports.proofs.CountLemmas.{gives_one, gives_none, gives_both}
use Rattle.deal_changes.specs.declared.change.Change.{Change}
use Rattle.deal_changes.specs.declared.change.Change.TheVariants.{Lapse}
use Rattle.deal_model.specs.Views.{History}
use Rattle.deal_table.specs.History.{Begins}
use Rattle.desk.specs.declared.answers.Lapsed.{Lapsed}
use Rattle.desk.specs.declared.answers.Lapsed.TheVariants as lapsed
use Rattle.desk.specs.declared.answers.Ordered.{Ordered}
use Rattle.desk.specs.declared.answers.Ordered.TheVariants as ordered
use Rattle.desk.specs.Due.{event_time, IsLapse}
use Rattle.desk.specs.Calls.{IsLapsed}
use Rattle.desk.specs.Clerks.{lapsed_place, ordered_place, IsLapsedSince, IsOrderedSince}
use Rattle.rounds.specs.declared.round.Round.{Round}
use Rattle.rounds.specs.declared.round.Stop.{Stop}
use Rattle.rounds.specs.declared.round.Stop.TheVariants.{DiskFault, NoMemory}
use Rattle.rounds.specs.Deeds as deeds
use Rattle.rounds.specs.Deeds.{Deed, before_of, after_of, reading_of, order_in, orders_in, place_in, places_in, obeyed, unheeded, IsMade, IsVain, Obeys, IsDeed, AreDeeds, IsCaughtUp}
use Rattle.desk.specs.declared.clerk.Clerk.{Ghosts}
use Rattle.rounds.specs.Stays.{Stays}
use Rattle.rounds.specs.Rounds.{stopped, both, order_round, lapse_round, TakesAll, IsUsedUp, IsAmong, lone, MayLose, Accounts, Sight, IsOrderRound, IsLapseRound, IsLapsing}
use Rattle.rounds.proofs.Lists.{get_seam, all_append, all_weaker}
use Rattle.rounds.proofs.DeedLemmas.{deeds_later, deeds_joined}
use Rattle.rounds.proofs.RoundLemmas.{takes_none, takes_both, loses_none, begins_both, begins_itself, begins_longer, nothing_done, round_follows}

-- ---- one change

take_all : (h : History) → take (length h) h ≡ h
take_all [] = refl
take_all (c ∷ h) = ap (λ (l : History). c ∷ l) (take_all h)

take_seam : (h : History) (c : Change) → take (length h) (h ++ c ∷ []) ≡ h
take_seam h c = take-append-le (length h) h (c ∷ []) (omega arith) ∙ take_all h

long_by_one : (h g : History) (c : Change) → g ≡ h ++ c ∷ [] → length g ≡ length h + 1
long_by_one h g c grown = ap (λ (l : History). length l) grown ∙ length-append h (c ∷ [])

-- the change that was added is such a one over the history before
pub made_at_end : (h g : History) (c : Change) (Own : History → Change → Type 0) → g ≡ h ++ c ∷ [] → Own h c → IsMade g (length h) Own
made_at_end h g c Own grown own =
    subst (λ (x : History). IsMade x (length h) Own) (sym grown) (c, get_seam h [] c, subst (λ (x : History). Own x c) (sym (take_seam h c)) own)

-- one deed
one_deed : (h0 h g : History) (d : Deed) → Begins h0 h → before_of d ≡ length h → after_of d ≡ length g → IsDeed g d → AreDeeds g (length h0) (d ∷ [])
one_deed h0 h g d begun start end deed = (omega (arith, begins_longer h0 h begun, start), deed, omega (arith, end))

-- ---- one order

-- an order with its deed
abbrev pub settled : (h0 g : History) (order : Order) (now : ℕ) (round : Round) (d : Deed) → AreDeeds g (length h0) (d ∷ []) → order_in d ≡ order ∷ [] → reading_of d ≡ now → round.done ≡ obeyed (d ∷ []) → round.refused ≡ unheeded (d ∷ []) → obeyed (d ∷ []) ≤ 1 → unheeded (d ∷ []) ≤ 1 → Accounts h0 g (order ∷ []) (now ∷ []) (place_in d) round
settled h0 g order now round d done about read counts fewer few less =
    record {
      deeds = d ∷ [];
      done = done;
      made = sym (append-nil (place_in d));
      lost = None;
      orders = sym about ∙ sym (append-nil (order_in d)) ∙ sym (append-nil (order_in d ++ []));
      loses = tt;
      among = ((0, ap (λ (n : ℕ). Some n) (sym read)), tt);
      obeys = omega (arith, counts, few);
      refuses = omega (arith, fewer, less);
      exact = λ _. (omega (arith, few), omega (arith, less));
    }

went : (old new : Sight) (order : Order) (now : ℕ) (round : Round) (d : Deed) → TakesAll old.left new.left (order ∷ []) → Gives old.coming new.coming now → AreDeeds new.seen (length old.seen) (d ∷ []) → order_in d ≡ order ∷ [] → reading_of d ≡ now → round.done ≡ obeyed (d ∷ []) → round.refused ≡ unheeded (d ∷ []) → obeyed (d ∷ []) ≤ 1 → unheeded (d ∷ []) ≤ 1 → new.mine ≡ old.mine ++ place_in d → IsOrderRound old new round
went old new order now round d takes gives done about read counts fewer few less gained =
    record {
      whole = record {
        taken = order ∷ [];
        takes = takes;
        readings = now ∷ [];
        reads = gives_one old.coming new.coming now gives;
        places = place_in d;
        gained = gained;
        accounts = settled old.seen new.seen order now round d done about read counts fewer few less;
      };
      alone = ap (λ (l : List Order). length (l ++ [])) about;
      more = [];
      each = ap (λ (n : ℕ). n ∷ []) (sym read);
      once = refl;
    }

lost_one : (old new : Sight) (order : Order) (now : ℕ) (stop : Stop) → MayLose (Some order) (Some stop) → TakesAll old.left new.left (order ∷ []) → Gives old.coming new.coming now → length old.seen ≤ length new.seen → new.mine ≡ old.mine ++ [] → IsOrderRound old new (stopped stop)
lost_one old new order now stop may takes gives longer gained =
    record {
      whole = record {
        taken = order ∷ [];
        takes = takes;
        readings = now ∷ [];
        reads = gives_one old.coming new.coming now gives;
        places = [];
        gained = gained;
        accounts = record {
          deeds = [];
          done = longer;
          made = refl;
          lost = Some order;
          orders = refl;
          loses = may;
          among = tt;
          obeys = omega arith;
          refuses = omega arith;
          exact = λ over. absurd (cc over);
        };
      };
      alone = refl;
      more = now ∷ [];
      each = refl;
      once = refl;
    }

vain_still : (h g : History) (order : Order) (now : ℕ) → g ≡ h → IsVain h order now → IsVain (take (length h) g) order now
vain_still h g order now same vain = subst (λ (x : History). IsVain x order now) (sym (ap (λ (x : History). take (length h) x) same ∙ take_all h)) vain

no_shorter : (h0 h g : History) → Begins h0 h → g ≡ h → length h0 ≤ length g
no_shorter h0 h g begun same = omega (arith, begins_longer h0 h begun, ap (λ (l : History). length l) same)

unheeded_one : (old new : Sight) (h : History) (order : Order) (now : ℕ) → TakesAll old.left new.left (order ∷ []) → Gives old.coming new.coming now → Begins old.seen h → new.seen ≡ h → IsVain h order now → new.mine ≡ old.mine ++ [] → IsOrderRound old new (record { done = 0; refused = 1; stop = None })
unheeded_one old new h order now takes gives begun same vain gained =
    let d : Deed = deeds.Unheeded order (length h) now in
    went old new order now (record { done = 0; refused = 1; stop = None }) d takes gives
    (one_deed old.seen h new.seen d begun refl (ap (λ (l : History). length l) (sym same)) (vain_still h new.seen order now same vain))
    refl refl refl refl (omega arith) (omega arith) gained

obeyed_one : (old new : Sight) (h : History) (c : Change) (order : Order) (now place : ℕ) → TakesAll old.left new.left (order ∷ []) → Gives old.coming new.coming now → Begins old.seen h → new.seen ≡ h ++ c ∷ [] → Obeys order now h c → place ≡ length new.seen → new.mine ≡ old.mine ++ place ∷ [] → IsOrderRound old new (record { done = 1; refused = 0; stop = None })
obeyed_one old new h c order now place takes gives begun grown own there gained =
    let d : Deed = deeds.Obeyed order (length h) now in
    let long : length new.seen ≡ length h + 1 = long_by_one h new.seen c grown in
    went old new order now (record { done = 1; refused = 0; stop = None }) d takes gives
    (one_deed old.seen h new.seen d begun refl (sym long) (made_at_end h new.seen c (Obeys order now) grown own))
    refl refl refl refl (omega arith) (omega arith) (gained ∙ ap (λ (n : ℕ). old.mine ++ n ∷ []) (there ∙ long))

-- the call of an order is a round of one order
pub ordered_round : (old new : Sight) (order : Order) (now : ℕ) (end : Ordered) → TakesAll old.left new.left (order ∷ []) → Gives old.coming new.coming now → IsOrderedSince old.seen new.seen order now end → new.mine ≡ old.mine ++ ordered_place end → IsOrderRound old new (order_round end)
ordered_round old new order now (ordered.Done place) takes gives f gained = obeyed_one old new f.before f.ordered.0.1.0 order now place takes gives f.begun f.ordered.0.1.2.1 (f.ordered.0.0, f.ordered.0.1.1) f.ordered.1 gained
ordered_round old new order now ordered.NotHeld takes gives f gained = unheeded_one old new f.before order now takes gives f.begun f.ordered.1.0 (inl f.ordered.0) gained
ordered_round old new order now ordered.Full takes gives f gained = unheeded_one old new f.before order now takes gives f.begun f.ordered.1.2.1 (inr (f.ordered.1.0, f.ordered.1.1, f.ordered.1.2.0)) gained
ordered_round old new order now ordered.DiskFault takes gives f gained = lost_one old new order now DiskFault tt takes gives (no_shorter old.seen f.before new.seen f.begun f.ordered.1.2.0) gained
ordered_round old new order now ordered.NoMemory takes gives f gained = lost_one old new order now NoMemory tt takes gives (no_shorter old.seen f.before new.seen f.begun f.ordered.0) gained

-- ---- orders one after the other

empty_of_none : {X Y : Type 0} (xs : List X) (ys : List Y) → length xs ≡ length ys → ys ≡ [] → xs ≡ []
empty_of_none [] ys same none = refl
empty_of_none (x ∷ xs) ys same none = absurd (omega (arith, same, ap (λ (l : List _). length l) none))

pub orders_follow : (old mid new : Sight) (a b : Round) → a.stop ≡ None → Begins mid.seen new.seen → IsOrderRound old mid a → IsOrderRound mid new b → IsOrderRound old new (both a b)
orders_follow old mid new a b on grown first second =
    let ds : List Deed = first.whole.accounts.deeds in
    let es : List Deed = second.whole.accounts.deeds in
    let none : first.more ≡ [] = empty_of_none first.more (lone first.whole.accounts.lost) first.once (loses_none first.whole.accounts.lost a.stop on first.whole.accounts.loses) in
    record {
      whole = round_follows old mid new a b on grown first.whole second.whole;
      alone = omega (arith, ap (λ (l : List Order). length l) (flat_map-append order_in ds es), length-append (orders_in ds) (orders_in es), length-append ds es, first.alone, second.alone);
      more = second.more;
      each = ap (λ (l : List ℕ). l ++ second.whole.readings) (first.each ∙ ap (λ (l : List ℕ). map reading_of ds ++ l) none ∙ append-nil (map reading_of ds))
          ∙ ap (λ (l : List ℕ). map reading_of ds ++ l) second.each
          ∙ sym (append_assoc (map reading_of ds) (map reading_of es) second.more)
          ∙ ap (λ (l : List ℕ). l ++ second.more) (sym (map-append reading_of ds es));
      once = second.once;
    }

-- nothing was done
pub nothing_ordered : (h : History) (mine : List ℕ) (before after : Option (List Order)) (coming : Option (ℕ → ℕ)) (round : Round) → round.done ≡ 0 → round.refused ≡ 0 → TakesAll before after [] → IsOrderRound (record { seen = h; mine = mine; left = before; coming = coming }) (record { seen = h; mine = mine; left = after; coming = coming }) round
nothing_ordered h mine before after coming round none fewer takes =
    record {
      whole = nothing_done h mine before after coming round none fewer takes;
      alone = refl;
      more = [];
      each = refl;
      once = refl;
    }

-- a call that takes no order changes nothing
pub takes_no_more : (old : Sight) (h : History) (mine : List ℕ) (before after : Option (List Order)) (coming : Option (ℕ → ℕ)) (a : Round) → IsOrderRound old (record { seen = h; mine = mine; left = before; coming = coming }) a → TakesAll before after [] → IsOrderRound old (record { seen = h; mine = mine; left = after; coming = coming }) a
takes_no_more old h mine before after coming a first none =
    record {
      whole = record {
        taken = first.whole.taken;
        takes = subst (λ (l : List Order). TakesAll old.left after l) (append-nil first.whole.taken) (takes_both old.left before after first.whole.taken [] first.whole.takes none);
        readings = first.whole.readings;
        reads = first.whole.reads;
        places = first.whole.places;
        gained = first.whole.gained;
        accounts = first.whole.accounts;
      };
      alone = first.alone;
      more = first.more;
      each = first.each;
      once = first.once;
    }

pub takes_one : {X : Type 0} (E : Type 0) (old new : Option (List X)) (x : X) → Takes {E = E} old new (Ok (Some x)) → TakesAll old new (x ∷ [])
takes_one E None new x takes = tt
takes_one E (Some old) None x takes = absurd takes
takes_one E (Some old) (Some new) x takes = takes

pub takes_end : {X : Type 0} (E : Type 0) (old new : Option (List X)) → Takes {E = E} old new (Ok None) → TakesAll old new []
takes_end E None new takes = tt
takes_end E (Some old) None takes = absurd takes
takes_end E (Some old) (Some new) takes = takes.0 ∙ sym takes.1

pub takes_failed : {X E : Type 0} (old new : Option (List X)) (e : E) → Takes old new (Err e) → TakesAll old new []
takes_failed None new e takes = tt
takes_failed (Some old) None e takes = absurd takes
takes_failed (Some old) (Some new) e takes = sym takes

pub used_up : {X : Type 0} (E : Type 0) (old mid new : Option (List X)) (xs : List X) → TakesAll old mid xs → Takes {E = E} mid new (Ok None) → IsUsedUp old new
used_up E None mid new xs first last = tt
used_up E (Some old) None new xs first last = absurd first
used_up E (Some old) (Some mid) None xs first last = absurd last
used_up E (Some old) (Some mid) (Some new) xs first last = ap (λ (l : List _). Some l) last.1

-- ---- what stays

pub stays_itself : {K : Type 0} (g : Ghosts K) (k : K) → Stays g k k
stays_itself g k = record { grown = begins_itself (g.seen k); lawful = λ was. was; loan = refl; disk = refl; table = refl; share = refl; later = omega arith; alone = λ _. refl }

pub stays_both : {K : Type 0} (g : Ghosts K) (old mid new : K) → Stays g old mid → Stays g mid new → Stays g old new
stays_both g old mid new first second =
    record {
      grown = begins_both (g.seen old) (g.seen mid) (g.seen new) first.grown second.grown;
      lawful = λ was. second.lawful (first.lawful was);
      loan = second.loan ∙ first.loan;
      disk = second.disk ∙ first.disk;
      table = second.table ∙ first.table;
      share = second.share ∙ first.share;
      later = omega (arith, first.later, second.later);
      alone = λ none. omega (arith, first.alone none, second.alone (first.table ∙ none));
    }

-- a clerk that has its history to itself gains what it adds
pub lapsed_alone : (h g : History) (d e : Option Change) (time : ℕ) (end : Lapsed) (m n : List ℕ) → IsLapsed h d time end g e → n ≡ m ++ lapsed_place end → length g + length m ≡ length h + length n
lapsed_alone h g d e time (lapsed.Done place tid) m n f gained = omega (arith, long_by_one h g (Lapse time tid) f.1.1, ap (λ (l : List ℕ). length l) gained, length-append m (place ∷ []))
lapsed_alone h g d e time lapsed.Nothing m n f gained = omega (arith, ap (λ (l : History). length l) f.1.0, ap (λ (l : List ℕ). length l) gained, length-append m [])
lapsed_alone h g d e time lapsed.Full m n f gained = omega (arith, ap (λ (l : History). length l) f.2.1, ap (λ (l : List ℕ). length l) gained, length-append m [])
lapsed_alone h g d e time lapsed.DiskFault m n f gained = omega (arith, ap (λ (l : History). length l) f.2.0, ap (λ (l : List ℕ). length l) gained, length-append m [])
lapsed_alone h g d e time lapsed.NoMemory m n f gained = omega (arith, ap (λ (l : History). length l) f.0, ap (λ (l : List ℕ). length l) gained, length-append m [])

pub on_still : {X : Type 0} (stop : Option X) → is_some stop ≡ false → stop ≡ None
on_still None is = refl
on_still (Some stop) is = absurd (cc is)

-- a call that lapsed one didn't fail
pub no_fault : (end : Lapsed) → lapse_round end ≡ None → end ≡ lapsed.DiskFault → ⊥
no_fault end on failed = cc (ap (λ (l : Lapsed). lapse_round l) (sym failed) ∙ on)

-- ---- lapses

-- the deeds of a round of lapses
abbrev pub IsOfLapse : Deed → Type 0
IsOfLapse (deeds.Lapsed n now) = Unit {0}
IsOfLapse (deeds.Obeyed order n now) = ⊥
IsOfLapse (deeds.Unheeded order n now) = ⊥

-- what has lapsed so far
pub record LapsesSoFar (h0 h : History) (m0 m : List ℕ) (ds : List Deed) : Type 0 where
  pub done : AreDeeds h (length h0) ds
  pub each : AllByRecursion IsOfLapse ds
  pub gained : m ≡ m0 ++ places_in ds

-- by the readings of a clock
pub record DueSoFar (h0 h : History) (m0 m : List ℕ) (r0 r : Option (ℕ → ℕ)) : Type 0 where
  pub ds : List Deed
  pub so_far : LapsesSoFar h0 h m0 m ds
  pub reads : GivesAll r0 r (map reading_of ds)

-- by one reading
pub record AllSoFar (h0 h : History) (m0 m : List ℕ) (now : ℕ) : Type 0 where
  pub ds : List Deed
  pub so_far : LapsesSoFar h0 h m0 m ds
  pub by : AllByRecursion (λ d. reading_of d ≡ now) ds

no_lapses : (h : History) (m : List ℕ) → LapsesSoFar h h m m []
no_lapses h m = record { done = omega arith; each = tt; gained = sym (append-nil m) }

pub due_none : (h : History) (m : List ℕ) (r : Option (ℕ → ℕ)) → DueSoFar h h m m r r
due_none h m r = record { ds = []; so_far = no_lapses h m; reads = gives_none r }

pub all_none : (h : History) (m : List ℕ) (now : ℕ) → AllSoFar h h m m now
all_none h m now = record { ds = []; so_far = no_lapses h m; by = tt }

pub no_orders : (ds : List Deed) → AllByRecursion IsOfLapse ds → orders_in ds ≡ []
no_orders [] each = refl
no_orders (deeds.Lapsed n now ∷ ds) each = no_orders ds each.1
no_orders (deeds.Obeyed order n now ∷ ds) each = absurd each.0
no_orders (deeds.Unheeded order n now ∷ ds) each = absurd each.0

pub none_obeyed : (ds : List Deed) → AllByRecursion IsOfLapse ds → (obeyed ds ≡ 0) × (unheeded ds ≡ 0)
none_obeyed [] each = (refl, refl)
none_obeyed (deeds.Lapsed n now ∷ ds) each = none_obeyed ds each.1
none_obeyed (deeds.Obeyed order n now ∷ ds) each = absurd each.0
none_obeyed (deeds.Unheeded order n now ∷ ds) each = absurd each.0

lapses_more : (h0 h g : History) (m0 m n : List ℕ) (ds : List Deed) (now place : ℕ) (tid : List ℕ) → LapsesSoFar h0 h m0 m ds → (f : IsLapsedSince h g now (lapsed.Done place tid)) → n ≡ m ++ place ∷ [] → LapsesSoFar h0 g m0 n (ds ++ deeds.Lapsed (length f.before) now ∷ [])
lapses_more h0 h g m0 m n ds now place tid so_far f gained =
    let d : Deed = deeds.Lapsed (length f.before) now in
    let c : Change = Lapse (event_time f.before now) tid in
    let grown : g ≡ f.before ++ c ∷ [] = f.lapsed.1.1 in
    let long : length g ≡ length f.before + 1 = long_by_one f.before g c grown in
    let place_is : place ≡ length f.before + 1 = f.lapsed.2 ∙ long in
    let made : IsDeed g d = made_at_end f.before g c (λ x y. IsLapse x (event_time x now) y) grown (tid, f.lapsed.0, refl) in
    record {
      done = deeds_joined h g (length h0) (length h) ds (d ∷ []) so_far.done (begins_both h f.before g f.begun (c ∷ [], grown)) (omega arith) (one_deed h f.before g d f.begun refl (sym long) made);
      each = all_append IsOfLapse ds (d ∷ []) so_far.each (tt, tt);
      gained = gained ∙ ap (λ (l : List ℕ). l ++ place ∷ []) so_far.gained ∙ append_assoc m0 (places_in ds) (place ∷ [])
          ∙ ap (λ (k : ℕ). m0 ++ (places_in ds ++ k ∷ [])) place_is ∙ ap (λ (l : List ℕ). m0 ++ l) (sym (flat_map-append place_in ds (d ∷ [])));
    }

pub due_more : (h0 h g : History) (m0 m n : List ℕ) (r0 r s : Option (ℕ → ℕ)) (now : ℕ) (end : Lapsed) → DueSoFar h0 h m0 m r0 r → Gives r s now → IsLapsedSince h g now end → n ≡ m ++ lapsed_place end → lapse_round end ≡ None → DueSoFar h0 g m0 n r0 s
due_more h0 h g m0 m n r0 r s now (lapsed.Done place tid) so_far gives f gained on =
    let d : Deed = deeds.Lapsed (length f.before) now in
    record {
      ds = so_far.ds ++ d ∷ [];
      so_far = lapses_more h0 h g m0 m n so_far.ds now place tid so_far.so_far f gained;
      reads = subst (λ (l : List ℕ). GivesAll r0 s l) (sym (map-append reading_of so_far.ds (d ∷ []))) (gives_both r0 r s (map reading_of so_far.ds) (now ∷ []) so_far.reads (gives_one r s now gives));
    }
due_more h0 h g m0 m n r0 r s now lapsed.Nothing so_far gives f gained on = absurd (cc on)
due_more h0 h g m0 m n r0 r s now lapsed.Full so_far gives f gained on = absurd (cc on)
due_more h0 h g m0 m n r0 r s now lapsed.DiskFault so_far gives f gained on = absurd (cc on)
due_more h0 h g m0 m n r0 r s now lapsed.NoMemory so_far gives f gained on = absurd (cc on)

pub all_more : (h0 h g : History) (m0 m n : List ℕ) (now : ℕ) (end : Lapsed) → AllSoFar h0 h m0 m now → IsLapsedSince h g now end → n ≡ m ++ lapsed_place end → lapse_round end ≡ None → AllSoFar h0 g m0 n now
all_more h0 h g m0 m n now (lapsed.Done place tid) so_far f gained on =
    let d : Deed = deeds.Lapsed (length f.before) now in
    record {
      ds = so_far.ds ++ d ∷ [];
      so_far = lapses_more h0 h g m0 m n so_far.ds now place tid so_far.so_far f gained;
      by = all_append (λ e. reading_of e ≡ now) so_far.ds (d ∷ []) so_far.by (refl, tt);
    }
all_more h0 h g m0 m n now lapsed.Nothing so_far f gained on = absurd (cc on)
all_more h0 h g m0 m n now lapsed.Full so_far f gained on = absurd (cc on)
all_more h0 h g m0 m n now lapsed.DiskFault so_far f gained on = absurd (cc on)
all_more h0 h g m0 m n now lapsed.NoMemory so_far f gained on = absurd (cc on)

-- a history has at most 262,144 changes, so that lapses end
pub lapse_shrinks : (h g : History) (now : ℕ) (end : Lapsed) → IsLapsedSince h g now end → lapse_round end ≡ None → 262144 - length g < 262144 - length h
lapse_shrinks h g now (lapsed.Done place tid) f on =
    let long : length g ≡ length f.before + 1 = long_by_one f.before g (Lapse (event_time f.before now) tid) f.lapsed.1.1 in
    let room : length f.before < 262144 = f.lapsed.1.0.room in
    omega (arith, long, room, begins_longer h f.before f.begun)
lapse_shrinks h g now lapsed.Nothing f on = absurd (cc on)
lapse_shrinks h g now lapsed.Full f on = absurd (cc on)
lapse_shrinks h g now lapsed.DiskFault f on = absurd (cc on)
lapse_shrinks h g now lapsed.NoMemory f on = absurd (cc on)

-- ---- how a round of lapses ends

among_own : (front : List ℕ) (ds : List Deed) (behind : List ℕ) → AllByRecursion (λ d. IsAmong (front ++ (map reading_of ds ++ behind)) (reading_of d)) ds
among_own front [] behind = tt
among_own front (d ∷ ds) behind = (
  (length front, get_seam front (map reading_of ds ++ behind) (reading_of d)),
  subst (λ (l : List ℕ). AllByRecursion (λ e. IsAmong l (reading_of e)) ds) (append_assoc front (reading_of d ∷ []) (map reading_of ds ++ behind)) (among_own (front ++ reading_of d ∷ []) ds behind),
)

among_one : (now : ℕ) (ds : List Deed) → AllByRecursion (λ d. reading_of d ≡ now) ds → AllByRecursion (λ d. IsAmong (now ∷ []) (reading_of d)) ds
among_one now ds by = all_weaker (λ d. reading_of d ≡ now) (λ d. IsAmong (now ∷ []) (reading_of d)) ds (λ d same. (0, ap (λ (n : ℕ). Some n) (sym same))) by

-- what has lapsed accounts for a round that ends without one more
abbrev pub lapses_account : (h0 h g : History) (m0 m : List ℕ) (ds : List Deed) (readings : List ℕ) (round : Round) → LapsesSoFar h0 h m0 m ds → Begins h g → AllByRecursion (λ d. IsAmong readings (reading_of d)) ds → round.done ≡ 0 → round.refused ≡ 0 → Accounts h0 g [] readings (places_in ds) round
lapses_account h0 h g m0 m ds readings round so_far grown among none fewer =
    record {
      deeds = ds;
      done = deeds_later h g (length h0) ds so_far.done grown;
      made = refl;
      lost = None;
      orders = ap (λ (l : List Order). l ++ []) (sym (no_orders ds so_far.each));
      loses = tt;
      among = among;
      obeys = omega (arith, none, (none_obeyed ds so_far.each).0);
      refuses = omega (arith, fewer, (none_obeyed ds so_far.each).1);
      exact = λ _. (omega (arith, (none_obeyed ds so_far.each).0), omega (arith, (none_obeyed ds so_far.each).1));
    }

caught_up : (h g : History) (now : ℕ) (end : Lapsed) (round : Round) → IsLapsedSince h g now end → lapse_round end ≡ Some round → round.stop ≡ None → IsCaughtUp g now
caught_up h g now (lapsed.Done place tid) round f is on = absurd (cc is)
caught_up h g now lapsed.Nothing round f is on = subst (λ (x : History). IsCaughtUp x now) (sym f.lapsed.1.0) (inl f.lapsed.0)
caught_up h g now lapsed.Full round f is on = subst (λ (x : History). IsCaughtUp x now) (sym f.lapsed.2.1) (inr (Lapse (event_time f.before now) f.lapsed.0, (f.lapsed.0, f.lapsed.1, refl), f.lapsed.2.0))
caught_up h g now lapsed.DiskFault round f is on = absurd (cc (is, on))
caught_up h g now lapsed.NoMemory round f is on = absurd (cc (is, on))

-- a call that ends the round does nothing, and counts nothing
idle : (end : Lapsed) (round : Round) → lapse_round end ≡ Some round → (lapsed_place end ≡ []) × (round.done ≡ 0) × (round.refused ≡ 0)
idle (lapsed.Done place tid) round is = absurd (cc is)
idle lapsed.Nothing round is = (refl, cc is, cc is)
idle lapsed.Full round is = (refl, cc is, cc is)
idle lapsed.DiskFault round is = (refl, cc is, cc is)
idle lapsed.NoMemory round is = (refl, cc is, cc is)

gained_none : (m0 m n places : List ℕ) (end : Lapsed) → m ≡ m0 ++ places → n ≡ m ++ lapsed_place end → lapsed_place end ≡ [] → n ≡ m0 ++ places
gained_none m0 m n places end first second none = second ∙ ap (λ (l : List ℕ). m ++ l) none ∙ append-nil m ∙ first

pub due_over : (h0 h g : History) (m0 m n : List ℕ) (r0 r s : Option (ℕ → ℕ)) (now : ℕ) (end : Lapsed) (round : Round) (left : Option (List Order)) → DueSoFar h0 h m0 m r0 r → Gives r s now → IsLapsedSince h g now end → Begins h g → n ≡ m ++ lapsed_place end → lapse_round end ≡ Some round → IsLapseRound (record { seen = h0; mine = m0; left = left; coming = r0 }) (record { seen = g; mine = n; left = left; coming = s }) round
due_over h0 h g m0 m n r0 r s now end round left so_far gives f grown gained is =
    let ds : List Deed = so_far.ds in
    let still = idle end round is in
    record {
      whole = record {
        taken = [];
        takes = takes_none left;
        readings = map reading_of ds ++ now ∷ [];
        reads = gives_both r0 r s (map reading_of ds) (now ∷ []) so_far.reads (gives_one r s now gives);
        places = places_in ds;
        gained = gained_none m0 m n (places_in ds) end so_far.so_far.gained gained still.0;
        accounts = lapses_account h0 h g m0 m ds (map reading_of ds ++ now ∷ []) round so_far.so_far grown (among_own [] ds (now ∷ [])) still.1 still.2;
      };
      alone = refl;
      last = now;
      each = refl;
      due = caught_up h g now end round f is;
    }

pub all_over : (h0 h g : History) (m0 m n : List ℕ) (now : ℕ) (end : Lapsed) (round : Round) → AllSoFar h0 h m0 m now → IsLapsedSince h g now end → Begins h g → n ≡ m ++ lapsed_place end → lapse_round end ≡ Some round → IsLapsing h0 g now m0 n round
all_over h0 h g m0 m n now end round so_far f grown gained is =
    let ds : List Deed = so_far.ds in
    let still = idle end round is in
    record {
      places = places_in ds;
      gained = gained_none m0 m n (places_in ds) end so_far.so_far.gained gained still.0;
      accounts = lapses_account h0 h g m0 m ds (now ∷ []) round so_far.so_far grown (among_one now ds so_far.by) still.1 still.2;
      due = caught_up h g now end round f is;
    }
