-- Two rounds, one after the other.
use Rattle.std.proofs.Common.{◌≡◌, ℕ, ◌+◌, ◌≤◌, min, Bool, true, false, List, [], ◌++◌, length, Option, Some, None, arith, refl, ◌∙◌, ap, sym, subst, length-append, append-nil, append_assoc}
use Rattle.std.specs.Prelude.{nat_le, ◌&&◌}
use Rattle.std.proofs.lemmas.Bool.{leb-true}
use Rattle.std.proofs.lemmas.Grind.{flat_map-append}
use Rattle.std.proofs.lemmas.List.Sums.{sum_by-append}
use Rattle.cmp_ports.specs.declared.order.Order.{Order}
use Rattle.cmp_ports.proofs.CountLemmas.{gives_none, gives_both}
use Rattle.deal_model.specs.Views.{History}
use Rattle.deal_table.specs.History.{Begins}
use Rattle.rounds.specs.declared.round.Round.{Round}
use Rattle.rounds.specs.declared.round.Stop.{Stop}
use Rattle.rounds.specs.Deeds.{Deed, reading_of, order_in, orders_in, place_in, places_in, obeyed, unheeded}
use Rattle.rounds.specs.Rounds.{last_count, none_yet, has_room, stop_after, both, TakesAll, IsAmong, lone, MayLose, Accounts, Sight, IsRound}
use Rattle.rounds.proofs.Lists.{get_front, get_back, all_append, all_weaker}
use Rattle.rounds.proofs.DeedLemmas.{deeds_joined}
use Rattle.std.proofs.lemmas.Option.{slice_get_within}

-- ---- what was taken and read

pub takes_none : {X : Type 0} (left : Option (List X)) → TakesAll left left []
takes_none None = tt
takes_none (Some left) = refl

pub takes_both : {X : Type 0} (old mid new : Option (List X)) (xs ys : List X) → TakesAll old mid xs → TakesAll mid new ys → TakesAll old new (xs ++ ys)
takes_both None mid new xs ys first second = tt
takes_both (Some old) None new xs ys first second = absurd first
takes_both (Some old) (Some mid) None xs ys first second = absurd second
takes_both (Some old) (Some mid) (Some new) xs ys first second = first ∙ ap (λ (l : List _). xs ++ l) second ∙ sym (append_assoc xs ys new)

pub among_front : (xs ys : List ℕ) (x : ℕ) → IsAmong xs x → IsAmong (xs ++ ys) x
among_front xs ys x here = (here.0, get_front xs ys here.0 (slice_get_within xs here.0 x here.1) ∙ here.1)

pub among_back : (xs ys : List ℕ) (x : ℕ) → IsAmong ys x → IsAmong (xs ++ ys) x
among_back xs ys x here = (length xs + here.0, get_back xs ys here.0 (length xs + here.0) refl ∙ here.1)

-- ---- counts

pub adds : (last a b m n : ℕ) → a ≡ min m last → b ≡ min n last → min (a + b) last ≡ min (m + n) last
adds last a b m n first second = omega (arith, first, second)

pub stays_within : (last a b m n : ℕ) → a ≡ min m last → b ≡ min n last → m ≤ last → n ≤ last → a + b ≤ last → m + n ≤ last
stays_within last a b m n first second few less room = omega (arith, first, second, few, less, room)

pub and_true : (p q : Bool) → (p && q) ≡ true → (p ≡ true) × (q ≡ true)
and_true true true is = (refl, refl)
and_true true false is = absurd (cc is)
and_true false q is = absurd (cc is)

pub room_for : (a b : Round) → has_room a b ≡ true → (a.done + b.done ≤ last_count) × (a.refused + b.refused ≤ last_count)
room_for a b room = let each = and_true (nat_le (a.done + b.done) last_count) (nat_le (a.refused + b.refused) last_count) room in (leb-true _ _ each.0, leb-true _ _ each.1)

-- ---- stops

pub went_on : (stop : Option Stop) (room : Bool) → stop_after stop room ≡ None → (stop ≡ None) × (room ≡ true)
went_on None true is = (refl, refl)
went_on None false is = absurd (cc is)
went_on (Some stop) room is = absurd (cc is)

pub loses_none : (lost : Option Order) (stop : Option Stop) → stop ≡ None → MayLose lost stop → lone lost ≡ []
loses_none None stop is loses = refl
loses_none (Some order) None is loses = absurd loses
loses_none (Some order) (Some stop) is loses = absurd (cc is)

pub loses_on : (lost : Option Order) (stop : Option Stop) (room : Bool) → MayLose lost stop → MayLose lost (stop_after stop room)
loses_on None stop room loses = tt
loses_on (Some order) None room loses = absurd loses
loses_on (Some order) (Some stop) room loses = loses

-- ---- both

pub obeyed_both : (ds es : List Deed) → obeyed (ds ++ es) ≡ obeyed ds + obeyed es
obeyed_both ds es = sum_by-append _ ds es

pub unheeded_both : (ds es : List Deed) → unheeded (ds ++ es) ≡ unheeded ds + unheeded es
unheeded_both ds es = sum_by-append _ ds es

abbrev pub accounts_apart : (h0 h g0 g : History) (taken more : List Order) (readings later places others : List ℕ) (a b : Round) → a.stop ≡ None → Begins h g0 → Begins h g → length h ≤ length g0 → Accounts h0 h taken readings places a → Accounts g0 g more later others b → Accounts h0 g (taken ++ more) (readings ++ later) (places ++ others) (both a b)
accounts_apart h0 h g0 g taken more readings later places others a b on begun grown longer first second =
    record {
      deeds = first.deeds ++ second.deeds;
      done = deeds_joined h g (length h0) (length g0) first.deeds second.deeds first.done grown longer second.done;
      made = ap (λ (l : List ℕ). l ++ others) first.made ∙ ap (λ (l : List ℕ). places_in first.deeds ++ l) second.made ∙ sym (flat_map-append place_in first.deeds second.deeds);
      lost = second.lost;
      orders = ap (λ (l : List Order). l ++ more) (first.orders ∙ ap (λ (l : List Order). orders_in first.deeds ++ l) (loses_none first.lost a.stop on first.loses) ∙ append-nil (orders_in first.deeds))
          ∙ ap (λ (l : List Order). orders_in first.deeds ++ l) second.orders
          ∙ sym (append_assoc (orders_in first.deeds) (orders_in second.deeds) (lone second.lost))
          ∙ ap (λ (l : List Order). l ++ lone second.lost) (sym (flat_map-append order_in first.deeds second.deeds));
      loses = loses_on second.lost b.stop (has_room a b) second.loses;
      among = all_append (λ d. IsAmong (readings ++ later) (reading_of d)) first.deeds second.deeds
          (all_weaker (λ d. IsAmong readings (reading_of d)) (λ d. IsAmong (readings ++ later) (reading_of d)) first.deeds (λ d. among_front readings later (reading_of d)) first.among)
          (all_weaker (λ d. IsAmong later (reading_of d)) (λ d. IsAmong (readings ++ later) (reading_of d)) second.deeds (λ d. among_back readings later (reading_of d)) second.among);
      obeys = adds last_count a.done b.done (obeyed first.deeds) (obeyed second.deeds) first.obeys second.obeys ∙ ap (λ (n : ℕ). min n last_count) (sym (obeyed_both first.deeds second.deeds));
      refuses = adds last_count a.refused b.refused (unheeded first.deeds) (unheeded second.deeds) first.refuses second.refuses ∙ ap (λ (n : ℕ). min n last_count) (sym (unheeded_both first.deeds second.deeds));
      exact = λ over.
          let went = went_on b.stop (has_room a b) over in
          let room = room_for a b went.1 in
          let few = first.exact on in
          let less = second.exact went.0 in (
            subst (λ (n : ℕ). n ≤ last_count) (sym (obeyed_both first.deeds second.deeds)) (stays_within last_count a.done b.done (obeyed first.deeds) (obeyed second.deeds) first.obeys second.obeys few.0 less.0 room.0),
            subst (λ (n : ℕ). n ≤ last_count) (sym (unheeded_both first.deeds second.deeds)) (stays_within last_count a.refused b.refused (unheeded first.deeds) (unheeded second.deeds) first.refuses second.refuses few.1 less.1 room.1),
          );
    }

pub begins_both : (h g i : History) → Begins h g → Begins g i → Begins h i
begins_both h g i first second = (first.0 ++ second.0, second.1 ∙ ap (λ (l : History). l ++ second.0) first.1 ∙ append_assoc h first.0 second.0)

pub begins_itself : (h : History) → Begins h h
begins_itself h = ([], sym (append-nil h))

pub begins_longer : (h g : History) → Begins h g → length h ≤ length g
begins_longer h g begun = omega (arith, ap (λ (l : History). length l) begun.1, length-append h begun.0)

abbrev pub accounts_follow : (h0 h g0 g : History) (taken more : List Order) (readings later places others : List ℕ) (a b : Round) → a.stop ≡ None → Begins h g0 → Begins g0 g → Accounts h0 h taken readings places a → Accounts g0 g more later others b → Accounts h0 g (taken ++ more) (readings ++ later) (places ++ others) (both a b)
accounts_follow h0 h g0 g taken more readings later places others a b on begun grown first second =
    accounts_apart h0 h g0 g taken more readings later places others a b on begun (begins_both h g0 g begun grown) (begins_longer h g0 begun) first second

pub gained_both : (old mid new places others : List ℕ) → mid ≡ old ++ places → new ≡ mid ++ others → new ≡ old ++ (places ++ others)
gained_both old mid new places others first second = second ∙ ap (λ (l : List ℕ). l ++ others) first ∙ append_assoc old places others

abbrev pub round_follows : (old mid new : Sight) (a b : Round) → a.stop ≡ None → Begins mid.seen new.seen → IsRound old mid a → IsRound mid new b → IsRound old new (both a b)
round_follows old mid new a b on grown first second =
    record {
      taken = first.taken ++ second.taken;
      takes = takes_both old.left mid.left new.left first.taken second.taken first.takes second.takes;
      readings = first.readings ++ second.readings;
      reads = gives_both old.coming mid.coming new.coming first.readings second.readings first.reads second.reads;
      places = first.places ++ second.places;
      gained = gained_both old.mine mid.mine new.mine first.places second.places first.gained second.gained;
      accounts = accounts_follow old.seen mid.seen mid.seen new.seen first.taken second.taken first.readings second.readings first.places second.places a b on (begins_itself mid.seen) grown first.accounts second.accounts;
    }

-- ---- nothing at all

abbrev pub accounts_none : (h : History) (readings : List ℕ) (round : Round) → round.done ≡ 0 → round.refused ≡ 0 → Accounts h h [] readings [] round
accounts_none h readings round none fewer =
    record {
      deeds = [];
      done = omega arith;
      made = refl;
      lost = None;
      orders = refl;
      loses = tt;
      among = tt;
      obeys = none ∙ omega arith;
      refuses = fewer ∙ omega arith;
      exact = λ _. (omega arith, omega arith);
    }

abbrev pub nothing_done : (h : History) (mine : List ℕ) (before after : Option (List Order)) (coming : Option (ℕ → ℕ)) (round : Round) → round.done ≡ 0 → round.refused ≡ 0 → TakesAll before after [] → IsRound (record { seen = h; mine = mine; left = before; coming = coming }) (record { seen = h; mine = mine; left = after; coming = coming }) round
nothing_done h mine before after coming round none fewer takes =
    record {
      taken = [];
      takes = takes;
      readings = [];
      reads = gives_none coming;
      places = [];
      gained = sym (append-nil mine);
      accounts = accounts_none h [] round none fewer;
    }

pub no_round : (at : Sight) → IsRound at at none_yet
no_round at = nothing_done at.seen at.mine at.left at.left at.coming none_yet refl refl (takes_none at.left)
