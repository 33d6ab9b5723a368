-- A round of orders and one of lapses, as one.
use Rattle.std.proofs.Common.{◌≡◌, ℕ, ◌+◌, true, false, List, [], ◌∷◌, ◌++◌, length, map, Option, None, arith, refl, ◌∙◌, ap, sym, append-nil, length-append}
use Rattle.std.specs.Prelude.{is_some}
use Rattle.std.proofs.lemmas.List.{length-map}
use Rattle.cmp_ports.specs.Coming.{Gives}
use Rattle.cmp_ports.specs.declared.order.Order.{Order}
use Rattle.cmp_ports.proofs.CountLemmas.{gives_one}
use Rattle.deal_model.specs.Views.{History}
use Rattle.deal_table.specs.History.{Begins}
use Rattle.rounds.specs.declared.round.Round.{Round}
use Rattle.rounds.specs.Deeds.{reading_of, orders_in}
use Rattle.rounds.specs.Rounds.{has_room, both, Sight, IsRound, IsOrderRound, IsLapseRound, IsMixedRound, lone, IsLapsing, IsLastRound}
use Rattle.rounds.proofs.RoundLemmas.{takes_none, went_on, round_follows}

-- lapses by the clock's next reading are a round
abbrev pub lapsing_round : (h g : History) (m n : List ℕ) (left : Option (List Order)) (r s : Option (ℕ → ℕ)) (now : ℕ) (round : Round) → Gives r s now → IsLapsing h g now m n round → IsRound (record { seen = h; mine = m; left = left; coming = r }) (record { seen = g; mine = n; left = left; coming = s }) round
lapsing_round h g m n left r s now round gives lapsing =
    record {
      taken = [];
      takes = takes_none left;
      readings = now ∷ [];
      reads = gives_one r s now gives;
      places = lapsing.places;
      gained = lapsing.gained;
      accounts = lapsing.accounts;
    }

-- a round of orders reads the clock once an order
by_order : (old new : Sight) (a : Round) → (f : IsOrderRound old new a) → length f.whole.readings ≡ length f.whole.taken
by_order old new a f =
    let w = f.whole in
    let ds = w.accounts.deeds in
    omega (
      arith,
      ap (λ (l : List ℕ). length l) f.each,
      length-append (map reading_of ds) f.more,
      length-map ds reading_of,
      f.once,
      f.alone,
      ap (λ (l : List Order). length l) w.accounts.orders,
      length-append (orders_in ds) (lone w.accounts.lost),
    )

by_deed : (old new : Sight) (a : Round) → (f : IsOrderRound old new a) → length f.whole.readings ≡ length f.whole.accounts.deeds + length (lone f.whole.accounts.lost)
by_deed old new a f =
    let ds = f.whole.accounts.deeds in
    omega (arith, ap (λ (l : List ℕ). length l) f.each, length-append (map reading_of ds) f.more, length-map ds reading_of, f.once)

by_lapse : (old new : Sight) (a : Round) → (f : IsLapseRound old new a) → length f.whole.readings ≡ length f.whole.accounts.deeds + 1
by_lapse old new a f =
    let ds = f.whole.accounts.deeds in
    omega (arith, ap (λ (l : List ℕ). length l) f.each, length-append (map reading_of ds) (f.last ∷ []), length-map ds reading_of)

-- it loses no order where it takes none
loses_no_order : (lost : Option Order) (orders taken : List Order) → taken ≡ orders ++ lone lost → taken ≡ [] → length (lone lost) ≡ 0
loses_no_order lost orders taken is none = omega (arith, ap (λ (l : List Order). length l) is, ap (λ (l : List Order). length l) none, length-append orders (lone lost))

-- lapses, and then orders
pub mixed_round : (old mid new : Sight) (a b : Round) → a.stop ≡ None → Begins mid.seen new.seen → IsLapseRound old mid a → IsOrderRound mid new b → IsMixedRound old new (both a b)
mixed_round old mid new a b on grown first second =
    record {
      whole = round_follows old mid new a b on grown first.whole second.whole;
      once = omega (arith, length-append first.whole.readings second.whole.readings, length-append first.whole.accounts.deeds second.whole.accounts.deeds, by_lapse old mid a first, by_deed mid new b second);
    }

-- lapses alone, where they stopped
pub stopped_lapses : (old new : Sight) (a : Round) → IsLapseRound old new a → IsMixedRound old new a
stopped_lapses old new a first =
    record {
      whole = first.whole;
      once = omega (arith, by_lapse old new a first, loses_no_order first.whole.accounts.lost (orders_in first.whole.accounts.deeds) first.whole.taken first.whole.accounts.orders first.alone);
    }

-- orders, and then lapses by the clock's next reading
pub last_round : (old : Sight) (h g : History) (m n : List ℕ) (left : Option (List Order)) (r s : Option (ℕ → ℕ)) (now : ℕ) (a b : Round) → a.stop ≡ None → Begins h g → IsOrderRound old (record { seen = h; mine = m; left = left; coming = r }) a → Gives r s now → IsLapsing h g now m n b → IsLastRound old (record { seen = g; mine = n; left = left; coming = s }) (both a b)
last_round old h g m n left r s now a b on grown first gives lapsing =
    let mid : Sight = record { seen = h; mine = m; left = left; coming = r } in
    let new : Sight = record { seen = g; mine = n; left = left; coming = s } in
    record {
      whole = round_follows old mid new a b on grown first.whole (lapsing_round h g m n left r s now b gives lapsing);
      earlier = first.whole.readings;
      last = now ∷ [];
      reads_last = refl;
      once = by_order old mid a first ∙ ap (λ (l : List Order). length l) (sym (append-nil first.whole.taken));
      due = λ over. lapsing.due (went_on b.stop (has_room a b) over).0;
    }

not_over : {X : Type 0} (stop : Option X) → is_some stop ≡ true → stop ≡ None → ⊥
not_over stop is none = let both : true ≡ false = sym is ∙ ap (λ (o : Option _). is_some o) none in cc both

-- orders alone, where they stopped
pub stopped_round : (old new : Sight) (a : Round) → is_some a.stop ≡ true → IsOrderRound old new a → IsLastRound old new a
stopped_round old new a is first =
    record {
      whole = first.whole;
      earlier = first.whole.readings;
      last = [];
      reads_last = sym (append-nil first.whole.readings);
      once = by_order old new a first;
      due = λ over. absurd (not_over a.stop is over);
    }
