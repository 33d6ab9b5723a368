-- What was done stays done in each later history, and follows what was done before.
use Rattle.std.proofs.Common.{ℕ, ◌<◌, ◌≤◌, List, [], ◌∷◌, ◌++◌, length, arith, ◌∙◌, sym, subst, length-append}
use Rattle.std.proofs.lemmas.List.{take-append-le}
use Rattle.std.proofs.lemmas.Option.{slice_get_within}
use Rattle.deal_changes.specs.declared.change.Change.{Change}
use Rattle.deal_model.specs.Views.{History}
use Rattle.deal_table.specs.History.{Begins}
use Rattle.desk.specs.Due.{event_time, IsLapse}
use Rattle.rounds.specs.Deeds.{Deed, Obeyed, Unheeded, Lapsed, before_of, after_of, IsMade, IsVain, Obeys, IsDeed, AreDeeds}
use Rattle.rounds.proofs.Lists.{get_front}

made_later : (h more : History) (n : ℕ) (Own : History → Change → Type 0) → IsMade h n Own → IsMade (h ++ more) n Own
made_later h more n Own made =
    let within : n < length h = slice_get_within h n made.0 made.1 in
    (made.0, get_front h more n within ∙ made.1, subst (λ (g : History). Own g made.0) (sym (take-append-le n h more (omega (arith, within)))) made.2)

deed_later : (h more : History) (d : Deed) → after_of d ≤ length h → IsDeed h d → IsDeed (h ++ more) d
deed_later h more (Obeyed order n now) le deed = made_later h more n (Obeys order now) deed
deed_later h more (Unheeded order n now) le deed = subst (λ (g : History). IsVain g order now) (sym (take-append-le n h more le)) deed
deed_later h more (Lapsed n now) le deed = made_later h more n (λ g c. IsLapse g (event_time g now) c) deed

after_no_less : (d : Deed) → before_of d ≤ after_of d
after_no_less (Obeyed order n now) = omega arith
after_no_less (Unheeded order n now) = omega arith
after_no_less (Lapsed n now) = omega arith

-- the history has as many changes as stood before the first one
pub floor_within : (h : History) (floor : ℕ) (ds : List Deed) → AreDeeds h floor ds → floor ≤ length h
floor_within h floor [] le = le
floor_within h floor (d ∷ ds) deeds = omega (arith, deeds.0, after_no_less d, floor_within h (after_of d) ds deeds.2)

deeds_on : (h more : History) (floor : ℕ) (ds : List Deed) → AreDeeds h floor ds → AreDeeds (h ++ more) floor ds
deeds_on h more floor [] le = omega (arith, le, length-append h more)
deeds_on h more floor (d ∷ ds) deeds = (deeds.0, deed_later h more d (floor_within h (after_of d) ds deeds.2) deeds.1, deeds_on h more (after_of d) ds deeds.2)

pub deeds_later : (h g : History) (floor : ℕ) (ds : List Deed) → AreDeeds h floor ds → Begins h g → AreDeeds g floor ds
deeds_later h g floor ds deeds begun = subst (λ (x : History). AreDeeds x floor ds) (sym begun.1) (deeds_on h begun.0 floor ds deeds)

pub deeds_sooner : (h : History) (least floor : ℕ) (ds : List Deed) → AreDeeds h floor ds → least ≤ floor → AreDeeds h least ds
deeds_sooner h least floor [] le sooner = omega (arith, le, sooner)
deeds_sooner h least floor (d ∷ ds) deeds sooner = (omega (arith, deeds.0, sooner), deeds.1, deeds.2)

joined_on : (h more : History) (floor middle : ℕ) (ds es : List Deed) → AreDeeds h floor ds → length h ≤ middle → AreDeeds (h ++ more) middle es → AreDeeds (h ++ more) floor (ds ++ es)
joined_on h more floor middle [] es le later behind = deeds_sooner (h ++ more) floor middle es behind (omega (arith, le, later))
joined_on h more floor middle (d ∷ ds) es deeds later behind = (deeds.0, deed_later h more d (floor_within h (after_of d) ds deeds.2) deeds.1, joined_on h more (after_of d) middle ds es deeds.2 later behind)

pub deeds_joined : (h g : History) (floor middle : ℕ) (ds es : List Deed) → AreDeeds h floor ds → Begins h g → length h ≤ middle → AreDeeds g middle es → AreDeeds g floor (ds ++ es)
deeds_joined h g floor middle ds es deeds begun later behind =
    subst (λ (x : History). AreDeeds x floor (ds ++ es)) (sym begun.1) (joined_on h begun.0 floor middle ds es deeds later (subst (λ (x : History). AreDeeds x middle es) begun.1 behind))
