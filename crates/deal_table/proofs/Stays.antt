-- What a history has settled stands in each later one.
use Rattle.std.proofs.Common.{◌≡◌, ℕ, zero, suc, ◌+◌, ◌<◌, Bool, true, false, cond, List, [], ◌∷◌, ◌++◌, length, take, Option, Some, None, refl, ap, arith}
use Rattle.std.specs.Prelude.{option_and_then, find, slice_get}
use Rattle.std.specs.Option.{option_or}
use Rattle.std.specs.List.{position_from}
use Rattle.std.proofs.lemmas.List.{take-append-le}
use Rattle.std.proofs.lemmas.List.Folds.{find-append}
use Rattle.std.proofs.lemmas.Option.{none-some, slice_get_within}
use Rattle.deal_changes.specs.declared.change.Kind.{Kind}
use Rattle.deal_changes.specs.declared.change.Settings.{Settings}
use Rattle.deal_changes.specs.declared.change.Stamp.{Stamp}
use Rattle.deal_changes.specs.declared.change.Change.{Change}
use Rattle.deal_changes.specs.Times.{stamp_of}
use Rattle.deal_model.specs.declared.states.Owner.{Owner}
use Rattle.deal_model.specs.Views.{History, founding, is_grant_for, owner_in, has_owner, owner_of}
use Rattle.deal_table.specs.History.{Receipted, place_of, owner_for, receipt_of, receipt_in, receipt_at, grant_receipt}

pub settings_stay : (h more : History) (s : Settings) → founding h ≡ Some s → founding (h ++ more) ≡ Some s
settings_stay [] more s e = absurd (none-some s e)
settings_stay (c ∷ h) more s e = e

-- what was found at first is found before all that comes later
or_later : {X : Type 0} (found later : Option X) (x : X) → found ≡ Some x → option_or found later ≡ Some x
or_later None later x e = absurd (none-some x e)
or_later (Some y) later x e = e

pub first_stays : (test : Change → Bool) (h more : History) (c : Change) → find test h ≡ Some c → find test (h ++ more) ≡ Some c
first_stays test h more c e = rw (find-append test h more) (or_later (find test h) (find test more) c e)

-- a view of what was found stays too
view_stays : {X : Type 0} (f : Change → Option X) (found later : Option Change) (x : X) → option_and_then f found ≡ Some x → option_and_then f (option_or found later) ≡ Some x
view_stays f None later x e = absurd (none-some x e)
view_stays f (Some c) later x e = e

owner_of_stays : (h more : History) (kind : Kind) (kid : List ℕ) (o : Owner) → owner_of h kind kid ≡ Some o → owner_of (h ++ more) kind kid ≡ Some o
unfolding owner_of
owner_of_stays h more kind kid o e = rw (find-append (has_owner kind kid) h more) (view_stays (owner_in kind kid) (find (has_owner kind kid) h) (find (has_owner kind kid) more) o e)

pub owner_stays : (h more : History) (kind : Option Kind) (kid : List ℕ) (o : Owner) → owner_for h kind kid ≡ Some o → owner_for (h ++ more) kind kid ≡ Some o
owner_stays h more (Some kind) kid o e = owner_of_stays h more kind kid o e
owner_stays h more None kid o e = absurd (none-some o e)

from_stays : (test : Change → Bool) (n : ℕ) (h more : History) (place : ℕ) → position_from test n h ≡ Some place → position_from test n (h ++ more) ≡ Some place
from_stays test n [] more place e = absurd (none-some place e)
from_stays test n (c ∷ h) more place e = elim (test c) as (λ v. cond v (Some n) (position_from test (n + 1) h) ≡ Some place → cond v (Some n) (position_from test (n + 1) (h ++ more)) ≡ Some place) [
  | true ↦ λ f. f
  | false ↦ λ f. from_stays test (n + 1) h more place f
] e

pub place_stays : (test : Change → Bool) (h more : History) (place : ℕ) → place_of test h ≡ Some place → place_of test (h ++ more) ≡ Some place
place_stays test h more place e = from_stays test 1 h more place e

get_stays : (h more : History) (n : ℕ) (c : Change) → slice_get h n ≡ Some c → slice_get (h ++ more) n ≡ Some c
get_stays [] more n c e = absurd (none-some c e)
get_stays (x ∷ h) more zero c e = e
get_stays (x ∷ h) more (suc n) c e = get_stays h more n c e

receipt_from : (h more : History) (n : ℕ) (found : Option Change) (r : Receipted) → slice_get h n ≡ found → option_and_then (receipt_in (take (suc n) h) (suc n)) found ≡ Some r → option_and_then (receipt_in (take (suc n) (h ++ more)) (suc n)) (slice_get (h ++ more) n) ≡ Some r
receipt_from h more n None r e f = absurd (none-some r f)
receipt_from h more n (Some c) r e f =
    let within : n < length h = slice_get_within h n c e in
    let cut : take (suc n) (h ++ more) ≡ take (suc n) h = take-append-le (suc n) h more (omega arith) in
    rw (get_stays h more n c e, cut) f

pub receipt_stays : (h more : History) (place : ℕ) (r : Receipted) → receipt_at h place ≡ Some r → receipt_at (h ++ more) place ≡ Some r
unfolding receipt_at
receipt_stays h more zero r e = absurd (none-some r e)
receipt_stays h more (suc n) r e = receipt_from h more n (slice_get h n) r refl e

grant_from : (h more : History) (found later : Option ℕ) (r : Receipted) → ((place : ℕ) → found ≡ Some place → later ≡ Some place) → option_and_then (receipt_at h) found ≡ Some r → option_and_then (receipt_at (h ++ more)) later ≡ Some r
grant_from h more None later r same e = absurd (none-some r e)
grant_from h more (Some place) later r same e = rw (same place refl) (receipt_stays h more place r e)

pub grant_stays : (h more : History) (tid : List ℕ) (r : Receipted) → grant_receipt h tid ≡ Some r → grant_receipt (h ++ more) tid ≡ Some r
unfolding grant_receipt
grant_stays h more tid r e = grant_from h more (place_of (is_grant_for tid) h) (place_of (is_grant_for tid) (h ++ more)) r (place_stays (is_grant_for tid) h more) e

-- ---- the change that was made last

get_last : (h : History) (c : Change) → slice_get (h ++ c ∷ []) (length h) ≡ Some c
get_last [] c = refl
get_last (x ∷ h) c = get_last h c

take_last : (h : History) (c : Change) → take (suc (length h)) (h ++ c ∷ []) ≡ h ++ c ∷ []
take_last [] c = refl
take_last (x ∷ h) c = ap (λ (g : History). x ∷ g) (take_last h c)

-- what its reply needs, where a message made it
pub last_receipt : (h : History) (c : Change) (s : Stamp) → stamp_of c ≡ Some s → receipt_at (h ++ c ∷ []) (suc (length h)) ≡ Some (receipt_of (h ++ c ∷ []) (suc (length h)) c s)
unfolding receipt_at
last_receipt h c s e = rw (get_last h c, take_last h c, e) refl
