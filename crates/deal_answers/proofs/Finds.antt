-- What is found is one of the list.
use Rattle.std.proofs.Common.{◌≡◌, Bool, true, false, cond, [], ◌∷◌, Some, subst}
use Rattle.std.specs.Prelude.{IfSome}
use Rattle.std.specs.List.{find}
use Rattle.std.proofs.lemmas.Option.{same_Some, none-some}
use Rattle.deal_changes.specs.declared.change.Change.{Change}
use Rattle.deal_model.specs.Views.{History, IsTimely, AreTimely}

pub found_time : (test : Change → Bool) (h : History) (c : Change) → AreTimely h → find test h ≡ Some c → IsTimely c
found_time test [] c timely e = absurd (none-some c e)
found_time test (x ∷ h) c timely e = elim (test x) as (λ v. cond v (Some x) (find test h) ≡ Some c → IsTimely c) [
  | true ↦ λ f. subst IsTimely (same_Some x c f) timely.0
  | false ↦ λ f. found_time test h c timely.1 f
] e

pub found_is_timely : (test : Change → Bool) (h : History) → AreTimely h → IfSome (find test h) IsTimely
found_is_timely test [] timely = tt
found_is_timely test (x ∷ h) timely = elim (test x) as (λ v. IfSome (cond v (Some x) (find test h)) IsTimely) [
  | true ↦ timely.0
  | false ↦ found_is_timely test h timely.1
]
