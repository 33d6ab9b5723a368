-- How a run comes by the history that it finds.
use Rattle.std.proofs.Common.{◌≡◌, ℕ, true, false, List, [], ◌∷◌, ◌++◌, Option, Some, refl, sym, subst, inl, inr}
use Rattle.journal_core.specs.Log.{is_founded}
use Rattle.deal_changes.specs.declared.change.Change.{Change}
use Rattle.deal_model.specs.Views.{History}
use Rattle.deal_model.specs.Rules.{Allowed, Legal}
use Rattle.deal_model.specs.Laws.{GrowsLegally}
use Rattle.desk.specs.Images.{Recovers}
use Rattle.world_core.specs.declared.world.World.{World}
use Rattle.world_core.specs.declared.world.Step.{Step}
use Rattle.world_core.specs.declared.world.Step.TheVariants.{Found, Crash, Reopen}
use Rattle.world_core.specs.Steps.{founded}
use Rattle.one_history.specs.Worlds.{IsOpening}
use Rattle.one_history.proofs.Images.{AtMostOne, recovered_founded, not_both, one_recovered}
use Rattle.one_history.proofs.Made.{at_some, single_legal, begins_same, AreMade, made_none, made_more}
use Rattle.one_history.proofs.Leads.{Opens, opens_first, down_lost, down_kept, opens_stopped, opens_again}
use Rattle.one_history.proofs.Stages.{Stage, First, Up, Down, state_of, Extends, Knows, Shows}

-- The run's history is opened: behind this the service stands for it.
pub record IsOpened (M : History → Change → Type 0) (s : Stage) (w : World) (h : History) : Type 0 where
  pub opening : List Step
  pub is : IsOpening (state_of s) h opening
  pub opens : Opens w opening h
  pub made : AreMade M h
  pub extends : Extends s h

module _ (one : AtMostOne) (grows : GrowsLegally) (M : History → Change → Type 0) where
  by_first : (w : World) (c : Change) → w ≡ founded → M [] c → Allowed [] c → IsOpened M First w (c ∷ [])
  by_first w c begun mine may = record {
    opening = Found c ∷ [];
    is = (c, refl, refl);
    opens = subst (λ (x : World). Opens x (Found c ∷ []) (c ∷ [])) (sym begun) (opens_first c may);
    made = made_more M [] c (made_none M) mine;
    extends = tt;
  }

  by_lost : (w : World) (k : History) (e : Option Change) → Knows M (Up k e) w → IsOpened M (Up k e) w k
  by_lost w k e known = record {
    opening = Crash false ∷ Reopen ∷ [];
    is = (false, refl);
    opens = opens_again w k k e false known.stands (down_lost w k e known.stands);
    made = known.made;
    extends = begins_same k;
  }

  by_kept : (w : World) (k : History) (e : Option Change) (c : Change) → Knows M (Up k e) w → e ≡ Some c → IsOpened M (Up k e) w (k ++ c ∷ [])
  by_kept w k e c known is = record {
    opening = Crash true ∷ Reopen ∷ [];
    is = (true, refl);
    opens = opens_again w k (k ++ c ∷ []) e true known.stands (down_kept w k e c known.stands is);
    made = made_more M k c known.made (at_some (M k) e c known.doubted is);
    extends = (c ∷ [], refl);
  }

  by_stopped : (w : World) (k : History) → Knows M (Down k) w → IsOpened M (Down k) w k
  by_stopped w k known = record { opening = Reopen ∷ []; is = refl; opens = opens_stopped w k known.down; made = known.made; extends = begins_same k }

  -- the history that the disk's content holds is opened from each stage
  pub opened : (s : Stage) (w : World) (h : History) (content : List ℕ) → Knows M s w → Shows M s content → Legal h → Recovers content h → IsOpened M s w h
  opened First w h content known (inl blank) legal found = not_both _ (is_founded content) (recovered_founded content h found) blank
  opened First w h content known (inr shown) legal found = subst (IsOpened M First w) (sym (one_recovered one content h (shown.0 ∷ []) legal (single_legal shown.0 shown.1.1) found shown.1.2))
      (by_first w shown.0 known shown.1.0 shown.1.1)
  opened (Up k e) w h content known (inl shown) legal found = subst (IsOpened M (Up k e) w) (sym (one_recovered one content h k legal known.legal found shown)) (by_lost w k e known)
  opened (Up k e) w h content known (inr shown) legal found =
      subst (IsOpened M (Up k e) w) (sym (one_recovered one content h (k ++ shown.0 ∷ []) legal (grows k shown.0 known.legal (at_some (Allowed k) e shown.0 known.may shown.1)) found shown.2))
      (by_kept w k e shown.0 known shown.1)
  opened (Down k) w h content known shown legal found = subst (IsOpened M (Down k) w) (sym (one_recovered one content h k legal known.legal found shown)) (by_stopped w k known)
