-- What a stop inside the steps of a call leaves.
use Rattle.std.proofs.Common.{◌≡◌, ℕ, Bool, true, false, List, [], ◌∷◌, ◌++◌, Option, Some, None, refl, sym, subst, inl, inr}
use Rattle.std.specs.Prelude.{◌⊎◌, IfSome}
use Rattle.deal_changes.specs.declared.change.Change.{Change}
use Rattle.deal_model.specs.Views.{History}
use Rattle.deal_model.specs.Rules.{Allowed, Legal}
use Rattle.deal_model.specs.Laws.{GrowsLegally}
use Rattle.desk.specs.Images.{RecoversWith, IsDoubt, DoubtOr}
use Rattle.world_core.specs.declared.world.World.{World}
use Rattle.world_core.specs.declared.world.Step.{Step}
use Rattle.world_core.specs.declared.world.Step.TheVariants.{Propose, Settle, Crash}
use Rattle.world_core.specs.Steps.{after}
use Rattle.desk_steps.specs.Steps.{StandsFor, IsStopped, settling, adding, StopsIn, IsLawful}
use Rattle.desk_steps.specs.Openings.{IsTaking, StopLeaves, MayBeLeft}

-- the stop leaves this history
abbrev Leaves : World → List Step → History → Type 0
Leaves w ss k = (v : World) × StopsIn w ss v × IsStopped v k

stopped : (w : World) (keep : Bool) (k : History) → (after w (Crash keep)).durable ≡ k → IsStopped (after w (Crash keep)) k
stopped w keep k same = record { down = refl; durable = same; pending = refl; doubt = refl }

-- at once, with nothing kept, or with the change in doubt
lost : (h : History) (d : Option Change) (w : World) (ss : List Step) → StandsFor w h d → Leaves w ss h
lost h d w ss stands = (after w (Crash false), (0, false, (after w (Crash false), inl (stands.up, refl), refl)), stopped w false h stands.durable)

kept_doubt : (h : History) (d : Option Change) (x : Change) (w : World) (ss : List Step) → StandsFor w h d → d ≡ Some x → Leaves w ss (h ++ x ∷ [])
kept_doubt h d x w ss stands is =
    let v : World = after w (Crash true) in
    let same : v.durable ≡ h ++ x ∷ [] = rw (stands.pending, stands.doubt, is, stands.durable) refl in
    (v, (0, true, (v, inl (stands.up, refl), refl)), stopped w true (h ++ x ∷ []) same)

-- behind the change's writing, which is kept
kept_own : (h : History) (d : Option Change) (c : Change) (w : World) → StandsFor w h d → Allowed h c → Leaves w (adding d c) (h ++ c ∷ [])
kept_own h None c w stands may =
    let u : World = after w (Propose c) in
    let v : World = after u (Crash true) in
    let same : v.durable ≡ h ++ c ∷ [] = rw (stands.doubt, stands.durable) refl in
    (v, (1, true, (u, inl ((stands.up, stands.pending, stands.doubt, subst (λ (x : History). Allowed x c) (sym stands.durable) may), refl), (v, inl (stands.up, refl), refl))), stopped u true (h ++ c ∷ []) same)
kept_own h (Some d) c w stands may =
    let t : World = after w Settle in
    let u : World = after t (Propose c) in
    let v : World = after u (Crash true) in
    let same : v.durable ≡ h ++ c ∷ [] = rw stands.durable refl in
    (v, (2, true, (t, inl ((stands.up, (d, stands.doubt)), refl), (u, inl ((stands.up, stands.pending, refl, subst (λ (x : History). Allowed x c) (sym stands.durable) may), refl), (v, inl (stands.up, refl), refl)))), stopped u true (h ++ c ∷ []) same)

by_change : (h : History) (d : Option Change) (c x : Change) (w : World) → StandsFor w h d → Allowed h c → DoubtOr d (λ y. y ≡ c) x → Leaves w (adding d c) (h ++ x ∷ [])
by_change h d c x w stands may (inl is) = kept_doubt h d x w (adding d c) stands is
by_change h d c x w stands may (inr own) = subst (λ (y : Change). Leaves w (adding d c) (h ++ y ∷ [])) (sym own) (kept_own h d c w stands may)

pub stop : (h k : History) (d : Option Change) (c : Change) (w : World) → StandsFor w h d → IfSome d (Allowed h) → Allowed h c → (k ≡ h) ⊎ ((x : Change) × DoubtOr d (λ y. y ≡ c) x × (k ≡ h ++ x ∷ [])) → Leaves w (adding d c) k
stop h k d c w stands doubt may (inl same) = subst (Leaves w (adding d c)) (sym same) (lost h d w (adding d c) stands)
stop h k d c w stands doubt may (inr grown) = subst (Leaves w (adding d c)) (sym grown.2) (by_change h d c grown.0 w stands may grown.1)

-- ---- by the image that is left

-- the history with the change in doubt
pub legal_with : GrowsLegally → (h : History) (d : Option Change) (c : Change) → IsLawful h d → d ≡ Some c → Legal (h ++ c ∷ [])
legal_with grows h d c lawful is = grows h c lawful.0 (subst (λ (x : Option Change). IfSome x (Allowed h)) is lawful.1)

pub in_call : GrowsLegally → (Own : Change → Type 0) (h : History) (d : Option Change) (image : List ℕ) → IsLawful h d → MayBeLeft h d Own image → StopLeaves (IsTaking d Own) h d image
in_call grows Own h d image lawful (inl r) w stands = let x = lost h d w (settling d) stands in (settling d, inl refl, (x.0, h, x.1, x.2, lawful.0, r))
in_call grows Own h d image lawful (inr (c, inl is, r)) w stands = let x = kept_doubt h d c w (settling d) stands is in (settling d, inl refl, (x.0, h ++ c ∷ [], x.1, x.2, legal_with grows h d c lawful is, r))
in_call grows Own h d image lawful (inr (c, inr own, r)) w stands = let x = kept_own h d c w stands own.1 in (adding d c, inr (c, own.0, refl), (x.0, h ++ c ∷ [], x.1, x.2, grows h c lawful.0 own.1, r))

pub idle : GrowsLegally → (h : History) (d : Option Change) (image : List ℕ) → IsLawful h d → RecoversWith h (IsDoubt d) image → StopLeaves (λ ss. ss ≡ []) h d image
idle grows h d image lawful (inl r) w stands = let x = lost h d w [] stands in ([], refl, (x.0, h, x.1, x.2, lawful.0, r))
idle grows h d image lawful (inr (c, is, r)) w stands = let x = kept_doubt h d c w [] stands is in ([], refl, (x.0, h ++ c ∷ [], x.1, x.2, legal_with grows h d c lawful is, r))
