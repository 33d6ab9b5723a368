-- Each call's end, and its steps.
use Rattle.std.proofs.Common.{◌≡◌, ℕ, List, [], ◌∷◌, ◌++◌, Option, Some, None, refl, sym, subst, inl, inr}
use Rattle.std.specs.Prelude.{◌⊎◌, IfSome}
use Rattle.cmp_ports.specs.declared.order.Order.{Order}
use Rattle.deal_changes.specs.declared.change.Kind.{Kind}
use Rattle.deal_changes.specs.declared.change.Credential.{Credential}
use Rattle.deal_changes.specs.declared.change.Change.{Change}
use Rattle.deal_changes.specs.declared.change.Change.TheVariants.{Lapse}
use Rattle.deal_model.specs.declared.asking.Checked.{Checked}
use Rattle.deal_model.specs.Views.{History}
use Rattle.deal_model.specs.Rules.{Allowed}
use Rattle.desk.specs.declared.answers.Lapsed.{Lapsed}
use Rattle.desk.specs.declared.answers.Lapsed.TheVariants as lapsed
use Rattle.desk.specs.declared.answers.Ordered.{Ordered}
use Rattle.desk.specs.declared.answers.Ordered.TheVariants as ordered
use Rattle.desk.specs.declared.answers.Listing.{Listing}
use Rattle.desk.specs.declared.answers.Listing.TheVariants as listing
use Rattle.desk.specs.declared.verdict.Verdict.{Verdict}
use Rattle.desk.specs.declared.verdict.Verdict.TheVariants as verdict
use Rattle.desk.specs.Due.{IsLapse}
use Rattle.desk.specs.Calls.{IsSame, IsOrder, IsLapsed, IsOrdered}
use Rattle.desk.specs.Listings.{IsEnlisting, IsEnlisted, IsDismissal, IsDismissed}
use Rattle.desk.specs.Verdicts.{LeftMakes, IsLeft}
use Rattle.world_core.specs.declared.world.Step.{Step}
use Rattle.desk_steps.specs.Steps.{settling, adding, failing, Lead, IsLawful, AreSteps}
use Rattle.desk_steps.specs.Calls.{Adding, Stands, Full, InDoubt, IsCallBy, lapse_adds, order_adds, listing_adds, IsDecidedBy}
use Rattle.desk_steps.proofs.Leading.{stays, settled, added, failed, last_allowed, doubt_allowed}

-- ---- where nothing was added, and where something was

-- the same steps to the same history and doubt
there : (h g k : History) (d e f : Option Change) (ss : List Step) → Lead h d ss g e → k ≡ g → f ≡ e → Lead h d ss k f
there h g k d e f ss lead same also = subst (λ (x : History). Lead h d ss x f) (sym same) (subst (λ (x : Option Change). Lead h d ss g x) (sym also) lead)

same_leads : (h g : History) (d e : Option Change) → IsSame h d g e → Lead h d [] g e
same_leads h g d e same = there h h g d d e [] (stays h d) same.0 same.1

settled_leads : (h g : History) (d e : Option Change) → IsSame h None g e → Lead h d (settling d) g e
settled_leads h g d e same = there h h g d None e (settling d) (settled h d) same.0 same.1

-- nothing was done
pub looked : (h g : History) (d e : Option Change) → IsSame h d g e → AreSteps (λ ss. ss ≡ []) h d g e
looked h g d e same = ([], refl, same_leads h g d e same)

-- no change is added
none : (Own : Change → Type 0) (h g : History) (d e : Option Change) → IsSame h d g e → AreSteps (IsCallBy d Own None) h d g e
none Own h g d e same = ([], refl, same_leads h g d e same)

-- the call's change is added so
abbrev Adds : (Change → Type 0) → History → Option Change → Adding → History → Option Change → Type 0
Adds Own h d end g e = AreSteps (IsCallBy d Own (Some end)) h d g e

stands : (Own : Change → Type 0) (h g : History) (d e : Option Change) (c : Change) → Own c → Allowed h c × (g ≡ h ++ c ∷ []) × (e ≡ None) → Adds Own h d Stands g e
stands Own h g d e c own made = (adding d c, (c, own, refl), there h (h ++ c ∷ []) g d None e (adding d c) (added h d c made.0) made.1 made.2)

full : (Own : Change → Type 0) (h g : History) (d e : Option Change) (c : Change) → Own c → g ≡ h → (e ≡ None) ⊎ (e ≡ d) → Adds Own h d Full g e
full Own h g d e c own same (inl clear) = (settling d, (c, own, inr refl), settled_leads h g d e (same, clear))
full Own h g d e c own same (inr kept) = ([], (c, own, inl refl), same_leads h g d e (same, kept))

in_doubt : (P : Type 0) (Own : Change → Type 0) (h g : History) (d e : Option Change) (c : Change) → IfSome e (Allowed g) → Own c → g ≡ h → (e ≡ Some c) ⊎ (P × (e ≡ d)) → Adds Own h d InDoubt g e
in_doubt P Own h g d e c may own same (inl new) = (failing d c, (c, own, inr refl), there h h g d (Some c) e (failing d c) (failed h d c (doubt_allowed h g e c may same new)) same new)
in_doubt P Own h g d e c may own same (inr kept) = ([], (c, own, inl refl), same_leads h g d e (same, kept.1))

-- ---- decisions

fault : (P : Type 0) (Own : Change → Type 0) (h g : History) (d e : Option Change) → IfSome e (Allowed g) → g ≡ h → ((c : Change) × Own c × (e ≡ Some c)) ⊎ (P × (e ≡ d)) → AreSteps (IsDecidedBy d Own verdict.DiskFault) h d g e
fault P Own h g d e may same (inl new) = (failing d new.0, inr (new.0, new.1, refl), there h h g d (Some new.0) e (failing d new.0) (failed h d new.0 (doubt_allowed h g e new.0 may same new.2)) same new.2)
fault P Own h g d e may same (inr kept) = ([], inl refl, same_leads h g d e (same, kept.1))

pub decided_of : (h g : History) (d e : Option Change) (k : Checked) (now : ℕ) (words : List ℕ) (v : Verdict) → IsLawful g e → IsLeft k now words h d v g e → AreSteps (IsDecidedBy d (LeftMakes h k now words) v) h d g e
decided_of h g d e k now words (verdict.Done r) later left =
    let may : Allowed h r.change = last_allowed h g r.change later.0 left.1.grown in
    (adding d r.change, (left.0, refl), there h (h ++ r.change ∷ []) g d None e (adding d r.change) (added h d r.change may) left.1.grown left.2)
decided_of h g d e k now words (verdict.Again r place time) later left = (settling d, refl, settled_leads h g d e left.3)
decided_of h g d e k now words (verdict.Refused fail place time is_guarded to_outer) later left = (settling d, refl, settled_leads h g d e left.2)
decided_of h g d e k now words (verdict.Stale place) later left = (settling d, refl, settled_leads h g d e left.1)
decided_of h g d e k now words verdict.DiskFault later left = fault _ (LeftMakes h k now words) h g d e later.1 left.0 left.1
decided_of h g d e k now words verdict.NoMemory later left = ([], refl, same_leads h g d e left)

pub decided : (h g : History) (d e : Option Change) (k : Checked) (now : ℕ) (words : List ℕ) (v : Verdict) → IsLawful h d → IsLawful g e → IsLeft k now words h d v g e → AreSteps (IsDecidedBy d (LeftMakes h k now words) v) h d g e
decided h g d e k now words v before later left = decided_of h g d e k now words v later left

-- ---- lapses, orders, listings and dismissals

-- what is left in doubt after a fault has to be a change that may come next
pub lapses_of : (h g : History) (d e : Option Change) (time : ℕ) (end : Lapsed) → (end ≡ lapsed.DiskFault → IfSome e (Allowed g)) → IsLapsed h d time end g e → AreSteps (IsCallBy d (IsLapse h time) (lapse_adds end)) h d g e
lapses_of h g d e time (lapsed.Done place tid) may ends = stands (IsLapse h time) h g d e (Lapse time tid) (tid, ends.0, refl) ends.1
lapses_of h g d e time lapsed.Nothing may ends = none (IsLapse h time) h g d e ends.1
lapses_of h g d e time lapsed.Full may ends = full (IsLapse h time) h g d e (Lapse time ends.0) (ends.0, ends.1, refl) ends.2.1 ends.2.2
lapses_of h g d e time lapsed.DiskFault may ends = in_doubt _ (IsLapse h time) h g d e (Lapse time ends.0) (may refl) (ends.0, ends.1, refl) ends.2.0 ends.2.1
lapses_of h g d e time lapsed.NoMemory may ends = none (IsLapse h time) h g d e ends

pub lapses : (h g : History) (d e : Option Change) (time : ℕ) (end : Lapsed) → IsLawful h d → IsLawful g e → IsLapsed h d time end g e → AreSteps (IsCallBy d (IsLapse h time) (lapse_adds end)) h d g e
lapses h g d e time end before later ends = lapses_of h g d e time end (λ _. later.1) ends

pub orders_of : (h g : History) (d e : Option Change) (order : Order) (time : ℕ) (end : Ordered) → (end ≡ ordered.DiskFault → IfSome e (Allowed g)) → IsOrdered h d order time end g e → AreSteps (IsCallBy d (IsOrder order time) (order_adds end)) h d g e
orders_of h g d e order time (ordered.Done place) may ends = stands (IsOrder order time) h g d e ends.0.1.0 ends.0.1.1 ends.0.1.2
orders_of h g d e order time ordered.NotHeld may ends = none (IsOrder order time) h g d e ends.1
orders_of h g d e order time ordered.Full may ends = full (IsOrder order time) h g d e ends.1.0 ends.1.1 ends.1.2.1 ends.1.2.2
orders_of h g d e order time ordered.DiskFault may ends = in_doubt _ (IsOrder order time) h g d e ends.1.0 (may refl) ends.1.1 ends.1.2.0 ends.1.2.1
orders_of h g d e order time ordered.NoMemory may ends = none (IsOrder order time) h g d e ends

pub orders : (h g : History) (d e : Option Change) (order : Order) (time : ℕ) (end : Ordered) → IsLawful h d → IsLawful g e → IsOrdered h d order time end g e → AreSteps (IsCallBy d (IsOrder order time) (order_adds end)) h d g e
orders h g d e order time end before later ends = orders_of h g d e order time end (λ _. later.1) ends

pub enlists : (h g : History) (d e : Option Change) (list : List Credential) (time : ℕ) (end : Listing) → IsLawful h d → IsLawful g e → IsEnlisted h d list time end g e → AreSteps (IsCallBy d (IsEnlisting list time) (listing_adds end)) h d g e
enlists h g d e list time (listing.Done place) before later ends = stands (IsEnlisting list time) h g d e _ refl ends.1
enlists h g d e list time (listing.InUse index) before later ends = none (IsEnlisting list time) h g d e ends.1
enlists h g d e list time listing.Unknown before later ends = elim ends [ ]
enlists h g d e list time listing.Already before later ends = elim ends [ ]
enlists h g d e list time listing.Full before later ends = full (IsEnlisting list time) h g d e _ refl ends.1.1 ends.1.2
enlists h g d e list time listing.DiskFault before later ends = in_doubt _ (IsEnlisting list time) h g d e _ later.1 refl ends.1.0 ends.1.1
enlists h g d e list time listing.NoMemory before later ends = none (IsEnlisting list time) h g d e ends

pub dismisses : (h g : History) (d e : Option Change) (kind : Kind) (kid : List ℕ) (time : ℕ) (end : Listing) → IsLawful h d → IsLawful g e → IsDismissed h d kind kid time end g e → AreSteps (IsCallBy d (IsDismissal kind kid time) (listing_adds end)) h d g e
dismisses h g d e kind kid time (listing.Done place) before later ends = stands (IsDismissal kind kid time) h g d e _ refl ends.1
dismisses h g d e kind kid time (listing.InUse index) before later ends = elim ends [ ]
dismisses h g d e kind kid time listing.Unknown before later ends = none (IsDismissal kind kid time) h g d e ends.1
dismisses h g d e kind kid time listing.Already before later ends = none (IsDismissal kind kid time) h g d e ends.2
dismisses h g d e kind kid time listing.Full before later ends = full (IsDismissal kind kid time) h g d e _ refl ends.1.1 ends.1.2
dismisses h g d e kind kid time listing.DiskFault before later ends = in_doubt _ (IsDismissal kind kid time) h g d e _ later.1 refl ends.1.0 ends.1.1
dismisses h g d e kind kid time listing.NoMemory before later ends = none (IsDismissal kind kid time) h g d e ends
