-- Which steps of the world a desk's call is, by how it ends. It goes from the history h, with the change d in doubt, to the history
-- g, with the change e in doubt.
use Rattle.std.specs.Prelude.{◌≡◌, ◌⊎◌, ℕ, List, [], ◌∷◌, ◌++◌, Option, Some, None, IfSome}
use Rattle.cmp_ports.specs.declared.order.Order.{Order}
use Rattle.deal_changes.specs.declared.change.Kind.{Kind}
use Rattle.deal_changes.specs.declared.change.Credential.{Credential}
use Rattle.deal_changes.specs.declared.change.Change.{Change}
use Rattle.deal_model.specs.declared.asking.Checked.{Checked}
use Rattle.deal_model.specs.Views.{History}
use Rattle.deal_model.specs.Rules.{Allowed}
use Rattle.desk.specs.declared.answers.Lapsed.{Lapsed}
use Rattle.desk.specs.declared.answers.Lapsed.TheVariants as lapsed
use Rattle.desk.specs.declared.answers.Ordered.{Ordered}
use Rattle.desk.specs.declared.answers.Ordered.TheVariants as ordered
use Rattle.desk.specs.declared.answers.Listing.{Listing}
use Rattle.desk.specs.declared.answers.Listing.TheVariants as listing
use Rattle.desk.specs.declared.verdict.Verdict.{Verdict}
use Rattle.desk.specs.declared.verdict.Verdict.TheVariants as verdict
use Rattle.desk.specs.Images.{DoubtOr}
use Rattle.desk.specs.Due.{IsLapse}
use Rattle.desk.specs.Calls.{IsSame, IsOrder, IsLapsed, IsOrdered}
use Rattle.desk.specs.Listings.{IsEnlisting, IsEnlisted, IsDismissal, IsDismissed}
use Rattle.desk.specs.Verdicts.{LeftMakes, IsLeft}
use Rattle.world_core.specs.declared.world.World.{World}
use Rattle.world_core.specs.declared.world.Step.{Step}
use Rattle.desk_steps.specs.Steps.{StandsFor, IsStopped, settling, adding, failing, StopsIn, IsLawful, AreSteps}

-- ---- the table of calls

-- how a change was added: it stands; there was no room for it; it is in doubt; memory ran out
pub data Adding : Type 0 where
  Stands Full InDoubt NoMemory : Adding

-- What was in doubt is taken back first. Where there is no room that was done or not, and where the disk failed at it nothing
-- was.
abbrev pub IsAddedBy : Option Change → Change → Adding → List Step → Type 0
IsAddedBy d c Stands ss = ss ≡ adding d c
IsAddedBy d c Full ss = (ss ≡ []) ⊎ (ss ≡ settling d)
IsAddedBy d c InDoubt ss = (ss ≡ []) ⊎ (ss ≡ failing d c)
IsAddedBy d c NoMemory ss = ss ≡ []

-- a call that adds a change of its own so, or adds none
abbrev pub IsCallBy : Option Change → (Change → Type 0) → Option Adding → List Step → Type 0
IsCallBy d Own None ss = ss ≡ []
IsCallBy d Own (Some end) ss = (c : Change) × Own c × IsAddedBy d c end ss

-- how the change of a lapse, an order, a listing or a dismissal was added
abbrev pub lapse_adds : Lapsed → Option Adding
lapse_adds (lapsed.Done place tid) = Some Stands
lapse_adds lapsed.Nothing = None
lapse_adds lapsed.Full = Some Full
lapse_adds lapsed.DiskFault = Some InDoubt
lapse_adds lapsed.NoMemory = None

abbrev pub order_adds : Ordered → Option Adding
order_adds (ordered.Done place) = Some Stands
order_adds ordered.NotHeld = None
order_adds ordered.Full = Some Full
order_adds ordered.DiskFault = Some InDoubt
order_adds ordered.NoMemory = None

abbrev pub listing_adds : Listing → Option Adding
listing_adds (listing.Done place) = Some Stands
listing_adds (listing.InUse index) = None
listing_adds listing.Unknown = None
listing_adds listing.Already = None
listing_adds listing.Full = Some Full
listing_adds listing.DiskFault = Some InDoubt
listing_adds listing.NoMemory = None

-- A decision adds its own change; or it takes back what was in doubt, and is told of the history; or the disk failed at that, or
-- at the change; or memory ran out.
abbrev pub IsDecidedBy : Option Change → (Change → Type 0) → Verdict → List Step → Type 0
IsDecidedBy d Own (verdict.Done r) ss = Own r.change × (ss ≡ adding d r.change)
IsDecidedBy d Own (verdict.Again r place time) ss = ss ≡ settling d
IsDecidedBy d Own (verdict.Refused fail place time is_guarded to_outer) ss = ss ≡ settling d
IsDecidedBy d Own (verdict.Stale place) ss = ss ≡ settling d
IsDecidedBy d Own verdict.DiskFault ss = (ss ≡ []) ⊎ ((c : Change) × Own c × (ss ≡ failing d c))
IsDecidedBy d Own verdict.NoMemory ss = ss ≡ []

-- ---- the laws

-- What only reads, as a look and what is asked of a Grant, leaves history and doubt as they were, and is no step.
abbrev pub LookedIsSteps : Type 0
LookedIsSteps = (h g : History) (d e : Option Change) → IsSame h d g e → AreSteps (λ ss. ss ≡ []) h d g e

abbrev pub DecidedIsSteps : Type 0
DecidedIsSteps = (h g : History) (d e : Option Change) (k : Checked) (now : ℕ) (words : List ℕ) (v : Verdict) → IsLawful h d → IsLawful g e → IsLeft k now words h d v g e
    → AreSteps (IsDecidedBy d (LeftMakes h k now words) v) h d g e

abbrev pub LapsedIsSteps : Type 0
LapsedIsSteps = (h g : History) (d e : Option Change) (time : ℕ) (end : Lapsed) → IsLawful h d → IsLawful g e → IsLapsed h d time end g e
    → AreSteps (IsCallBy d (IsLapse h time) (lapse_adds end)) h d g e

abbrev pub OrderedIsSteps : Type 0
OrderedIsSteps = (h g : History) (d e : Option Change) (order : Order) (time : ℕ) (end : Ordered) → IsLawful h d → IsLawful g e → IsOrdered h d order time end g e
    → AreSteps (IsCallBy d (IsOrder order time) (order_adds end)) h d g e

abbrev pub EnlistedIsSteps : Type 0
EnlistedIsSteps = (h g : History) (d e : Option Change) (list : List Credential) (time : ℕ) (end : Listing) → IsLawful h d → IsLawful g e → IsEnlisted h d list time end g e
    → AreSteps (IsCallBy d (IsEnlisting list time) (listing_adds end)) h d g e

abbrev pub DismissedIsSteps : Type 0
DismissedIsSteps = (h g : History) (d e : Option Change) (kind : Kind) (kid : List ℕ) (time : ℕ) (end : Listing) → IsLawful h d → IsLawful g e → IsDismissed h d kind kid time end g e
    → AreSteps (IsCallBy d (IsDismissal kind kid time) (listing_adds end)) h d g e

-- What a stop inside such a call may leave, the history with the change in doubt, with the call's own, or with neither, is what a
-- stop inside its steps leaves.
abbrev pub StopIsSteps : Type 0
StopIsSteps = (h k : History) (d : Option Change) (c : Change) (w : World) → StandsFor w h d → IfSome d (Allowed h) → Allowed h c
    → (k ≡ h) ⊎ ((x : Change) × DoubtOr d (λ y. y ≡ c) x × (k ≡ h ++ x ∷ [])) → (v : World) × StopsIn w (adding d c) v × IsStopped v k
