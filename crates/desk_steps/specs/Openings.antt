-- How a service comes by its history: by a founding, by the first mount of what a founding left, and by each later mount. And what a
-- stop leaves for that mount.
use Rattle.std.specs.Prelude.{◌≡◌, ◌⊎◌, ℕ, Bool, false, List, [], ◌∷◌, Option, None, if◌then◌else◌}
use Rattle.journal_core.specs.Log.{is_founded}
use Rattle.cmp_ports.specs.declared.order.Order.{Order}
use Rattle.deal_changes.specs.declared.change.Kind.{Kind}
use Rattle.deal_changes.specs.declared.change.Credential.{Credential}
use Rattle.deal_changes.specs.declared.change.Settings.{Settings}
use Rattle.deal_changes.specs.declared.change.Change.{Change}
use Rattle.deal_changes.specs.Spelling.{spelling}
use Rattle.deal_model.specs.declared.asking.Checked.{Checked}
use Rattle.deal_model.specs.Views.{History}
use Rattle.deal_model.specs.Rules.{Allowed, Legal}
use Rattle.desk.specs.Images.{Recovers, RecoversWith, IsDoubt, DoubtOr, MayCome}
use Rattle.desk.specs.Due.{IsLapse}
use Rattle.desk.specs.Calls.{IsOrder}
use Rattle.desk.specs.Founded.{founding, IsBegun}
use Rattle.desk.specs.Listings.{IsEnlisting, IsDismissal}
use Rattle.desk.specs.Mounts.{Stands}
use Rattle.desk.specs.Verdicts.{LeftMakes}
use Rattle.world_core.specs.declared.world.World.{World}
use Rattle.world_core.specs.declared.world.Step.{Step}
use Rattle.world_core.specs.declared.world.Step.TheVariants.{Found, Crash, Reopen}
use Rattle.world_core.specs.Steps.{with_change, founded, Run}
use Rattle.desk_steps.specs.Steps.{StandsFor, SendsNothing, IsStopped, settling, adding, Lead, StopsIn, IsLawful}

-- ---- openings

-- The steps lead from the world that everything begins with to one that the desk stands for.
abbrev pub Begin : List Step → History → Option Change → Type 0
Begin ss g e = (v : World) × Run founded ss v × StandsFor v g e × SendsNothing founded v

-- The steps lead from every stopped world with this history to one that the desk stands for.
abbrev pub Restart : History → List Step → History → Option Change → Type 0
Restart h ss g e = (w : World) → IsStopped w h → (v : World) × Run w ss v × StandsFor v g e × SendsNothing w v

-- A founding that answers Ok is the step that founds.
abbrev pub FoundIsSteps : Type 0
FoundIsSteps = (s : Settings) (now : ℕ) (g : History) (e : Option Change) → Allowed [] (founding s now) → (g ≡ founding s now ∷ []) × (e ≡ None)
    → Begin (Found (founding s now) ∷ []) g e

-- Where no founding answered so, the first mount that answers Ok finds what a stop or a fault inside a founding left of a disk that
-- wasn't founded: its change. The mount is the step that founds.
abbrev pub FirstMountIsSteps : Type 0
FirstMountIsSteps = (c : Change) (image : List ℕ) (g : History) (e : Option Change) → Allowed [] c → IsBegun (λ x. is_founded x ≡ false) (spelling c) image → Stands image g × (e ≡ None)
    → (g ≡ c ∷ []) × Begin (Found c ∷ []) g e

-- A mount behind a desk that was let go of, or stopped between two calls: the disk has one of the desk's images. The service stops,
-- and what was in doubt is kept or lost, as the mount finds it; and it starts again.
abbrev pub MountIsSteps : Type 0
MountIsSteps = (h g : History) (d e : Option Change) (image : List ℕ) → IsLawful h d → RecoversWith h (IsDoubt d) image → Stands image g × (e ≡ None)
    → (keep : Bool) × (g ≡ (if keep then with_change h d else h)) × Lead h d (Crash keep ∷ Reopen ∷ []) g e

-- A mount behind a stop inside a call: the service starts again, with the history that the stop left.
abbrev pub RemountIsSteps : Type 0
RemountIsSteps = (h g : History) (e : Option Change) (image : List ℕ) → Legal h → Recovers image h → Stands image g × (e ≡ None)
    → (g ≡ h) × Restart h (Reopen ∷ []) g e

-- ---- stops

-- the steps that a call takes that adds a change of its own, or only takes back what was in doubt
abbrev pub IsTaking : Option Change → (Change → Type 0) → List Step → Type 0
IsTaking d Own ss = (ss ≡ settling d) ⊎ ((c : Change) × Own c × (ss ≡ adding d c))

-- A stop inside such steps leaves a stopped service whose history is legal, and which the image recovers to.
abbrev pub StopLeaves : (List Step → Type 0) → History → Option Change → List ℕ → Type 0
StopLeaves By h d image = (w : World) → StandsFor w h d → (ss : List Step) × By ss × ((v : World) × (k : History) × StopsIn w ss v × IsStopped v k × Legal k × Recovers image k)

-- the image is one that a stop inside a call leaves which makes such a change, as the call's contract has it
abbrev pub MayBeLeft : History → Option Change → (Change → Type 0) → List ℕ → Type 0
MayBeLeft h d Own image = RecoversWith h (DoubtOr d (MayCome Own h)) image

abbrev pub DecideStops : Type 0
DecideStops = (h : History) (d : Option Change) (k : Checked) (now : ℕ) (words image : List ℕ) → IsLawful h d → MayBeLeft h d (LeftMakes h k now words) image → StopLeaves (IsTaking d (LeftMakes h k now words)) h d image

abbrev pub LapseStops : Type 0
LapseStops = (h : History) (d : Option Change) (time : ℕ) (image : List ℕ) → IsLawful h d → MayBeLeft h d (IsLapse h time) image → StopLeaves (IsTaking d (IsLapse h time)) h d image

abbrev pub OrderStops : Type 0
OrderStops = (h : History) (d : Option Change) (order : Order) (time : ℕ) (image : List ℕ) → IsLawful h d → MayBeLeft h d (IsOrder order time) image → StopLeaves (IsTaking d (IsOrder order time)) h d image

abbrev pub EnlistStops : Type 0
EnlistStops = (h : History) (d : Option Change) (list : List Credential) (time : ℕ) (image : List ℕ) → IsLawful h d → MayBeLeft h d (IsEnlisting list time) image → StopLeaves (IsTaking d (IsEnlisting list time)) h d image

abbrev pub DismissStops : Type 0
DismissStops = (h : History) (d : Option Change) (kind : Kind) (kid : List ℕ) (time : ℕ) (image : List ℕ) → IsLawful h d → MayBeLeft h d (IsDismissal kind kid time) image → StopLeaves (IsTaking d (IsDismissal kind kid time)) h d image

-- between two calls, and inside one that only reads, there are no steps
abbrev pub IdleStops : Type 0
IdleStops = (h : History) (d : Option Change) (image : List ℕ) → IsLawful h d → RecoversWith h (IsDoubt d) image → StopLeaves (λ ss. ss ≡ []) h d image
