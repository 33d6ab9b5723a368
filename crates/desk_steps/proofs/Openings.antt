-- Foundings and mounts are steps.
use Rattle.std.proofs.Common.{◌≡◌, ℕ, Bool, true, false, List, [], ◌∷◌, ◌++◌, length, Option, Some, None, Result, Ok, refl, sym, ap, subst, inl, inr}
use Rattle.journal_core.specs.declared.fault.MountFault.{MountFault}
use Rattle.journal_core.specs.Log.{is_founded}
use Rattle.deal_changes.specs.declared.change.Change.{Change}
use Rattle.deal_changes.specs.Spelling.{spelling}
use Rattle.deal_model.specs.Views.{History}
use Rattle.deal_model.specs.Rules.{Allowed, Legal}
use Rattle.deal_model.specs.Laws.{GrowsLegally}
use Rattle.desk.specs.Images.{Recovers}
use Rattle.desk.specs.Founded.{founding, IsBegun}
use Rattle.desk.specs.Mounts.{Stands}
use Rattle.desk_laws.specs.Answers.{Holds}
use Rattle.world_core.specs.declared.world.World.{World}
use Rattle.world_core.specs.declared.world.Step.{Step}
use Rattle.world_core.specs.declared.world.Step.TheVariants.{Found, Crash, Reopen}
use Rattle.world_core.specs.Steps.{with_change, founded, after, Run}
use Rattle.desk_steps.specs.Steps.{StandsFor, SendsNothing, IsStopped, Lead}
use Rattle.desk_steps.specs.Openings.{Begin, Restart, FoundIsSteps, FirstMountIsSteps, MountIsSteps, RemountIsSteps}
use Rattle.desk_steps.proofs.Stops.{legal_with}

-- ---- an image holds one history

-- of an image at most one answer holds
abbrev pub AtMostOne : Type 0
AtMostOne = (image : List ℕ) (x y : Result History MountFault) → Holds image x → Holds image y → x ≡ y

abbrev SameAnswer : Result History MountFault → Result History MountFault → Type 0
SameAnswer x y = x ≡ y

same_ok : (h k : History) → SameAnswer (Ok h) (Ok k) → h ≡ k
same_ok h k e = cc

-- what is mounted is the history that the image recovers to
mounted_is : AtMostOne → (image : List ℕ) (g h : History) → Stands image g → Legal h → Recovers image h → g ≡ h
mounted_is one image g h stands legal found = same_ok g h (one image (Ok g) (Ok h) stands (stands.0, found, legal))

-- the first change alone
single_legal : (c : Change) → Allowed [] c → Legal (c ∷ [])
single_legal c may = ((λ e. cc e), (may, tt))

-- ---- the first one

begins : (c : Change) → Allowed [] c → Begin (Found c ∷ []) (c ∷ []) None
begins c may = (
  after founded (Found c),
  (after founded (Found c), inl ((refl, may), refl), refl),
  record { up = refl; durable = refl; pending = refl; doubt = refl; acked = refl },
  record { signed = refl; sent = refl },
)

begins_so : (c : Change) (g : History) (e : Option Change) → Allowed [] c → g ≡ c ∷ [] → e ≡ None → Begin (Found c ∷ []) g e
begins_so c g e may same clear = subst (λ (x : History). Begin (Found c ∷ []) x e) (sym same) (subst (λ (x : Option Change). Begin (Found c ∷ []) (c ∷ []) x) (sym clear) (begins c may))

pub found : FoundIsSteps
found s now g e may ends = begins_so (founding s now) g e may ends.0 ends.1

not_both : (P : Type 0) (b : Bool) → b ≡ true → b ≡ false → P
not_both P b holds fails = absurd cc

first_is : AtMostOne → (c : Change) (image : List ℕ) (g : History) → Allowed [] c → IsBegun (λ x. is_founded x ≡ false) (spelling c) image → Stands image g → g ≡ c ∷ []
first_is one c image g may (inl blank) stands = not_both (g ≡ c ∷ []) (is_founded image) stands.0 blank
first_is one c image g may (inr (inl blank)) stands = not_both (g ≡ c ∷ []) (is_founded image) stands.0 blank
first_is one c image g may (inr (inr begun)) stands = mounted_is one image g (c ∷ []) stands (single_legal c may) begun

pub first_mount : AtMostOne → FirstMountIsSteps
first_mount one c image g e may begun ends =
    let same : g ≡ c ∷ [] = first_is one c image g may begun ends.0 in
    (same, begins_so c g e may same ends.1)

-- ---- later ones

restarts : (h : History) → Restart h (Reopen ∷ []) h None
restarts h w stopped = (
  after w Reopen,
  (after w Reopen, inl (stopped.down, refl), refl),
  record { up = refl; durable = stopped.durable; pending = stopped.pending; doubt = stopped.doubt; acked = ap length stopped.durable },
  record { signed = refl; sent = refl },
)

pub remount : AtMostOne → RemountIsSteps
remount one h g e image legal found ends =
    let same : g ≡ h = mounted_is one image g h ends.0 legal found in
    (same, subst (λ (x : History). Restart h (Reopen ∷ []) x e) (sym same) (subst (λ (x : Option Change). Restart h (Reopen ∷ []) h x) (sym ends.1) (restarts h)))

-- the service stops, and starts again with what is kept
stopped_by : (w : World) (h : History) (d : Option Change) (keep : Bool) (k : History) → StandsFor w h d → IsStopped (after w (Crash keep)) k → (v : World) × Run w (Crash keep ∷ Reopen ∷ []) v × StandsFor v k None × SendsNothing w v
stopped_by w h d keep k stands stopped =
    let rest = restarts k (after w (Crash keep)) stopped in
    (rest.0, (after w (Crash keep), inl (stands.up, refl), rest.1), rest.2, record { signed = rest.3.signed; sent = rest.3.sent })

lost : (h : History) (d : Option Change) → Lead h d (Crash false ∷ Reopen ∷ []) h None
lost h d w stands = stopped_by w h d false h stands (record { down = refl; durable = stands.durable; pending = refl; doubt = refl })

kept : (h : History) (d : Option Change) → Lead h d (Crash true ∷ Reopen ∷ []) (with_change h d) None
kept h d w stands =
    let same : (after w (Crash true)).durable ≡ with_change h d = rw (stands.pending, stands.doubt, stands.durable) refl in
    stopped_by w h d true (with_change h d) stands (record { down = refl; durable = same; pending = refl; doubt = refl })

with_it : (h g : History) (d : Option Change) (c : Change) → d ≡ Some c → g ≡ h ++ c ∷ [] → g ≡ with_change h d
with_it h g d c is e = subst (λ (x : Option Change). g ≡ with_change h x) (sym is) e

leads_so : (h g k : History) (d e : Option Change) (ss : List Step) → g ≡ k → e ≡ None → Lead h d ss k None → Lead h d ss g e
leads_so h g k d e ss same clear lead = subst (λ (x : History). Lead h d ss x e) (sym same) (subst (λ (x : Option Change). Lead h d ss k x) (sym clear) lead)

pub mount : AtMostOne → GrowsLegally → MountIsSteps
mount one grows h g d e image lawful (inl r) ends =
    let same : g ≡ h = mounted_is one image g h ends.0 lawful.0 r in
    (false, same, leads_so h g h d e (Crash false ∷ Reopen ∷ []) same ends.1 (lost h d))
mount one grows h g d e image lawful (inr (c, is, r)) ends =
    let same : g ≡ with_change h d = with_it h g d c is (mounted_is one image g (h ++ c ∷ []) ends.0 (legal_with grows h d c lawful is) r) in
    (true, same, leads_so h g (with_change h d) d e (Crash true ∷ Reopen ∷ []) same ends.1 (kept h d))
