-- Runs of a program on one disk: what a run finds there, what it makes of it, and what it leaves to the next one.
use Rattle.std.specs.Prelude.{◌≡◌, ◌⊎◌, ℕ, ◌≤◌, false, List, [], ◌∷◌, ◌++◌, length, Option, Some, None, IfSome}
use Rattle.std.specs.List.{AllByRecursion}
use Rattle.cmp_ports.specs.Disk.{Among, Every, LeavesOnly}
use Rattle.cmp_ports.specs.declared.disk.Disk.{Ghosts}
use Rattle.journal_core.specs.Log.{is_founded}
use Rattle.deal_changes.specs.declared.change.Change.{Change}
use Rattle.deal_model.specs.Views.{History}
use Rattle.deal_model.specs.Rules.{Allowed, Legal}
use Rattle.desk.specs.Images.{Recovers, RecoversWith, IsDoubt}

-- ---- what a run is

-- A run comes to its end; or the machine stops as its replies are written, or later; or it stops inside the run's work, with nothing
-- written.
pub data Ending : Type 0 where
  Ended HaltedAfter StoppedInside : Ending

-- A run goes on from nothing; or founds a service on a blank disk; or goes on from the history that it finds.
pub data Finding : Type 0 where
  Nothing : Finding
  Blank : Finding
  Holding : History → Finding

-- A run: what it was asked, the disk before it and after it, how it ends, what it finds, the changes that it makes and that stand by
-- it at the end of its work, the one that it leaves in doubt, and the places whose replies it writes. Of a run that is stopped this
-- is what it would be without the stop.
pub record Visit (D A : Type 0) : Type 0 where
  pub asked : A
  pub old : D
  pub new : D
  pub ending : Ending
  pub finding : Finding
  pub made : List Change
  pub doubt : Option Change
  pub sent : List ℕ

-- ---- what it may make of a history

-- for what was asked it makes this change behind this history, and the change may come next
abbrev pub MayMake : (History → Change → Type 0) → History → Change → Type 0
MayMake Own h c = Own h c × Allowed h c

-- these changes, each behind those before it
abbrev pub MayMakeAll : (History → Change → Type 0) → History → List Change → Type 0
MayMakeAll Own h [] = Unit {0}
MayMakeAll Own h (c ∷ cs) = MayMake Own h c × MayMakeAll Own (h ++ c ∷ []) cs

-- the image recovers to the history with some of what it may make
abbrev pub IsCut : (History → Change → Type 0) → History → List ℕ → Type 0
IsCut Own h image = (cs : List Change) × MayMakeAll Own h cs × Recovers image (h ++ cs)

-- ---- what it does to the disk

-- a stop at any moment of the run leaves such an image
abbrev pub StopsLeave : {D A : Type 0} → Ghosts D → Visit D A → (List ℕ → Type 0) → Type 0
StopsLeave g v P = LeavesOnly g.moment g.left_since v.old v.new P

-- nothing
pub record IsSpared {D A : Type 0} (g : Ghosts D) (v : Visit D A) : Type 0 where
  pub content : g.content v.new ≡ g.content v.old
  pub crash : Among (g.images v.old) (g.images v.new)
  pub moments : StopsLeave g v (g.images v.old)

-- It founds a service by its first change; or the founding is cut off, by a fault of the disk or for want of memory.
pub record IsFounding {D A : Type 0} (g : Ghosts D) (Own : History → Change → Type 0) (v : Visit D A) : Type 0 where
  pub first : Change
  pub may : MayMake Own [] first
  pub blank : IfSome (g.content v.old) (λ f. is_founded f ≡ false)
  pub made : ((v.made ≡ first ∷ []) × Every (g.images v.new) (λ c. Recovers c (first ∷ []))) ⊎ (v.made ≡ [])
  pub clear : v.doubt ≡ None
  pub moments : StopsLeave g v (λ c. g.images v.old c ⊎ ((is_founded c ≡ false) ⊎ Recovers c (first ∷ [])))

-- It goes on from the history that the disk's content holds: it makes changes behind it, and one more may be in doubt.
pub record GoesOn {D A : Type 0} (g : Ghosts D) (Own : History → Change → Type 0) (h : History) (v : Visit D A) : Type 0 where
  pub legal : Legal h
  pub found : IfSome (g.content v.old) (λ f. Recovers f h)
  pub makes : MayMakeAll Own h v.made
  pub doubts : IfSome v.doubt (MayMake Own (h ++ v.made))
  pub images : Every (g.images v.new) (RecoversWith (h ++ v.made) (IsDoubt v.doubt))
  pub moments : StopsLeave g v (λ c. g.images v.old c ⊎ IsCut Own h c)
  pub sends : AllByRecursion (λ n. (1 ≤ n) × (n ≤ length (h ++ v.made))) v.sent

abbrev pub IsVisitBy : {D A : Type 0} → Ghosts D → (History → Change → Type 0) → Visit D A → Finding → Type 0
IsVisitBy g Own v Nothing = IsSpared g v × (v.made ≡ []) × (v.doubt ≡ None) × (v.sent ≡ [])
IsVisitBy g Own v Blank = IsFounding g Own v × (v.sent ≡ [])
IsVisitBy g Own v (Holding h) = GoesOn g Own h v

-- A run on a disk that tells what it holds.
pub record IsVisit {D A : Type 0} (g : Ghosts D) (Own : History → Change → Type 0) (v : Visit D A) : Type 0 where
  pub content : List ℕ
  pub tells : g.content v.old ≡ Some content
  pub by : IsVisitBy g Own v v.finding

-- ---- run after run

-- after a stop that left this image the disk holds it, and a further stop leaves it so
pub record Restarts {D : Type 0} (g : Ghosts D) (image : List ℕ) (next : D) : Type 0 where
  pub content : g.content next ≡ Some image
  pub settled : Every (g.images next) (λ c. c ≡ image)

-- what the next run finds: the same disk; or an image of the run's end; or one of some moment inside it
abbrev pub HandsOn : {D A : Type 0} → Ghosts D → Visit D A → Ending → D → Type 0
HandsOn g v Ended next = next ≡ v.new
HandsOn g v HaltedAfter next = (image : List ℕ) × g.images v.new image × Restarts g image next
HandsOn g v StoppedInside next = (image : List ℕ) × g.left_since v.new (g.moment v.old) image × Restarts g image next

-- The runs follow on one another, from this disk to the last one. Each makes what it was asked for.
abbrev pub AreRuns : {D A : Type 0} → Ghosts D → (A → History → Change → Type 0) → D → List (Visit D A) → D → Type 0
AreRuns g Own d [] last = last ≡ d
AreRuns {D} g Own d (v ∷ vs) last = (v.old ≡ d) × IsVisit g (Own v.asked) v × ((next : D) × HandsOn g v v.ending next × AreRuns g Own next vs last)

-- no service was founded on the disk
abbrev pub IsEmpty : {D : Type 0} → Ghosts D → D → Type 0
IsEmpty g d = Every (g.images d) (λ c. is_founded c ≡ false)
