-- What a run makes of the history on its disk.
use Rattle.std.specs.Prelude.{◌≡◌, ◌⊎◌, ℕ, List, [], ◌∷◌, ◌++◌, Option, Some, None, IfSome, Ok}
use Rattle.cmp_ports.specs.Disk.{Among, Every, LeavesOnly}
use Rattle.deal_changes.specs.declared.change.Change.{Change}
use Rattle.deal_model.specs.Views.{History}
use Rattle.deal_model.specs.Rules.{Allowed, Legal}
use Rattle.desk.specs.Calls.{IsSame}
use Rattle.desk.specs.Images.{RecoversWith, IsDoubt, MayCome}
use Rattle.cmpca_tool.specs.Mounts.{IsAnswer}
use Rattle.cmpca_tool.specs.declared.status.Status.{Status}

-- What a disk tells of a run: what reads gave before and after, what a crash might have left before and after, and which
-- properties each image has that a stop at some moment of the run might have left.
pub record DiskRun : Type 1 where
  pub content_before : Option (List ℕ)
  pub content_after : Option (List ℕ)
  pub images_before : List ℕ → Type 0
  pub images_after : List ℕ → Type 0
  pub stops_leave : (List ℕ → Type 0) → Type 0

abbrev pub run_of : {D : Type 0} → (D → Option (List ℕ)) → (D → List ℕ → Type 0) → (D → ℕ) → (D → ℕ → List ℕ → Type 0) → D → D → DiskRun
run_of content images moment left_since old new = record {
  content_before = content old;
  content_after = content new;
  images_before = images old;
  images_after = images new;
  stops_leave = λ P. LeavesOnly moment left_since old new P;
}

-- The run changes nothing: the disk holds what it held, and a stop leaves an image from before.
pub record IsUnchanged (disk : DiskRun) : Type 0 where
  pub content : disk.content_after ≡ disk.content_before
  pub crash : Among disk.images_before disk.images_after
  pub moments : disk.stops_leave disk.images_before

-- What a command does to a history h, which is g after it with the change e in doubt: how it ends, and what it writes.
abbrev pub Deed : Type 1
Deed = (h : History) (status : Status) (text : List ℕ) (g : History) (e : Option Change) → Type 0

-- One step of a history: none, or one change of one's own that may come next, which stands behind it then or is in doubt.
abbrev pub IsStep : (Change → Type 0) → History → History → Option Change → Type 0
IsStep Own h g e = IsSame h None g e ⊎ ((c : Change) × MayCome Own h c × (IsSame (h ++ c ∷ []) None g e ⊎ IsSame h (Some c) g e))

-- The command acts on the one history that stands in the disk's content where it is told, and leaves the disk with the history
-- after it, which is one step further by the command's own change: each image recovers to that, or to that with the change in doubt. A stop at any moment leaves
-- an image from before the run, or one that recovers to the history before, or to that with the command's own change, which may come
-- next.
pub record IsChanged (disk : DiskRun) (Acts : Deed) (IsOwn : History → Change → Type 0) (status : Status) (text : List ℕ) : Type 0 where
  pub before : History
  pub after : History
  pub doubt : Option Change
  pub mounted : IfSome disk.content_before (λ f. IsAnswer f (Ok before))
  pub makes : IsStep (IsOwn before) before after doubt
  pub acts : Acts before status text after doubt
  pub content : IfSome disk.content_after (RecoversWith after (IsDoubt doubt))
  pub images : Every disk.images_after (RecoversWith after (IsDoubt doubt))
  pub lawful : ∥ Legal after × IfSome doubt (Allowed after) ∥₁
  pub moments : disk.stops_leave (λ image. disk.images_before image ⊎ RecoversWith before (MayCome (IsOwn before) before) image)
