-- The reply to show, from what the mount says of the disk's content.
use Rattle.std.proofs.Common.{◌≡◌, ℕ, inl, inr, List, Option, Some, None, Result, Ok, Err, refl}
use Rattle.std.specs.Prelude.{IfSome}
use Rattle.journal_core.specs.declared.fault.MountFault.{MountFault}
use Rattle.journal_core.specs.declared.fault.MountFault.TheVariants as mounts
use Rattle.deal_model.specs.Views.{History}
use Rattle.deal_model.specs.Rules.{Legal}
use Rattle.deal_lines.specs.Lines.{lines_of}
use Rattle.cmp_ports.specs.Disk.{Every}
use Rattle.desk.specs.Images.{Recovers}
use Rattle.desk.specs.Mounts.{Stands, Refuses}
use Rattle.desk_laws.specs.Answers.{Holds}
use Rattle.cmpca_tool.specs.Changes.{DiskRun}
use Rattle.cmpca_tool.specs.Mounts.{IsUnmounted, IsAnswer, fault_status, fault_line}
use Rattle.cmpca_tool.specs.Reply.{IsShowReply}
use Rattle.cmpca_tool.specs.declared.status.Status.{Status}
use Rattle.cmpca_tool.specs.declared.status.Status.TheVariants.{Done}

-- the law of images and mounts
abbrev pub OneAnswer : Type 0
OneAnswer = (image : List ℕ) (x y : Result History MountFault) → Holds image x → Holds image y → x ≡ y

-- what holds of a content that is told
pub told : (content : Option (List ℕ)) (P : List ℕ → Type 0) → ((f : List ℕ) → content ≡ Some f → P f) → IfSome content (λ f. P f)
told None P h = tt
told (Some f) P h = h f refl

pub answer : OneAnswer → (f : List ℕ) (x : Result History MountFault) → Holds f x → IsAnswer f x
answer one f x holds = record { holds = holds; sole = λ y other. one f y x other holds }

pub unmounted : OneAnswer → (f : List ℕ) (fault : MountFault) → Refuses f fault → IsUnmounted f fault
unmounted one f mounts.NotFounded refused = answer one f (Err mounts.NotFounded) refused
unmounted one f (mounts.Damaged at) refused = answer one f (Err (mounts.Damaged at)) refused
unmounted one f mounts.DiskFault refused = tt
unmounted one f mounts.NoMemory refused = tt

-- the reply where it is
pub lines_reply : OneAnswer → (disk : DiskRun) (history : History) (status : Status) (text : List ℕ) → ((f : List ℕ) → disk.content_before ≡ Some f → Stands f history)
    → Every disk.images_after (λ f. Recovers f history) → Legal history → status ≡ Done → text ≡ lines_of history → IsShowReply disk status text
lines_reply one disk history status text stands images legal ends says =
    inl record { history = history; legal = legal; mounted = told disk.content_before (λ f. IsAnswer f (Ok history)) (λ f e. answer one f (Ok history) (stands f e)); images = images; ends = ends; says = says }

-- the reply where memory runs out
pub no_memory_reply : (disk : DiskRun) (status : Status) (text : List ℕ) → status ≡ fault_status mounts.NoMemory → text ≡ fault_line mounts.NoMemory → IsShowReply disk status text
no_memory_reply disk status text ends says = inr record { fault = mounts.NoMemory; unmounted = told disk.content_before (λ f. IsUnmounted f mounts.NoMemory) (λ f e. tt); ends = ends; says = says }
