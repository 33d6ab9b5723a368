-- The reply of a command that changes the history, from what the mount, the desk and the writing of its line say.
use Rattle.std.proofs.Common.{◌≡◌, ◌⊎◌, inl, inr, ⊎_elim, ℕ, List, Option, Some, None, Ok, sym, subst}
use Rattle.std.specs.Prelude.{IfSome}
use Rattle.cmp_ports.specs.Disk.{Among, LeavesOnly}
use Rattle.cmp_ports.specs.Moments.{weaker, joins}
use Rattle.journal_core.specs.declared.fault.MountFault.{MountFault}
use Rattle.journal_core.specs.declared.fault.MountFault.TheVariants as mounts
use Rattle.deal_changes.specs.declared.change.Change.{Change}
use Rattle.deal_model.specs.Views.{History}
use Rattle.deal_model.specs.Rules.{Allowed, Legal}
use Rattle.desk.specs.Images.{RecoversWith, IsDoubt, MayCome, Images}
use Rattle.desk.specs.Mounts.{Stands, Refuses}
use Rattle.cmpca_tool.specs.declared.status.Status.{Status}
use Rattle.cmpca_tool.specs.Mounts.{IsFaultReply, IsUnmounted, IsAnswer, TellsFault}
use Rattle.cmpca_tool.specs.Changes.{Deed, DiskRun, IsStep, IsUnchanged, IsChanged, run_of}
use Rattle.cmpca_tool.specs.Reply.{IsShowReply}
use Rattle.cmpca_tool.proofs.ShowLemmas.{OneAnswer, told, answer, unmounted}

no_memory_unmounted : (content : Option (List ℕ)) → IfSome content (λ f. IsUnmounted f mounts.NoMemory)
no_memory_unmounted None = tt
no_memory_unmounted (Some f) = tt

-- a fault of the mount that is told, or want of memory in its place
told_unmounted : OneAnswer → (content : Option (List ℕ)) (fault said : MountFault) → ((f : List ℕ) → content ≡ Some f → Refuses f fault) → (said ≡ fault) ⊎ (said ≡ mounts.NoMemory) → IfSome content (λ f. IsUnmounted f said)
told_unmounted one content fault said refuses is = ⊎_elim
    (λ same. subst (λ (m : MountFault). IfSome content (λ f. IsUnmounted f m)) (sym same) (told content (λ f. IsUnmounted f fault) (λ f e. unmounted one f fault (refuses f e))))
    (λ none. subst (λ (m : MountFault). IfSome content (λ f. IsUnmounted f m)) (sym none) (no_memory_unmounted content))
    is

-- the status and the text of a fault of the mount
tells_fault : OneAnswer → (content : Option (List ℕ)) (fault : MountFault) (status : Status) (text : List ℕ) → ((f : List ℕ) → content ≡ Some f → Refuses f fault) → IsFaultReply fault status text → TellsFault content status text
tells_fault one content fault status text refuses r = record { fault = r.told; unmounted = told_unmounted one content fault r.told refuses r.is_told; ends = r.ends; says = r.says }

-- the reply to show where the disk is not mounted
pub fault_reply : OneAnswer → (disk : DiskRun) (fault : MountFault) (status : Status) (text : List ℕ) → ((f : List ℕ) → disk.content_before ≡ Some f → Refuses f fault) → IsFaultReply fault status text → IsShowReply disk status text
fault_reply one disk fault status text refuses r = inr (tells_fault one disk.content_before fault status text refuses r)

-- where nothing is in doubt, an image recovers to the history alone
pub idle : (h : History) (d : Option Change) (P : Change → Type 0) (image : List ℕ) → d ≡ None → RecoversWith h (IsDoubt d) image → RecoversWith h P image
idle h d P image clear left = ⊎_elim (λ was. inl was) (λ more. absurd (cc (clear, more.1))) left

module _ {D : Type 0} (content : D → Option (List ℕ)) (images : D → List ℕ → Type 0) (moment : D → ℕ) (left_since : D → ℕ → List ℕ → Type 0) (honest : (d : D) (f : List ℕ) → content d ≡ Some f → images d f) where
  -- a run whose disk is not mounted
  pub unmounted_run : OneAnswer → (old new : D) (fault : MountFault) (status : Status) (text : List ℕ)
      → ((f : List ℕ) → content old ≡ Some f → Refuses f fault)
      → content new ≡ content old → Among (images old) (images new) → LeavesOnly moment left_since old new (images old)
      → IsFaultReply fault status text → TellsFault (content old) status text × IsUnchanged (run_of content images moment left_since old new)
  unmounted_run one old new fault status text refuses same crash moments r = (
    tells_fault one (content old) fault status text refuses r,
    record { content = same; crash = crash; moments = moments },
  )

  -- a run that acted on the history h, which the mount left on the disk mid, and left g with e in doubt
  pub changed_run : OneAnswer → (old mid new : D) (Acts : Deed) (IsOwn : History → Change → Type 0) (h g : History) (e : Option Change) (status : Status) (text : List ℕ)
      → ((f : List ℕ) → content old ≡ Some f → Stands f h)
      → LeavesOnly moment left_since old mid (images old) → LeavesOnly moment left_since mid new (RecoversWith h (MayCome (IsOwn h) h))
      → Images (images new) g e → ∥ Legal g × IfSome e (Allowed g) ∥₁ → IsStep (IsOwn h) h g e
      → Acts h status text g e → IsChanged (run_of content images moment left_since old new) Acts IsOwn status text
  changed_run one old mid new Acts IsOwn h g e status text stands mounting acting stand lawful makes acts =
      let P : List ℕ → Type 0 = λ image. images old image ⊎ RecoversWith h (MayCome (IsOwn h) h) image in
      record {
        before = h;
        after = g;
        doubt = e;
        mounted = told (content old) (λ f. IsAnswer f (Ok h)) (λ f is. answer one f (Ok h) (stands f is));
        makes = makes;
        acts = acts;
        content = told (content new) (RecoversWith g (IsDoubt e)) (λ f is. stand f (honest new f is));
        images = stand;
        lawful = lawful;
        moments = joins moment left_since old mid new P
            (weaker moment left_since old mid (images old) P mounting (λ image left. inl left))
            (weaker moment left_since mid new (RecoversWith h (MayCome (IsOwn h) h)) P acting (λ image left. inr left));
      }

-- ---- the same over a disk that is lent to the desk by a reference

module _ {D R : Type 0} (now : R → D) (content : D → Option (List ℕ)) (images : D → List ℕ → Type 0) (moment : D → ℕ) (left_since : D → ℕ → List ℕ → Type 0) (honest : (d : D) (f : List ℕ) → content d ≡ Some f → images d f) where
  -- what a reference leaves, its disk leaves
  pub lent : (old new : R) (P : List ℕ → Type 0) → LeavesOnly (λ r. moment (now r)) (λ r t. left_since (now r) t) old new P → LeavesOnly moment left_since (now old) (now new) P
  lent old new P left = record { later = left.later; each = left.each; before = left.before }

  -- the disk that the mount gave back is the run's last one
  pub gave_back : OneAnswer → (old new : R) (last : D) (fault : MountFault) (status : Status) (text : List ℕ)
      → now new ≡ last
      → ((f : List ℕ) → content (now old) ≡ Some f → Refuses f fault)
      → content (now new) ≡ content (now old) → Among (images (now old)) (images (now new)) → LeavesOnly (λ r. moment (now r)) (λ r t. left_since (now r) t) old new (images (now old))
      → IsFaultReply fault status text → TellsFault (content (now old)) status text × IsUnchanged (run_of content images moment left_since (now old) last)
  gave_back one old new last fault status text back refuses same crash moments r =
      subst (λ (d : D). TellsFault (content (now old)) status text × IsUnchanged (run_of content images moment left_since (now old) d)) back
      (unmounted_run content images moment left_since honest one (now old) (now new) fault status text refuses same crash (lent old new (images (now old)) moments) r)

  -- the disk that the desk leaves is the run's last one
  pub acted : OneAnswer → (old mid new : R) (last : D) (Acts : Deed) (IsOwn : History → Change → Type 0) (h g : History) (e : Option Change) (status : Status) (text : List ℕ)
      → now new ≡ last
      → ((f : List ℕ) → content (now old) ≡ Some f → Stands f h)
      → LeavesOnly (λ r. moment (now r)) (λ r t. left_since (now r) t) old mid (images (now old))
      → LeavesOnly (λ r. moment (now r)) (λ r t. left_since (now r) t) mid new (RecoversWith h (MayCome (IsOwn h) h))
      → Images (images (now new)) g e → ∥ Legal g × IfSome e (Allowed g) ∥₁ → IsStep (IsOwn h) h g e
      → Acts h status text g e → IsChanged (run_of content images moment left_since (now old) last) Acts IsOwn status text
  acted one old mid new last Acts IsOwn h g e status text back stands mounting acting stand lawful makes acts =
      subst (λ (d : D). IsChanged (run_of content images moment left_since (now old) d) Acts IsOwn status text) back
      (changed_run content images moment left_since honest one (now old) (now mid) (now new) Acts IsOwn h g e status text stands (lent old mid (images (now old)) mounting) (lent mid new (RecoversWith h (MayCome (IsOwn h) h)) acting) stand lawful makes acts)
