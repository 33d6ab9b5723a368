-- How the calls of a clerk follow one another.
use Rattle.std.proofs.Common.{◌≡◌, ℕ, List, [], ◌++◌, Option, Some, None, refl, sym, ap, subst, ◌∙◌, inl, inr, ⊎_elim, append_assoc, arith}
use Rattle.std.specs.Prelude.{IfSome}
use Rattle.std.proofs.lemmas.List.{append-nil}
use Rattle.cmp_ports.specs.Disk.{Every}
use Rattle.cmp_ports.specs.Moments.{started, weaker, joins}
use Rattle.deal_changes.specs.declared.change.Change.{Change}
use Rattle.deal_changes.specs.declared.change.Settings.{Settings}
use Rattle.deal_model.specs.Views.{History, founding, settings_of}
use Rattle.deal_table.proofs.Stays.{settings_stay}
use Rattle.deal_table.specs.History.{Begins, IsFounded}
use Rattle.desk.specs.declared.clerk.Clerk.{Ghosts}
use Rattle.desk.specs.Images.{RecoversWith, IsDoubt, MayCome, DoubtOr}
use Rattle.front.specs.Clerks.{clerked, IsAlone, IsLawful, Goes}
use Rattle.front.specs.Courses.{IsAsked}
use Rattle.front.specs.Fronts.{HasSettings}

-- ---- histories

pub begins_itself : (h : History) → Begins h h
begins_itself h = ([], sym (append-nil h))

pub begins_so : {a b : History} → a ≡ b → Begins a b
begins_so {a} {b} e = ([], sym e ∙ sym (append-nil a))

pub begins_on : (a b c : History) → Begins a b → Begins b c → Begins a c
begins_on a b c (m, e) (n, f) = (m ++ n, f ∙ ap (λ (x : History). x ++ n) e ∙ append_assoc a m n)

-- the service keeps its settings
pub has_on : (a b : History) (s : Settings) → HasSettings a s → Begins a b → HasSettings b s
has_on a b s has (more, e) = subst (λ (h : History). HasSettings h s) (sym e) (settings_stay a more s has)

pub has_by : (h : History) (s : Settings) → IsFounded h → settings_of h ≡ s → HasSettings h s
has_by h s (t, e, name) same = e ∙ ap Some (sym (settings_is h t e) ∙ same)
  where
    settings_is : (h : History) (s : Settings) → founding h ≡ Some s → settings_of h ≡ s
    settings_is h s e = rw e refl

pub settings_by : (h : History) (s : Settings) → HasSettings h s → settings_of h ≡ s
settings_by h s e = rw e refl

-- ---- what may be left

-- whatever is left without the second choice is left with it
pub weaker_images : (a b : History) (P Q : Change → Type 0) → b ≡ a → ((c : Change) → P c → Q c) → (image : List ℕ) → RecoversWith b P image → RecoversWith a Q image
weaker_images a b P Q e less image left = subst (λ (h : History). RecoversWith h Q image) e (⊎_elim (λ r. inl r) (λ (m : (c : Change) × P c × _). inr (m.0, less m.0 m.1, m.2)) left)

pub doubted : (o : Option Change) (Q : Change → Type 0) → ((c : Change) → o ≡ Some c → Q c) → IfSome o Q
doubted None Q each = tt
doubted (Some c) Q each = each c refl

pub in_doubt : (o : Option Change) (Q : Change → Type 0) (c : Change) → IfSome o Q → o ≡ Some c → Q c
in_doubt o Q c all e = let f = subst (λ (x : Option Change). IfSome x Q) e all in f

module _ {K : Type 0} (g : Ghosts K) where
  alone_on : (old new : K) → (clerked g new).held ≡ (clerked g old).held → IsAlone (clerked g old) → IsAlone (clerked g new)
  alone_on old new held alone = ap (λ h. h.table) held ∙ alone

  -- a clerk that was asked
  pub asked_goes : (old new : K) (Own : Change → Type 0) → IsAsked g old new → Goes g old new Own
  asked_goes old new Own a = record {
    grown = a.grown;
    lawful = a.lawful;
    held = a.held;
    later = omega (arith, a.faults);
    doubt = λ alone. doubted (g.doubt new) (DoubtOr (g.doubt old) (MayCome Own (g.seen old))) (λ c e. inl (sym a.doubt ∙ e));
    moments = λ alone. weaker g.moment g.left_since old new _ _ a.moments (weaker_images (g.seen old) (g.seen old) (IsDoubt (g.doubt old)) (DoubtOr (g.doubt old) (MayCome Own (g.seen old))) refl (λ c d. inl d));
  }

  pub asked_nothing : (old : K) → IsLawful (clerked g old) → Every (g.left_since old (g.moment old)) (RecoversWith (g.seen old) (IsDoubt (g.doubt old))) → IsAsked g old old
  asked_nothing old lawful stands = record {
    grown = begins_itself (g.seen old);
    lawful = lawful;
    held = refl;
    mine = refl;
    faults = refl;
    alone = λ alone. refl;
    doubt = refl;
    moments = started g.moment g.left_since old _ stands;
  }

  -- one after another
  pub goes_on : (old mid new : K) (Own : Change → Type 0) → Goes g old mid Own → (IsAlone (clerked g old) → g.seen mid ≡ g.seen old) → Goes g mid new Own → Goes g old new Own
  goes_on old mid new Own first same second = record {
    grown = begins_on (g.seen old) (g.seen mid) (g.seen new) first.grown second.grown;
    lawful = second.lawful;
    held = second.held ∙ first.held;
    later = omega (arith, first.later, second.later);
    doubt = λ alone. doubted (g.doubt new) (DoubtOr (g.doubt old) (MayCome Own (g.seen old))) (λ c e. still alone c (in_doubt (g.doubt new) _ c (second.doubt (alone_on old mid first.held alone)) e));
    moments = λ alone. joins g.moment g.left_since old mid new _ (first.moments alone)
        (weaker g.moment g.left_since mid new _ _ (second.moments (alone_on old mid first.held alone))
        (weaker_images (g.seen old) (g.seen mid) (DoubtOr (g.doubt mid) (MayCome Own (g.seen mid))) (DoubtOr (g.doubt old) (MayCome Own (g.seen old))) (same alone) (still alone)));
  }
    where
      still : IsAlone (clerked g old) → (c : Change) → DoubtOr (g.doubt mid) (MayCome Own (g.seen mid)) c → DoubtOr (g.doubt old) (MayCome Own (g.seen old)) c
      still alone c d = ⊎_elim (λ e. in_doubt (g.doubt mid) _ c (first.doubt alone) e) (λ own. inr (subst (λ (h : History). MayCome Own h c) (same alone) own)) d

  -- by another word for the change
  pub goes_as : (old new : K) (Own Other : Change → Type 0) → Goes g old new Own → (IsAlone (clerked g old) → (c : Change) → Own c → Other c) → Goes g old new Other
  goes_as old new Own Other goes to = record {
    grown = goes.grown;
    lawful = goes.lawful;
    held = goes.held;
    later = goes.later;
    doubt = λ alone. doubted (g.doubt new) (DoubtOr (g.doubt old) (MayCome Other (g.seen old))) (λ c e. other alone c (in_doubt (g.doubt new) _ c (goes.doubt alone) e));
    moments = λ alone. weaker g.moment g.left_since old new _ _ (goes.moments alone) (weaker_images (g.seen old) (g.seen old) (DoubtOr (g.doubt old) (MayCome Own (g.seen old))) (DoubtOr (g.doubt old) (MayCome Other (g.seen old))) refl (other alone));
  }
    where
      other : IsAlone (clerked g old) → (c : Change) → DoubtOr (g.doubt old) (MayCome Own (g.seen old)) c → DoubtOr (g.doubt old) (MayCome Other (g.seen old)) c
      other alone c d = ⊎_elim (λ e. inl e) (λ own. inr (to alone c own.0, own.1)) d
