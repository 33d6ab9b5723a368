-- A command that changes a history by one change at most makes a visit.
use Rattle.std.proofs.Common.{◌≡◌, ℕ, List, [], ◌∷◌, ◌++◌, Option, Some, Ok, refl, sym, subst, ◌∙◌, inl, inr}
use Rattle.std.specs.Prelude.{◌⊎◌, IfSome}
use Rattle.std.proofs.lemmas.List.{append-nil}
use Rattle.cmp_ports.specs.Disk.{Every, LeavesOnly}
use Rattle.cmp_ports.specs.declared.disk.Disk.{Ghosts}
use Rattle.deal_changes.specs.declared.change.Change.{Change}
use Rattle.deal_model.specs.Views.{History}
use Rattle.desk.specs.Images.{Recovers, RecoversWith, IsDoubt, MayCome}
use Rattle.one_history.specs.Visits.{Ending, Holding, Visit, MayMake, MayMakeAll, IsCut, IsVisit}
use Rattle.one_history.specs.Causes.{Asked}
use Rattle.one_history.specs.Headline.{MayCause}
use Rattle.cmpca_tool.specs.Mounts.{IsAnswer}
use Rattle.cmpca_tool.specs.Changes.{run_of, Deed, IsStep, IsChanged}
use Rattle.cmpca_tool.specs.declared.status.Status.{Status}

-- the visit that was asked this, and goes on from the history before to the one after
pub record IsVisited {D : Type 0} (g : Ghosts D) (old new : D) (asked : Asked) (ending : Ending) (before after : History) (v : Visit D Asked) : Type 0 where
  pub asks : v.asked ≡ asked
  pub from : v.old ≡ old
  pub to : v.new ≡ new
  pub ends : v.ending ≡ ending
  pub found : v.finding ≡ Holding before
  pub made : before ++ v.made ≡ after
  pub is : IsVisit g (MayCause v.asked) v

-- ---- what a stop leaves

pub leaves_more : {D : Type 0} (moment : D → ℕ) (left_since : D → ℕ → List ℕ → Type 0) (old new : D) (P Q : List ℕ → Type 0) → ((c : List ℕ) → P c → Q c) → LeavesOnly moment left_since old new P → LeavesOnly moment left_since old new Q
leaves_more {D} moment left_since old new P Q more m = record {
  later = m.later;
  each = λ c here. more c (m.each c here);
  before = λ t c early here. either t c (m.before t c early here);
}
  where
    either : (t : ℕ) (c : List ℕ) → left_since old t c ⊎ P c → left_since old t c ⊎ Q c
    either t c (inl past) = inl past
    either t c (inr holds) = inr (more c holds)

-- ---- one step

-- the changes that a step makes, and the one that it leaves in doubt
record IsMade (Own : History → Change → Type 0) (before after : History) (doubt : Option Change) (cs : List Change) : Type 0 where
  joins : before ++ cs ≡ after
  may : MayMakeAll Own before cs
  doubts : IfSome doubt (MayMake Own (before ++ cs))

step_makes : (Own Is : History → Change → Type 0) (before after : History) (doubt : Option Change) → ((c : Change) → Is before c → Own before c) → IsStep (Is before) before after doubt → (cs : List Change) × IsMade Own before after doubt cs
step_makes Own Is before after doubt each (inl same) = ([], record { joins = append-nil before ∙ sym same.0; may = tt; doubts = subst (λ d. IfSome d (MayMake Own (before ++ []))) (sym same.1) tt })
step_makes Own Is before after doubt each (inr (c, may, inl same)) = (
  c ∷ [],
  record {
    joins = sym same.0;
    may = ((each c may.0, may.1), tt);
    doubts = subst (λ d. IfSome d (MayMake Own (before ++ c ∷ []))) (sym same.1) tt;
  },
)
step_makes Own Is before after doubt each (inr (c, may, inr same)) = (
  [],
  record {
    joins = append-nil before ∙ sym same.0;
    may = tt;
    doubts = subst (λ d. IfSome d (MayMake Own (before ++ []))) (sym same.1) (subst (λ h. MayMake Own h c) (sym (append-nil before)) (each c may.0, may.1));
  },
)

step_cut : (Own Is : History → Change → Type 0) (before : History) → ((c : Change) → Is before c → Own before c) → (image : List ℕ) → RecoversWith before (MayCome (Is before) before) image → IsCut Own before image
step_cut Own Is before each image (inl r) = ([], tt, subst (Recovers image) (sym (append-nil before)) r)
step_cut Own Is before each image (inr r) = (r.0 ∷ [], ((each r.0 r.1.0, r.1.1), tt), r.2)

-- ---- the visit

pub changed : {D : Type 0} (g : Ghosts D) (old new : D) (Acts : Deed) (IsOwn : History → Change → Type 0) (status : Status) (text : List ℕ) (asked : Asked) (ending : Ending) (content : List ℕ) → g.content old ≡ Some content
    → (x : IsChanged (run_of g.content g.images g.moment g.left_since old new) Acts IsOwn status text) → ((c : Change) → IsOwn x.before c → MayCause asked x.before c)
    → (v : Visit D Asked) × IsVisited g old new asked ending x.before x.after v
changed {D} g old new Acts IsOwn status text asked ending content tells x each = by (step_makes (MayCause asked) IsOwn x.before x.after x.doubt each x.makes)
  where
    mounted : IsAnswer content (Ok x.before)
    mounted = subst (λ (o : Option (List ℕ)). IfSome o (λ f. IsAnswer f (Ok x.before))) tells x.mounted

    either : (c : List ℕ) → g.images old c ⊎ RecoversWith x.before (MayCome (IsOwn x.before) x.before) c → g.images old c ⊎ IsCut (MayCause asked) x.before c
    either c (inl past) = inl past
    either c (inr r) = inr (step_cut (MayCause asked) IsOwn x.before each c r)

    by : (cs : List Change) × IsMade (MayCause asked) x.before x.after x.doubt cs → (v : Visit D Asked) × IsVisited g old new asked ending x.before x.after v
    by (cs, made) = (
      record { asked = asked; old = old; new = new; ending = ending; finding = Holding x.before; made = cs; doubt = x.doubt; sent = [] },
      record {
        asks = refl;
        from = refl;
        to = refl;
        ends = refl;
        found = refl;
        made = made.joins;
        is = record {
          content = content;
          tells = tells;
          by = record {
            legal = mounted.holds.2;
            found = subst (λ (o : Option (List ℕ)). IfSome o (λ f. Recovers f x.before)) (sym tells) mounted.holds.1;
            makes = made.may;
            doubts = made.doubts;
            images = subst (λ (h : History). Every (g.images new) (RecoversWith h (IsDoubt x.doubt))) (sym made.joins) x.images;
            moments = leaves_more g.moment g.left_since old new (λ c. g.images old c ⊎ RecoversWith x.before (MayCome (IsOwn x.before) x.before) c) (λ c. g.images old c ⊎ IsCut (MayCause asked) x.before c) either x.moments;
            sends = tt;
          };
        };
      },
    )
