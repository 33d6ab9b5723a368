-- One run, from one stage to the next.
use Rattle.std.proofs.Common.{◌≡◌, ℕ, ◌≤◌, false, List, [], ◌∷◌, ◌++◌, Option, Some, None, refl, sym, ap, subst, ◌∙◌, inl, inr}
use Rattle.std.specs.Prelude.{◌⊎◌, IfSome}
use Rattle.cmp_ports.specs.Disk.{Every}
use Rattle.cmp_ports.specs.declared.disk.Disk.{Ghosts}
use Rattle.journal_core.specs.Log.{is_founded}
use Rattle.deal_changes.specs.declared.change.Change.{Change}
use Rattle.deal_model.specs.Views.{History}
use Rattle.deal_model.specs.Rules.{Allowed}
use Rattle.deal_model.specs.Laws.{GrowsLegally}
use Rattle.deal_table.specs.History.{Begins}
use Rattle.desk.specs.Images.{Recovers, RecoversWith, IsDoubt}
use Rattle.world_core.specs.declared.world.World.{World}
use Rattle.world_core.specs.declared.world.Step.{Step}
use Rattle.world_core.specs.declared.world.Step.TheVariants.{Found}
use Rattle.world_core.specs.Steps.{Run}
use Rattle.one_history.specs.Visits.{Ending, Ended, HaltedAfter, StoppedInside, Finding, Nothing, Blank, Holding, Visit, MayMake, IsCut, StopsLeave, IsSpared, IsFounding, GoesOn, IsVisitBy, HandsOn}
use Rattle.one_history.specs.Worlds.{making, doubting, sending, State, Running, IsDone, Works, Does, StoodAfter}
use Rattle.one_history.proofs.Images.{AtMostOne, recovered_founded, not_both}
use Rattle.one_history.proofs.Made.{at_some, single_legal, legal_all, begins_then, begins_more, made_none, made_more, made_all}
use Rattle.one_history.proofs.Leads.{opens_first, works_on}
use Rattle.one_history.proofs.Stages.{Stage, First, Up, Down, state_of, Extends, Knows, Shows}
use Rattle.one_history.proofs.Opening.{IsOpened, opened}
use Rattle.one_history.proofs.Stopping.{IsStopped, left_old, left_cut}

-- The run has led from one stage to the next.
pub record IsStepped {D A : Type 0} (g : Ghosts D) (M : History → Change → Type 0) (v : Visit D A) (f : Finding) (s : Stage) (w : World) (next : D) : Type 0 where
  pub own : List Step
  pub to : Stage
  pub does : Does v f (state_of s) own (state_of to)
  pub world : World
  pub run : Run w own world
  pub knows : Knows M to world
  pub images : Every (g.images next) (Shows M to)
  pub extends : (k : History) → Extends to k → Extends s k
  pub keeps : (h k : History) → Works v.ending → StoodAfter v f h → Extends to k → Begins h k
  pub ends : (h : History) → Works v.ending → f ≡ Holding h → to ≡ Up (h ++ v.made) v.doubt

-- What every disk keeps to: what reads give is one of its images, and this moment is one of those since an earlier one.
pub record IsDisk {D : Type 0} (g : Ghosts D) : Type 0 where
  pub honest : (d : D) (f : List ℕ) → g.content d ≡ Some f → g.images d f
  pub counts_now : (d : D) (t : ℕ) (c : List ℕ) → t ≤ g.moment d → g.images d c → g.left_since d t c

-- ---- endings

by_ending : (e : Ending) → (e ≡ StoppedInside) ⊎ Works e
by_ending Ended = inr (λ f. absurd cc)
by_ending HaltedAfter = inr (λ f. absurd cc)
by_ending StoppedInside = inl refl

done_all : (e : Ending) (before : State) (all : List Step) → Works e → IsDone e before all all Running
done_all Ended before all works = (refl, refl)
done_all HaltedAfter before all works = (refl, refl)
done_all StoppedInside before all works = absurd (works refl)

module _ {D A : Type 0} (g : Ghosts D) (disk : IsDisk g) (v : Visit D A) (next : D) where
  -- what holds of the images at the end of the run holds of those that the next one finds
  hand_end : (e : Ending) (Q : List ℕ → Type 0) → Works e → HandsOn g v e next → Every (g.images v.new) Q → Every (g.images next) Q
  hand_end Ended Q works hand each = subst (λ (d : D). Every (g.images d) Q) (sym hand) each
  hand_end HaltedAfter Q works hand each = λ c here. subst Q (sym (hand.2.settled c here)) (each hand.0 hand.1)
  hand_end StoppedInside Q works hand each = absurd (works refl)

  end_images : (P : List ℕ → Type 0) → StopsLeave g v P → Every (g.images v.new) P
  end_images P moments = λ c here. moments.each c (disk.counts_now v.new (g.moment v.old) c moments.later here)

  -- what a stop at any moment leaves holds of them too
  hand_any : (e : Ending) (P : List ℕ → Type 0) → HandsOn g v e next → StopsLeave g v P → Every (g.images next) P
  hand_any Ended P hand moments = hand_end Ended P (λ f. absurd cc) hand (end_images P moments)
  hand_any HaltedAfter P hand moments = hand_end HaltedAfter P (λ f. absurd cc) hand (end_images P moments)
  hand_any StoppedInside P hand moments = λ c here. subst P (sym (hand.2.settled c here)) (moments.each hand.0 hand.1)

-- ---- by what is found

module _ {D A : Type 0} (one : AtMostOne) (grows : GrowsLegally) (g : Ghosts D) (disk : IsDisk g) (M Own : History → Change → Type 0) (mine : (h : History) (c : Change) → Own h c → M h c)
    (v : Visit D A) (next : D) (content : List ℕ) (tells : g.content v.old ≡ Some content) (hand : HandsOn g v v.ending next) (s : Stage) (w : World) (known : Knows M s w) (shown : Every (g.images v.old) (Shows M s)) where
  -- the content is one of the images
  content_shows : Shows M s content
  content_shows = shown content (disk.honest v.old content tells)

  -- nothing
  step_nothing : IsSpared g v → IsStepped g M v Nothing s w next
  step_nothing spared = record {
    own = [];
    to = s;
    does = (refl, refl);
    world = w;
    run = refl;
    knows = known;
    images = λ c here. shown c (hand_any g disk v next v.ending (g.images v.old) hand spared.moments c here);
    extends = λ k e. e;
    keeps = λ h k works stood e. absurd stood;
    ends = λ h works f. absurd cc;
  }

  -- a stop of a run that goes on
  stopped_with : (h : History) → GoesOn g Own h v → v.ending ≡ StoppedInside → (made : List Change) (o : IsOpened M s w h) (image : List ℕ) → Every (g.images next) (λ c. c ≡ image)
      → IsStopped M s w image (o.opening ++ (making made ++ (doubting v.doubt ++ sending v.sent))) → IsStepped g M v (Holding h) s w next
  stopped_with h goes inside made o image settled left = record {
    own = left.own;
    to = left.to;
    does = (o.opening, made, o.is, subst (λ (e : Ending). IsDone e (state_of s) (o.opening ++ (making made ++ (doubting v.doubt ++ sending v.sent))) left.own (state_of left.to)) (sym inside) left.stop, λ works. absurd (works inside));
    world = left.world;
    run = left.run;
    knows = left.knows;
    images = λ c here. subst (Shows M left.to) (sym (settled c here)) left.shows;
    extends = left.extends;
    keeps = λ k l works stood e. absurd (works inside);
    ends = λ k works f. absurd (works inside);
  }

  stopped : (h : History) → GoesOn g Own h v → v.ending ≡ StoppedInside → IsOpened M s w h → IsStepped g M v (Holding h) s w next
  stopped h goes inside o =
      let hands : HandsOn g v StoppedInside next = subst (λ (e : Ending). HandsOn g v e next) inside hand in
      by_image hands (goes.moments.each hands.0 hands.1)
    where
      by_image : (hands : HandsOn g v StoppedInside next) → g.images v.old hands.0 ⊎ IsCut Own h hands.0 → IsStepped g M v (Holding h) s w next
      by_image hands (inl old) = stopped_with h goes inside v.made o hands.0 hands.2.settled (left_old grows M s w hands.0 _ known (shown hands.0 old))
      by_image hands (inr cut) = stopped_with h goes inside cut.0 o hands.0 hands.2.settled (left_cut grows M Own mine s w h hands.0 cut.0 (doubting v.doubt ++ sending v.sent) o goes.legal cut.1 cut.2)

  extends_end : (h : History) (t : Stage) → Extends t h → (k : History) → Begins (h ++ v.made) k → Extends t k
  extends_end h First found k b = tt
  extends_end h (Up l e) found k b = begins_then l h k found (begins_more h v.made k b)
  extends_end h (Down l) found k b = begins_then l h k found (begins_more h v.made k b)

  -- a run that comes to the end of its work
  worked : (h : History) → GoesOn g Own h v → Works v.ending → IsOpened M s w h → IsStepped g M v (Holding h) s w next
  worked h goes works o =
      let may : IfSome v.doubt (Allowed (h ++ v.made)) = both_parts v.doubt goes.doubts in
      let reached = works_on Own w o.opening h v.made v.doubt v.sent o.opens goes.makes may goes.sends in
      record {
        own = o.opening ++ (making v.made ++ (doubting v.doubt ++ sending v.sent));
        to = Up (h ++ v.made) v.doubt;
        does = (o.opening, v.made, o.is, done_all v.ending (state_of s) (o.opening ++ (making v.made ++ (doubting v.doubt ++ sending v.sent))) works, λ _. refl);
        world = reached.0;
        run = reached.1;
        knows = record {
          stands = reached.2;
          legal = legal_all grows Own h v.made goes.legal goes.makes;
          may = may;
          made = made_all M Own mine h v.made o.made goes.makes;
          doubted = both_made v.doubt goes.doubts;
        };
        images = hand_end g disk v next v.ending (RecoversWith (h ++ v.made) (IsDoubt v.doubt)) works hand goes.images;
        extends = extends_end h s o.extends;
        keeps = λ k l _ stood b. subst (λ (x : History). Begins x l) (sym stood) b;
        ends = λ k _ f. ap (λ (x : History). Up (x ++ v.made) v.doubt) (same_holding h k f);
      }
    where
      both_parts : (d : Option Change) → IfSome d (MayMake Own (h ++ v.made)) → IfSome d (Allowed (h ++ v.made))
      both_parts None may = tt
      both_parts (Some c) may = may.1

      both_made : (d : Option Change) → IfSome d (MayMake Own (h ++ v.made)) → IfSome d (M (h ++ v.made))
      both_made None may = tt
      both_made (Some c) may = mine (h ++ v.made) c may.0

      same_holding : (a b : History) → Holding a ≡ Holding b → a ≡ b
      same_holding a b e = cc

  step_holding : (h : History) → GoesOn g Own h v → IsStepped g M v (Holding h) s w next
  step_holding h goes =
      let o : IsOpened M s w h = opened one grows M s w h content known content_shows goes.legal (subst (λ (x : Option (List ℕ)). IfSome x (λ f. Recovers f h)) tells goes.found) in
      ending o (by_ending v.ending)
    where
      ending : IsOpened M s w h → (v.ending ≡ StoppedInside) ⊎ Works v.ending → IsStepped g M v (Holding h) s w next
      ending o (inl inside) = stopped h goes inside o
      ending o (inr works) = worked h goes works o

-- ---- a founding

module _ {D A : Type 0} (g : Ghosts D) (disk : IsDisk g) (M Own : History → Change → Type 0) (mine : (h : History) (c : Change) → Own h c → M h c)
    (v : Visit D A) (next : D) (hand : HandsOn g v v.ending next) (w : World) (founding : IsFounding g Own v) where
  -- what a stop leaves of a founding may be found by the next run as nothing, or as the first change
  begun : Knows M First w → Every (g.images v.old) (Shows M First) → (v.ending ≡ StoppedInside) ⊎ (v.made ≡ []) → IsStepped g M v Blank First w next
  begun known shown why = record {
    own = [];
    to = First;
    does = inl (refl, refl, why);
    world = w;
    run = refl;
    knows = known;
    images = λ c here. shows c (hand_any g disk v next v.ending _ hand founding.moments c here);
    extends = λ k e. e;
    keeps = λ h k works stood e. nothing h k works stood why;
    ends = λ h works f. absurd cc;
  }
    where
      shows : (c : List ℕ) → g.images v.old c ⊎ ((is_founded c ≡ false) ⊎ Recovers c (founding.first ∷ [])) → Shows M First c
      shows c (inl old) = shown c old
      shows c (inr (inl blank)) = inl blank
      shows c (inr (inr made)) = inr (founding.first, (mine [] founding.first founding.may.0, founding.may.1, made))

      nothing : (h k : History) → Works v.ending → h ≡ v.made → (v.ending ≡ StoppedInside) ⊎ (v.made ≡ []) → Begins h k
      nothing h k works stood (inl inside) = absurd (works inside)
      nothing h k works stood (inr none) = (k, subst (λ (x : History). k ≡ x ++ k) (sym (stood ∙ none)) refl)

  -- it is acknowledged
  acknowledged : Knows M First w → Works v.ending → v.made ≡ founding.first ∷ [] → Every (g.images v.new) (λ c. Recovers c (founding.first ∷ [])) → IsStepped g M v Blank First w next
  acknowledged known works made images =
      let c : Change = founding.first in
      let opens = opens_first c founding.may.1 in
      record {
        own = Found c ∷ [];
        to = Up (c ∷ []) None;
        does = inr (c, made, refl, refl, works);
        world = opens.0;
        run = subst (λ (x : World). Run x (Found c ∷ []) opens.0) (sym known) opens.1;
        knows = record { stands = opens.2; legal = single_legal c founding.may.1; may = tt; made = made_more M [] c (made_none M) (mine [] c founding.may.0); doubted = tt };
        images = λ image here. inl (hand_end g disk v next v.ending (λ x. Recovers x (c ∷ [])) works hand images image here);
        extends = λ k e. tt;
        keeps = λ h k _ stood b. subst (λ (x : History). Begins x k) (sym (stood ∙ made)) b;
        ends = λ h _ f. absurd cc;
      }

  found_first : Knows M First w → Every (g.images v.old) (Shows M First) → IsStepped g M v Blank First w next
  found_first known shown = by founding.made (by_ending v.ending)
    where
      by : ((v.made ≡ founding.first ∷ []) × Every (g.images v.new) (λ c. Recovers c (founding.first ∷ []))) ⊎ (v.made ≡ []) → (v.ending ≡ StoppedInside) ⊎ Works v.ending → IsStepped g M v Blank First w next
      by (inr none) e = begun known shown (inr none)
      by (inl made) (inl inside) = begun known shown (inl inside)
      by (inl made) (inr works) = acknowledged known works made.0 made.1

  -- a disk on which a service was found isn't blank
  pub step_blank : (s : Stage) (content : List ℕ) → g.content v.old ≡ Some content → Knows M s w → Every (g.images v.old) (Shows M s) → IsStepped g M v Blank s w next
  step_blank First content tells known shown = found_first known shown
  step_blank (Up h e) content tells known shown = absurd (blank_or (shown content (disk.honest v.old content tells)))
    where
      blank_or : RecoversWith h (IsDoubt e) content → ⊥
      blank_or (inl r) = not_both _ (is_founded content) (recovered_founded content h r) (at_some (λ f. is_founded f ≡ false) (g.content v.old) content founding.blank tells)
      blank_or (inr r) = not_both _ (is_founded content) (recovered_founded content (h ++ r.0 ∷ []) r.2) (at_some (λ f. is_founded f ≡ false) (g.content v.old) content founding.blank tells)
  step_blank (Down h) content tells known shown = not_both _ (is_founded content) (recovered_founded content h (shown content (disk.honest v.old content tells))) (at_some (λ f. is_founded f ≡ false) (g.content v.old) content founding.blank tells)

-- ---- all

pub stepped : {D A : Type 0} → AtMostOne → GrowsLegally → (g : Ghosts D) → IsDisk g → (M Own : History → Change → Type 0) → ((h : History) (c : Change) → Own h c → M h c) → (v : Visit D A) (next : D) (content : List ℕ) → g.content v.old ≡ Some content
    → HandsOn g v v.ending next → (s : Stage) (w : World) → Knows M s w → Every (g.images v.old) (Shows M s) → (f : Finding) → IsVisitBy g Own v f → IsStepped g M v f s w next
stepped one grows g disk M Own mine v next content tells hand s w known shown Nothing by = step_nothing one grows g disk M Own mine v next content tells hand s w known shown by.0
stepped one grows g disk M Own mine v next content tells hand s w known shown Blank by = step_blank g disk M Own mine v next hand w by.0 s content tells known shown
stepped one grows g disk M Own mine v next content tells hand s w known shown (Holding h) by = step_holding one grows g disk M Own mine v next content tells hand s w known shown h by
