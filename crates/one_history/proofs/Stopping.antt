-- What a run leaves that is stopped inside its work.
use Rattle.std.proofs.Common.{◌≡◌, ℕ, Bool, true, false, List, [], ◌∷◌, ◌++◌, length, refl, sym, ap, subst, inl, inr}
use Rattle.std.specs.Prelude.{IsTrue}
use Rattle.std.proofs.Math.Seq.{take-append_seam}
use Rattle.deal_changes.specs.declared.change.Change.{Change}
use Rattle.deal_model.specs.Views.{History}
use Rattle.deal_model.specs.Rules.{Allowed, Legal}
use Rattle.deal_model.specs.Laws.{GrowsLegally}
use Rattle.desk.specs.Images.{Recovers}
use Rattle.world_core.specs.declared.world.World.{World}
use Rattle.world_core.specs.declared.world.Step.{Step}
use Rattle.world_core.specs.declared.world.Step.TheVariants.{Found, Crash}
use Rattle.world_core.specs.Steps.{after, Run}
use Rattle.one_history.specs.Visits.{MayMakeAll}
use Rattle.one_history.specs.Worlds.{making, State, Unfounded, Running, Stopped, IsOpening, IsStop}
use Rattle.one_history.proofs.Made.{at_some, legal_all, begins_then, begins_more, made_more, made_all}
use Rattle.one_history.proofs.Leads.{IsDown, down_lost, down_kept, stops_behind, cut_behind}
use Rattle.one_history.proofs.Stages.{Stage, First, Up, Down, state_of, Extends, Knows, Shows}
use Rattle.one_history.proofs.Opening.{IsOpened}

-- Of all the steps of the run some are done, and this image is left.
pub record IsStopped (M : History → Change → Type 0) (s : Stage) (w : World) (image : List ℕ) (all : List Step) : Type 0 where
  pub own : List Step
  pub to : Stage
  pub stop : IsStop (state_of s) all own (state_of to)
  pub world : World
  pub run : Run w own world
  pub knows : Knows M to world
  pub shows : Shows M to image
  pub extends : (k : History) → Extends to k → Extends s k

crash_down : (w : World) (h : History) (keep : Bool) → IsDown w h → Run w (Crash keep ∷ []) w
crash_down w h keep down = (w, inr ((λ (up : IsTrue w.up). absurd (let e : w.up ≡ true = up in let f = down.up in cc)), refl), refl)

-- an image from before the run
pub left_old : GrowsLegally → (M : History → Change → Type 0) (s : Stage) (w : World) (image : List ℕ) (all : List Step) → Knows M s w → Shows M s image → IsStopped M s w image all
left_old grows M First w image all known shown = record { own = []; to = First; stop = inl (refl, refl); world = w; run = refl; knows = known; shows = shown; extends = λ k e. e }
left_old grows M (Up h e) w image all known (inl shown) = record {
  own = Crash false ∷ [];
  to = Down h;
  stop = (0, false, refl, refl);
  world = after w (Crash false);
  run = (after w (Crash false), inl (known.stands.up, refl), refl);
  knows = record { down = down_lost w h e known.stands; legal = known.legal; made = known.made };
  shows = shown;
  extends = λ k b. b;
}
left_old grows M (Up h e) w image all known (inr shown) = record {
  own = Crash true ∷ [];
  to = Down (h ++ shown.0 ∷ []);
  stop = (0, true, refl, refl);
  world = after w (Crash true);
  run = (after w (Crash true), inl (known.stands.up, refl), refl);
  knows = record {
    down = down_kept w h e shown.0 known.stands shown.1;
    legal = grows h shown.0 known.legal (at_some (Allowed h) e shown.0 known.may shown.1);
    made = made_more M h shown.0 known.made (at_some (M h) e shown.0 known.doubted shown.1);
  };
  shows = shown.2;
  extends = λ k b. begins_more h (shown.0 ∷ []) k b;
}
left_old grows M (Down h) w image all known shown = record {
  own = Crash false ∷ [];
  to = Down h;
  stop = (0, false, refl, refl);
  world = w;
  run = crash_down w h false known.down;
  knows = known;
  shows = shown;
  extends = λ k b. b;
}

-- an image with changes of the run, behind the history that it found
stop_behind : (s : State) (h : History) (opening makes rest : List Step) → IsOpening s h opening → IsStop s (opening ++ (makes ++ rest)) ((opening ++ makes) ++ Crash false ∷ []) Stopped
stop_behind Unfounded h opening makes rest is = subst (λ (o : List Step). IsStop Unfounded (o ++ (makes ++ rest)) ((o ++ makes) ++ Crash false ∷ []) Stopped) (sym is.2)
    (inr (length makes, false, ap (λ (l : List Step). (Found is.0 ∷ l) ++ Crash false ∷ []) (sym (take-append_seam makes rest)), refl))
stop_behind Running h opening makes rest is = (length (opening ++ makes), false, ap (λ (l : List Step). l ++ Crash false ∷ []) (sym (cut_behind opening makes rest)), refl)
stop_behind Stopped h opening makes rest is = (length (opening ++ makes), false, ap (λ (l : List Step). l ++ Crash false ∷ []) (sym (cut_behind opening makes rest)), refl)

extends_all : (s : Stage) (h : History) (cs : List Change) → Extends s h → (k : History) → Extends (Down (h ++ cs)) k → Extends s k
extends_all First h cs found k b = tt
extends_all (Up g e) h cs found k b = begins_then g h k found (begins_more h cs k b)
extends_all (Down g) h cs found k b = begins_then g h k found (begins_more h cs k b)

pub left_cut : GrowsLegally → (M Own : History → Change → Type 0) → ((h : History) (c : Change) → Own h c → M h c) → (s : Stage) (w : World) (h : History) (image : List ℕ) (cs : List Change) (rest : List Step)
    → (o : IsOpened M s w h) → Legal h → MayMakeAll Own h cs → Recovers image (h ++ cs) → IsStopped M s w image (o.opening ++ (making cs ++ rest))
left_cut grows M Own mine s w h image cs rest o legal may shown =
    let stopped = stops_behind Own w o.opening h cs o.opens may in
    record {
      own = (o.opening ++ making cs) ++ Crash false ∷ [];
      to = Down (h ++ cs);
      stop = stop_behind (state_of s) h o.opening (making cs) rest o.is;
      world = stopped.0;
      run = stopped.1;
      knows = record { down = stopped.2; legal = legal_all grows Own h cs legal may; made = made_all M Own mine h cs o.made may };
      shows = shown;
      extends = extends_all s h cs o.extends;
    }
