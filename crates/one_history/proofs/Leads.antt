-- Where the steps of runs lead.
use Rattle.std.proofs.Common.{◌≡◌, ℕ, ◌≤◌, Bool, true, false, List, [], ◌∷◌, ◌++◌, length, take, Option, Some, None, refl, sym, ap, subst, ◌∙◌, append_assoc, inl}
use Rattle.std.specs.Prelude.{IfSome}
use Rattle.std.specs.List.{AllByRecursion}
use Rattle.std.proofs.lemmas.List.{append-nil}
use Rattle.std.proofs.Math.Seq.{take-append_seam}
use Rattle.deal_changes.specs.declared.change.Change.{Change}
use Rattle.deal_model.specs.Views.{History}
use Rattle.deal_model.specs.Rules.{Allowed}
use Rattle.world_core.specs.declared.world.World.{World}
use Rattle.world_core.specs.declared.world.Step.{Step}
use Rattle.world_core.specs.declared.world.Step.TheVariants.{Found, Propose, Sync, Sign, Send, Crash, Reopen}
use Rattle.world_core.specs.Steps.{founded, after, Run}
use Rattle.desk_steps.specs.Steps.{StandsFor, Lead}
use Rattle.desk_steps.proofs.Leading.{run_both, both, stays, made, doubted}
use Rattle.one_history.specs.Visits.{MayMakeAll}
use Rattle.one_history.specs.Worlds.{making, doubting, sending}

-- ---- a run's work

pub making_leads : (Own : History → Change → Type 0) (h : History) (cs : List Change) → MayMakeAll Own h cs → Lead h None (making cs) (h ++ cs) None
making_leads Own h [] may = subst (λ (k : History). Lead h None [] k None) (sym (append-nil h)) (stays h None)
making_leads Own h (c ∷ cs) may = subst (λ (k : History). Lead h None (Propose c ∷ Sync ∷ making cs) k None) (append_assoc h (c ∷ []) cs)
    (both h (h ++ c ∷ []) ((h ++ c ∷ []) ++ cs) None None None (Propose c ∷ Sync ∷ []) (making cs) (made h c may.0.1) (making_leads Own (h ++ c ∷ []) cs may.1))

doubting_leads : (h : History) (d : Option Change) → IfSome d (Allowed h) → Lead h None (doubting d) h d
doubting_leads h None may = stays h None
doubting_leads h (Some c) may = doubted h c may

-- the steps reach a world that the desk stands for
abbrev pub Reaches : World → List Step → History → Option Change → Type 0
Reaches w ss h d = (v : World) × Run w ss v × StandsFor v h d

-- replies change nothing of that
sending_reaches : (h : History) (d : Option Change) (ns : List ℕ) (w : World) → StandsFor w h d → AllByRecursion (λ n. (1 ≤ n) × (n ≤ length h)) ns → Reaches w (sending ns) h d
sending_reaches h d [] w s all = (w, refl, s)
sending_reaches h d (n ∷ ns) w s all =
    let u : World = after w (Sign n) in
    let x : World = after u (Send n) in
    let high : n ≤ w.acked = subst (λ (m : ℕ). n ≤ m) (sym s.acked) all.0.1 in
    let rest = sending_reaches h d ns x (record { up = s.up; durable = s.durable; pending = s.pending; doubt = s.doubt; acked = s.acked }) all.1 in
    (rest.0, (u, inl ((s.up, all.0.0, high), refl), (x, inl ((s.up, all.0.0, high), refl), rest.1)), rest.2)

-- ---- the opening

-- the opening reaches a world that the desk stands for with nothing in doubt
abbrev pub Opens : World → List Step → History → Type 0
Opens w opening h = Reaches w opening h None

pub opens_first : (c : Change) → Allowed [] c → Opens founded (Found c ∷ []) (c ∷ [])
opens_first c may = (after founded (Found c), (after founded (Found c), inl ((refl, may), refl), refl), record { up = refl; durable = refl; pending = refl; doubt = refl; acked = refl })

-- the service is stopped, and this history is durable
pub record IsDown (w : World) (h : History) : Type 0 where
  pub up : w.up ≡ false
  pub durable : w.durable ≡ h
  pub pending : w.pending ≡ None
  pub doubt : w.doubt ≡ None

pub down_lost : (w : World) (h : History) (d : Option Change) → StandsFor w h d → IsDown (after w (Crash false)) h
down_lost w h d s = record { up = refl; durable = s.durable; pending = refl; doubt = refl }

pub down_kept : (w : World) (h : History) (d : Option Change) (c : Change) → StandsFor w h d → d ≡ Some c → IsDown (after w (Crash true)) (h ++ c ∷ [])
down_kept w h d c s is =
    let v : World = after w (Crash true) in
    let grown : v.durable ≡ h ++ c ∷ [] = rw (s.pending, s.doubt, is, s.durable) refl in
    record { up = refl; durable = grown; pending = refl; doubt = refl }

pub opens_stopped : (w : World) (h : History) → IsDown w h → Opens w (Reopen ∷ []) h
opens_stopped w h s = (after w Reopen, (after w Reopen, inl (s.up, refl), refl), record { up = refl; durable = s.durable; pending = s.pending; doubt = s.doubt; acked = ap length s.durable })

pub opens_again : (w : World) (h k : History) (d : Option Change) (keep : Bool) → StandsFor w h d → IsDown (after w (Crash keep)) k → Opens w (Crash keep ∷ Reopen ∷ []) k
opens_again w h k d keep s down =
    let rest = opens_stopped (after w (Crash keep)) k down in
    (rest.0, (after w (Crash keep), inl (s.up, refl), rest.1), rest.2)

-- ---- to the end, and to a stop

pub works_on : (Own : History → Change → Type 0) (w : World) (opening : List Step) (h : History) (cs : List Change) (d : Option Change) (ns : List ℕ) → Opens w opening h → MayMakeAll Own h cs
    → IfSome d (Allowed (h ++ cs)) → AllByRecursion (λ n. (1 ≤ n) × (n ≤ length (h ++ cs))) ns → Reaches w (opening ++ (making cs ++ (doubting d ++ sending ns))) (h ++ cs) d
works_on Own w opening h cs d ns opens may doubts sends =
    let one = making_leads Own h cs may opens.0 opens.2 in
    let two = doubting_leads (h ++ cs) d doubts one.0 one.2 in
    let three = sending_reaches (h ++ cs) d ns two.0 two.2 sends in (
      three.0,
      run_both w opening (making cs ++ (doubting d ++ sending ns)) opens.0 three.0 opens.1
          (run_both opens.0 (making cs) (doubting d ++ sending ns) one.0 three.0 one.1 (run_both one.0 (doubting d) (sending ns) two.0 three.0 two.1 three.1)),
      three.2,
    )

-- behind the changes the service is stopped
pub stops_behind : (Own : History → Change → Type 0) (w : World) (opening : List Step) (h : History) (cs : List Change) → Opens w opening h → MayMakeAll Own h cs
    → (v : World) × Run w ((opening ++ making cs) ++ Crash false ∷ []) v × IsDown v (h ++ cs)
stops_behind Own w opening h cs opens may =
    let one = making_leads Own h cs may opens.0 opens.2 in
    let v : World = after one.0 (Crash false) in
    (v, run_both w (opening ++ making cs) (Crash false ∷ []) one.0 v (run_both w opening (making cs) opens.0 one.0 opens.1 one.1) (v, inl (one.2.up, refl), refl), down_lost one.0 (h ++ cs) None one.2)

-- the steps before them are those that the whole run begins with
pub cut_behind : (opening makes rest : List Step) → take (length (opening ++ makes)) (opening ++ (makes ++ rest)) ≡ opening ++ makes
cut_behind opening makes rest = ap (take (length (opening ++ makes))) (sym (append_assoc opening makes rest)) ∙ take-append_seam (opening ++ makes) rest
