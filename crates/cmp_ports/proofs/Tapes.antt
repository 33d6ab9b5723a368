-- A tape after one call more, or after a call that found no memory.
use Rattle.std.proofs.Common.{◌≡◌, ◌⊎◌, inl, inr, ℕ, Bool, true, false, cond, List, [], ◌∷◌, ◌++◌, length, refl, sym, ◌∙◌, ap, subst, Some}
use Rattle.cmp_ports.specs.declared.mem_disk.call.Call.{Call}
use Rattle.cmp_ports.specs.declared.mem_disk.call.Call.TheVariants.{Still, Wrote, Synced}
use Rattle.cmp_ports.specs.Disk.{Torn, Among, Follows, Settled, Elapses}
use Rattle.cmp_ports.specs.Replay.{content_step, content_after, image_step, IsImage, WasImage}
use Rattle.cmp_ports.specs.ReplayLaws.{torn_same, content_push, image_push, content_is_image, elapses_same, elapses_push}

-- the call is on the record and was done, or nothing happened
abbrev pub Grew : Call → List Call → List Call → List ℕ → List ℕ → Type 0
Grew call old new file file' = ((new ≡ old ++ call ∷ []) × (file' ≡ content_step file call)) ⊎ ((new ≡ old) × (file' ≡ file))

pub grew : (b : Bool) (call : Call) (old new : List Call) (file file' : List ℕ) → new ≡ cond b (old ++ call ∷ []) old → file' ≡ cond b (content_step file call) file → Grew call old new file file'
grew true call old new file file' calls octets = inl (calls, octets)
grew false call old new file file' calls octets = inr (calls, octets)

pub grew_same : (b : Bool) (call : Call) (old new : List Call) (file : List ℕ) → content_step file call ≡ file → new ≡ cond b (old ++ call ∷ []) old → Grew call old new file file
grew_same true call old new file still calls = inl (calls, sym still)
grew_same false call old new file still calls = inr (calls, refl)

-- the octets are still those of the replay
pub replayed_on : (call : Call) (first first' : List ℕ) (old new : List Call) (file file' : List ℕ) → first' ≡ first → file ≡ content_after first old → Grew call old new file file' → file' ≡ content_after first' new
replayed_on call first first' old new file file' same is (inl done) =
    done.1 ∙ ap (λ (f : List ℕ). content_step f call) is ∙ sym (content_push first old call) ∙ ap (λ (l : List Call). content_after first l) (sym done.0) ∙ ap (λ (f : List ℕ). content_after f new) (sym same)
replayed_on call first first' old new file file' same is (inr not) =
    not.1 ∙ is ∙ ap (λ (l : List Call). content_after first l) (sym not.0) ∙ ap (λ (f : List ℕ). content_after f new) (sym same)

-- what a crash may leave then
abbrev After : Call → List ℕ → List Call → List ℕ → Type 0
After call first old c = image_step (content_after first old) (IsImage first old) call c ⊎ IsImage first old c

after : (call : Call) (first first' : List ℕ) (old new : List Call) (file file' : List ℕ) → first' ≡ first → Grew call old new file file' → (c : List ℕ) → IsImage first' new c → After call first old c
after call first first' old new file file' same (inl done) c image =
    let there : IsImage first (old ++ call ∷ []) c = subst (λ (l : List Call). IsImage first l c) done.0 (subst (λ (f : List ℕ). IsImage f new c) same image) in
    let step : image_step (content_after first old) (IsImage first old) call c = subst (λ (T : Type 0). T) (image_push first (λ d. d ≡ first) old call c) there in
    inl step
after call first first' old new file file' same (inr not) c image = inr (subst (λ (l : List Call). IsImage first l c) not.0 (subst (λ (f : List ℕ). IsImage f new c) same image))

pub still_crash : (first : List ℕ) (old new : List Call) (file : List ℕ) → Grew Still old new file file → Among (IsImage first old) (IsImage first new)
still_crash first old new file grown c image = elim (after Still first first old new file file refl grown c image) [ inl step ↦ step | inr same ↦ same ]

pub still_kept : (first : List ℕ) (old new : List Call) (file : List ℕ) → Grew Still old new file file → Among (IsImage first new) (IsImage first old)
still_kept first old new file (inl done) c image =
    subst (λ (l : List Call). IsImage first l c) (sym done.0) (subst (λ (T : Type 0). T) (sym (image_push first (λ d. d ≡ first) old Still c)) image)
still_kept first old new file (inr not) c image = subst (λ (l : List Call). IsImage first l c) (sym not.0) image

pub synced_crash : (first : List ℕ) (old new : List Call) (file : List ℕ) → Grew Synced old new file file → Among (IsImage first old) (IsImage first new)
synced_crash first old new file grown c image = elim (after Synced first first old new file file refl grown c image) [
  | inl step ↦ subst (λ (d : List ℕ). IsImage first old d) (sym step) (content_is_image first old)
  | inr same ↦ same
]

pub synced_durable : (first : List ℕ) (old new : List Call) (file : List ℕ) → file ≡ content_after first old → new ≡ old ++ Synced ∷ [] → Settled (Some file) (IsImage first new)
synced_durable first old new file is grown c image =
    let there : IsImage first (old ++ Synced ∷ []) c = subst (λ (l : List Call). IsImage first l c) grown image in
    let step : c ≡ content_after first old = subst (λ (T : Type 0). T) (image_push first (λ d. d ≡ first) old Synced c) there in
    ap (λ (f : List ℕ). Some f) (is ∙ sym step)

pub wrote_crash : (at : ℕ) (octets : List ℕ) (done : Bool) (first first' : List ℕ) (old new : List Call) (file file' : List ℕ) → first' ≡ first → Grew (Wrote at octets done) old new file file'
    → Follows (Torn at (length octets)) (IsImage first old) (IsImage first' new)
wrote_crash at octets done first first' old new file file' same grown c image = elim (after (Wrote at octets done) first first' old new file file' same grown c image) [
  | inl step ↦ step
  | inr there ↦ (c, there, torn_same at (length octets) c)
]

pub time_on : (call : Call) (first first' : List ℕ) (old new : List Call) (file file' : List ℕ) → first' ≡ first → Grew call old new file file'
    → Elapses (length old) (length new) (WasImage first old) (WasImage first' new) (IsImage first' new)
time_on call first first' old new file file' same (inl done) =
    subst (λ (f : List ℕ). Elapses (length old) (length new) (WasImage first old) (WasImage f new) (IsImage f new)) (sym same)
    (subst (λ (l : List Call). Elapses (length old) (length l) (WasImage first old) (WasImage first l) (IsImage first l)) (sym done.0) (elapses_push first old call))
time_on call first first' old new file file' same (inr not) =
    subst (λ (f : List ℕ). Elapses (length old) (length new) (WasImage first old) (WasImage f new) (IsImage f new)) (sym same)
    (subst (λ (l : List Call). Elapses (length old) (length l) (WasImage first old) (WasImage first l) (IsImage first l)) (sym not.0) (elapses_same first old))
