-- A run of init as a visit: it founds the service, or is cut off before that, or leaves the disk as it was.
use Rattle.std.proofs.Common.{◌≡◌, ℕ, Bool, true, false, List, [], ◌∷◌, Option, Some, None, refl, sym, subst, ◌∙◌, inl, inr}
use Rattle.std.specs.Prelude.{Result, Ok, Err, IfSome}
use Rattle.cmp_ports.specs.declared.disk.Disk.{Ghosts}
use Rattle.journal_core.specs.Log.{is_founded}
use Rattle.deal_changes.specs.declared.change.Change.{Change}
use Rattle.deal_changes.specs.declared.change.Settings.{Settings}
use Rattle.deal_model.specs.Rules.{Allowed}
use Rattle.registry.specs.declared.fault.RegFault.{RegFault}
use Rattle.registry.specs.Settings.{settings_in}
use Rattle.reply_maker.specs.KeyFile.{IsKeyFile}
use Rattle.reply_maker.specs.Keys.{identity_of}
use Rattle.one_history.specs.Visits.{Ending, Blank, Visit, MayMake, IsFounding}
use Rattle.one_history.specs.Causes.{Founding, Asked}
use Rattle.one_history.specs.Headline.{MayCause}
use Rattle.cmpca_tool.specs.Changes.{run_of, IsUnchanged}
use Rattle.cmpca_tool.specs.Inits.{first_change, Founds, TellsFailure, IsCutOff, IsFoundReply, InitsRead, IsInitReply}
use Rattle.cmpca_tool.specs.Reply.{AtReading}
use Rattle.cmpca_tool.specs.Sources.{SourceRun}
use Rattle.cmpca_tool.specs.declared.status.Status.{Status}
use Rattle.cmpca_tool.specs.declared.status.Status.TheVariants.{Done, Refused, BadKeyFile}
use Rattle.cmpca_tool.specs.declared.words.Command.TheVariants.{Init}
use Rattle.program_runs.specs.Runs.{IsRun}
use Rattle.program_runs.proofs.Undone.{file_undone, short_undone}
use Rattle.program_runs.proofs.Spared.{quiet_run, spared_run}

-- ---- no other end is told as done

refused_undone : (status : Status) → status ≡ Refused → status ≡ Done → ⊥
refused_undone status ends done = absurd (cc (ends, done))

key_undone : (status : Status) → status ≡ BadKeyFile → status ≡ Done → ⊥
key_undone status ends done = absurd (cc (ends, done))

failure_undone : (status : Status) (text : List ℕ) → TellsFailure status text → status ≡ Done → ⊥
failure_undone status text fails done = subst (λ (s : Status). TellsFailure s text) done fails

-- ---- the visits

-- what init is asked
abbrev pub asked_to_found : List ℕ → List ℕ → ℕ → Asked
asked_to_found key input now = record { causes = (Founding key input, now) ∷ []; answers = [] }

module _ {D : Type 0} (g : Ghosts D) (old new : D) (IsReading : ℕ → Type 0) (IsDraw : Option (List ℕ) → Type 0) (input key : List ℕ) (status : Status) (text : List ℕ) (ending : Ending) (content : List ℕ) (tells : g.content old ≡ Some content) where
  -- the run is a visit
  abbrev pub Visits : Type 0
  Visits = IsRun g old new IsReading IsDraw (Some Init) input key status text ending

  abbrev Unchanged : Type 0
  Unchanged = IsUnchanged (run_of g.content g.images g.moment g.left_since old new)

  abbrev visit : ℕ → List Change → Visit D Asked
  visit now made = record { asked = asked_to_found key input now; old = old; new = new; ending = ending; finding = Blank; made = made; doubt = None; sent = [] }

  module _ (now : ℕ) (reading : IsReading now) where
    spared : Unchanged → (status ≡ Done → ⊥) → Visits
    spared same undone = spared_run g old new IsReading IsDraw (Some Init) input key status text ending content ((Founding key input, now) ∷ []) tells same (now, reading, refl) refl (λ done. absurd (undone done)) tt

    module _ (form : IsKeyFile key) (s : Settings) (set : settings_in input ≡ Ok s) where
      -- it founds a service, or is cut off before that
      abbrev first : Change
      first = first_change key s now

      may : Allowed [] first → MayMake (MayCause (asked_to_found key input now)) [] first
      may allowed = (((Founding key input, now), (0, refl), (refl, form, (s, set, refl))), allowed)

      blank : (made : List Change) → IsFounding g (MayCause (asked_to_found key input now)) (visit now made) → (status ≡ Done → (c : Change) × (made ≡ c ∷ [])) → Visits
      blank made founding done =
          quiet_run g old new IsReading IsDraw (Some Init) input key status text ending ((Founding key input, now) ∷ []) (visit now made) refl refl refl refl (record { content = content; tells = tells; by = (founding, refl) }) (now, reading, refl) refl done tt

      founds : (identity : List ℕ) → Founds (run_of g.content g.images g.moment g.left_since old new) identity first status text → Visits
      founds identity f = blank (first ∷ []) (record { first = first; may = may f.lawful.1.0; blank = f.free; made = inl (refl, f.images); clear = refl; moments = f.moments }) (λ _. (first, refl))

      cut_off : IsCutOff (run_of g.content g.images g.moment g.left_since old new) first status text → (b : Bool) → is_founded content ≡ b → Visits
      cut_off cut true is = spared (subst (λ (o : Option (List ℕ)). IfSome o (λ f. is_founded f ≡ true → Unchanged)) tells cut.spared is) (failure_undone status text cut.says)
      cut_off cut false is = blank [] (record { first = first; may = may cut.first; blank = subst (λ (o : Option (List ℕ)). IfSome o (λ f. is_founded f ≡ false)) (sym tells) is; made = inr refl; clear = refl; moments = cut.moments }) (λ done. absurd (failure_undone status text cut.says done))

      found_reply : (identity : List ℕ) → IsFoundReply (run_of g.content g.images g.moment g.left_since old new) identity first status text → Visits
      found_reply identity (inl f) = founds identity f
      found_reply identity (inr (inl was)) = spared was.unchanged (refused_undone status was.ends)
      found_reply identity (inr (inr cut)) = cut_off cut (is_founded content) refl

    module _ (keys : SourceRun) where
      read : (told : Result Settings RegFault) → settings_in input ≡ told → InitsRead told (run_of g.content g.images g.moment g.left_since old new) keys now key status text → Visits
      read (Err fault) set r = spared r.2 (λ done. file_undone fault (sym r.0 ∙ done))
      read (Ok s) set (inl bad) = spared bad.unchanged (key_undone status bad.ends)
      read (Ok s) set (inr (inl found)) = found_reply found.0 s set (identity_of key s) found.1
      read (Ok s) set (inr (inr short)) = spared short.1 (short_undone keys.failed status text short.0)

      replied : (inputs : SourceRun) → IsInitReply (run_of g.content g.images g.moment g.left_since old new) inputs keys now input key status text → Visits
      replied inputs (inl r) = read (settings_in input) refl r
      replied inputs (inr short) = spared short.1 (short_undone inputs.failed status text short.0)

  pub init_run : (inputs keys : SourceRun) → AtReading IsReading (λ now. IsInitReply (run_of g.content g.images g.moment g.left_since old new) inputs keys now input key status text) → Visits
  init_run inputs keys reply = replied reply.0 reply.1 keys inputs reply.2
