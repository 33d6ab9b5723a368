-- The reply of init, by what the input says, what the key file gives and what becomes of the disk.
use Rattle.std.proofs.Common.{◌≡◌, inl, inr, ⊎_elim, ℕ, ◌≤◌, length, List, [], ◌∷◌, Option, Some, None, Result, Ok, Err, true, false, refl, sym, ◌∙◌, ap, subst}
use Rattle.std.specs.Prelude.{◌≢◌, IfSome, codes}
use Rattle.cmp_ports.specs.Disk.{Among, Every, LeavesOnly}
use Rattle.journal_core.specs.Log.{is_founded}
use Rattle.deal_changes.specs.declared.change.Change.{Change}
use Rattle.deal_changes.specs.Spelling.{spelling}
use Rattle.deal_model.specs.Views.{History}
use Rattle.desk.specs.declared.answers.FoundFault.{FoundFault}
use Rattle.desk.specs.declared.answers.FoundFault.TheVariants as founds
use Rattle.desk.specs.Images.{Recovers, Images}
use Rattle.cmp_ports.specs.Moments.{started, weaker, joins}
use Rattle.deal_changes.specs.declared.change.Settings.{Settings}
use Rattle.registry.specs.declared.fault.RegFault.{RegFault}
use Rattle.registry.specs.declared.fault.RegFault.TheVariants as files
use Rattle.registry.specs.Settings.{settings_in, MayFound, AreUnmade}
use Rattle.deal_model.specs.Rules.{Allowed, Legal}
use Rattle.reply_maker.specs.KeyFile.{IsKeyFile}
use Rattle.desk.specs.Founded.{founding, IsBegun, IsPrepared}
use Rattle.reply_maker.specs.declared.key_file.KeyFault.{KeyFault}
use Rattle.reply_maker.specs.declared.key_file.KeyFault.TheVariants as faults
use Rattle.reply_maker.specs.Keys.{Loaded, Gives, IsLoad, identity_of, are_blank}
use Rattle.cmpca_tool.specs.declared.file.Unread.{Unread}
use Rattle.cmpca_tool.specs.declared.file.Unread.TheVariants.{Bad}
use Rattle.cmpca_tool.specs.declared.file.Unread.TheVariants as unread
use Rattle.cmpca_tool.specs.declared.status.Status.{Status}
use Rattle.cmpca_tool.specs.declared.status.Status.TheVariants.{Done, Refused, DiskFault, NoMemory}
use Rattle.cmpca_tool.specs.Changes.{DiskRun, IsUnchanged, run_of}
use Rattle.cmpca_tool.specs.Deeds.{IsUnreadReply}
use Rattle.cmpca_tool.specs.Inits.{SaysSettings, IsUnset, IsUnloadedReply, IsUnfoundedReply, TellsFailure, founded_line, InitsRead, IsInitReply, IsFoundReply, WasFounded, IsCutOff, first_change, with_keys}
use Rattle.cmpca_tool.specs.Lines.{line}
use Rattle.cmpca_tool.specs.Sources.{SourceRun, ToldBoth}
use Rattle.cmpca_tool.proofs.RunLemmas.{some_input, short_read, short_memory}
use Rattle.cmpca_tool.proofs.ShowLemmas.{told}
use Rattle.cmpca_tool.proofs.InitLemmas.{may_found}

-- ---- a disk that isn't used

module _ {D : Type 0} (content : D → Option (List ℕ)) (images : D → List ℕ → Type 0) (moment : D → ℕ) (left_since : D → ℕ → List ℕ → Type 0) (only_now : (d : D) (c : List ℕ) → left_since d (moment d) c → images d c) where
  pub untouched : (d : D) → IsUnchanged (run_of content images moment left_since d d)
  untouched d = record { content = refl; crash = λ c is. is; moments = started moment left_since d (images d) (only_now d) }

  pub not_begun : (d : D) (first : List ℕ) → LeavesOnly moment left_since d d (IsBegun (images d) first)
  not_begun d first = weaker moment left_since d d (images d) (IsBegun (images d) first) (started moment left_since d (images d) (only_now d)) (λ image was. inl was)

-- ---- no settings were read

-- an input that the source may have had, for which each such reply is right
record IsInput (inputs : SourceRun) (left : Option (List ℕ)) (u : Unread) : Type 1 where
  input : List ℕ
  whole : IfSome left (λ all. all ≡ input)
  replies : (disk : DiskRun) (keys : SourceRun) (now : ℕ) (key : List ℕ) (status : Status) (text : List ℕ) → IsUnchanged disk → keys.unread → IsUnreadReply u status text → IsInitReply disk inputs keys now input key status text

said_fault : (inputs : SourceRun) (left : Option (List ℕ)) (fault : RegFault) → SaysSettings left (Err fault) → IsInput inputs left (Bad fault)
said_fault inputs left fault is = record {
  input = is.file;
  whole = is.whole;
  replies = λ disk keys now key status text same kept r. ⊎_elim
      (λ refused. inl (subst (λ (o : Result Settings RegFault). InitsRead o disk keys now key status text) (sym is.tells) (refused.0, refused.1, same, kept)))
      (λ none. inr (short_memory inputs.failed status text none.0 none.1, same, kept)) r;
}

input_of : (inputs : SourceRun) (left : Option (List ℕ)) (u : Unread) → (u ≡ unread.ReadFault → inputs.failed) → IsUnset left u → IsInput inputs left u
input_of inputs left unread.ReadFault failed is = let i = some_input left in
    record { input = i.0; whole = i.1; replies = λ disk keys now key status text same kept r. inr (short_read inputs.failed status text (failed refl) r.0 r.1, same, kept) }
input_of inputs left (Bad files.NoMemory) failed is = let i = some_input left in
    record { input = i.0; whole = i.1; replies = λ disk keys now key status text same kept r. inr (⊎_elim (λ said. short_memory inputs.failed status text said.0 said.1) (λ none. short_memory inputs.failed status text none.0 none.1) r, same, kept) }
input_of inputs left (Bad files.BadToml) failed is = said_fault inputs left files.BadToml (is (λ e. absurd (cc e)))
input_of inputs left (Bad files.BadCount) failed is = said_fault inputs left files.BadCount (is (λ e. absurd (cc e)))
input_of inputs left (Bad (files.BadCredential index cause)) failed is = said_fault inputs left (files.BadCredential index cause) (is (λ e. absurd (cc e)))
input_of inputs left (Bad (files.BadSetting key)) failed is = said_fault inputs left (files.BadSetting key) (is (λ e. absurd (cc e)))

-- ---- the run

pub told_unset : (left key : Option (List ℕ)) (disk : DiskRun) (inputs keys : SourceRun) (now : ℕ) (u : Unread) (status : Status) (text : List ℕ) → (u ≡ unread.ReadFault → inputs.failed) → IsUnset left u
    → IsUnchanged disk → keys.unread → IsUnreadReply u status text → ToldBoth left key (IsInitReply disk inputs keys now) status text
told_unset left key disk inputs keys now u status text failed is same kept r =
    let i = input_of inputs left u failed is in
    let k = some_input key in
    record { input = i.input; read = i.whole; key = k.0; key_read = k.1; is_reply = i.replies disk keys now k.0 status text same kept r }

-- with settings at hand
abbrev with_settings : (disk : DiskRun) (keys : SourceRun) (now : ℕ) (input : List ℕ) (s : Settings) (file : List ℕ) (status : Status) (text : List ℕ) → settings_in input ≡ Ok s
    → InitsRead (Ok s) disk keys now file status text → InitsRead (settings_in input) disk keys now file status text
with_settings disk keys now input s file status text tells read = subst (λ (o : Result Settings RegFault). InitsRead o disk keys now file status text) (sym tells) read

unloaded_form : (key : Option (List ℕ)) (disk : DiskRun) (inputs keys : SourceRun) (now : ℕ) (input : List ℕ) (s : Settings) (fault : KeyFault) (status : Status) (text : List ℕ) → settings_in input ≡ Ok s
    → (load : IsLoad key s (Err fault)) → (fault ≡ faults.ReadFault → keys.failed) → IsUnchanged disk → IsUnloadedReply fault status text → IsInitReply disk inputs keys now input load.file status text
unloaded_form key disk inputs keys now input s faults.ReadFault status text tells load failed same said =
    inl (with_settings disk keys now input s load.file status text tells (inr (inr (short_read keys.failed status text (failed refl) said.0 said.1, same))))
unloaded_form key disk inputs keys now input s faults.NoMemory status text tells load failed same said =
    inl (with_settings disk keys now input s load.file status text tells (inr (inr (short_memory keys.failed status text said.0 said.1, same))))
unloaded_form key disk inputs keys now input s faults.BadKeyFile status text tells load failed same said =
    inl (with_settings disk keys now input s load.file status text tells (inl (record { bad = load.gives; unchanged = same; ends = said.0; says = said.1 })))
unloaded_form key disk inputs keys now input s (faults.KeyMismatch told known) status text tells load failed same said = absurd said

pub told_unloaded : (left key : Option (List ℕ)) (disk : DiskRun) (inputs keys : SourceRun) (now : ℕ) (s : Settings) (fault : KeyFault) (status : Status) (text : List ℕ) → SaysSettings left (Ok s) → IsLoad key s (Err fault)
    → (fault ≡ faults.ReadFault → keys.failed) → IsUnchanged disk → IsUnloadedReply fault status text → ToldBoth left key (IsInitReply disk inputs keys now) status text
told_unloaded left key disk inputs keys now s fault status text says load failed same said = record {
  input = says.file;
  read = says.whole;
  key = load.file;
  key_read = load.read;
  is_reply = unloaded_form key disk inputs keys now says.file s fault status text says.tells load failed same said;
}

-- nothing is compared where no keys are made
pub no_mismatch : (key : Option (List ℕ)) (s : Settings) (fault : KeyFault) → are_blank s ≡ true → IsLoad key s (Err fault) → (told known : List ℕ) → fault ≢ faults.KeyMismatch told known
no_mismatch key s fault blank load told known is =
    let gives : Gives load.file s (Err (faults.KeyMismatch told known)) = subst (λ (f : KeyFault). Gives load.file s (Err f)) is load.gives in
    let never : true ≡ false = sym blank ∙ gives.1 in
    cc never

-- with keys at hand
founded_form : (key : Option (List ℕ)) (disk : DiskRun) (inputs keys : SourceRun) (now : ℕ) (input : List ℕ) (s : Settings) (k : Loaded) (status : Status) (text : List ℕ) → settings_in input ≡ Ok s
    → (load : IsLoad key s (Ok k)) → IsFoundReply disk (identity_of k.file k.settings) (first_change k.file s now) status text → IsInitReply disk inputs keys now input load.file status text
founded_form key disk inputs keys now input s k status text tells load found =
    let same : k ≡ record { file = load.file; settings = s } = load.gives.2 in
    inl (with_settings disk keys now input s load.file status text tells
    (inr (inl (load.gives.0, subst (λ (l : Loaded). IsFoundReply disk (identity_of l.file l.settings) (first_change l.file s now) status text) same found))))

pub told_found : (left key : Option (List ℕ)) (disk : DiskRun) (inputs keys : SourceRun) (now : ℕ) (s : Settings) (k : Loaded) (status : Status) (text : List ℕ) → SaysSettings left (Ok s) → IsLoad key s (Ok k)
    → IsFoundReply disk (identity_of k.file k.settings) (first_change k.file s now) status text → ToldBoth left key (IsInitReply disk inputs keys now) status text
told_found left key disk inputs keys now s k status text says load found = record {
  input = says.file;
  read = says.whole;
  key = load.file;
  key_read = load.read;
  is_reply = founded_form key disk inputs keys now says.file s k status text says.tells load found;
}

-- ---- what becomes of the disk

-- a history of one change, of which nothing is in doubt
no_doubt : (e : Option Change) (c : Change) → e ≡ None → e ≡ Some c → ⊥
no_doubt e c none some = cc

one_recovers : (images : List ℕ → Type 0) (h : History) (e : Option Change) (c : Change) → h ≡ c ∷ [] → e ≡ None → Images images h e → Every images (λ f. Recovers f (c ∷ []))
one_recovers images h e c is none stand image left = ⊎_elim
    (λ recovers. subst (λ (g : History). Recovers image g) is recovers)
    (λ more. let never : e ≡ Some more.0 = more.1 in absurd (no_doubt e more.0 none never))
    (stand image left)

-- a first change that is allowed is a legal history
pub one_legal : (c : Change) → Allowed [] c → Legal (c ∷ [])
one_legal c allowed = (λ e. cc, (allowed, tt))

-- how a failure is told
tells_disk : (status : Status) (text : List ℕ) → status ≡ DiskFault → text ≡ line (codes "disk fault") → TellsFailure status text
tells_disk status text ends says = subst (λ (s : Status). TellsFailure s text) (sym ends) says

pub tells_memory : (status : Status) (text : List ℕ) → status ≡ NoMemory → text ≡ line (codes "no memory") → TellsFailure status text
tells_memory status text ends says = subst (λ (s : Status). TellsFailure s text) (sym ends) says

-- what holds of a content that isn't founded, since it is
not_both : (f : List ℕ) (P : Type 0) → is_founded f ≡ false → is_founded f ≡ true → P
not_both f P free founded = let never : false ≡ true = sym free ∙ founded in absurd (cc never)

-- what is said of a founded content, at the one that is told
spares : (o : Option (List ℕ)) (f : List ℕ) {P : Type 0} → o ≡ Some f → IfSome o (λ g. is_founded g ≡ true → P) → is_founded f ≡ true → P
spares None f is h founded = absurd (cc is)
spares (Some g) f is h founded = let same : g ≡ f = cc is in h (ap is_founded same ∙ founded)

module _ {D : Type 0} (content : D → Option (List ℕ)) (images : D → List ℕ → Type 0) (moment : D → ℕ) (left_since : D → ℕ → List ℕ → Type 0) where
  -- a run that was cut off on a disk that isn't founded
  pub cut_off : (old new : D) (c : Change) (status : Status) (text : List ℕ) → Allowed [] c → ((f : List ℕ) → content old ≡ Some f → is_founded f ≡ false)
      → LeavesOnly moment left_since old new (IsBegun (images old) (spelling c)) → TellsFailure status text → IsCutOff (run_of content images moment left_since old new) c status text
  cut_off old new c status text first free moments says = record {
    spared = told (content old) (λ f. is_founded f ≡ true → IsUnchanged (run_of content images moment left_since old new)) (λ f is founded. not_both f _ (free f is) founded);
    first = first;
    moments = moments;
    says = says;
  }

  -- a look at the disk in front of the run
  module _ (old mid new : D) (same : content mid ≡ content old) (crash : Among (images old) (images mid)) (looking : LeavesOnly moment left_since old mid (images old)) where
    longer : (c : Change) → LeavesOnly moment left_since mid new (IsBegun (images mid) (spelling c)) → LeavesOnly moment left_since old new (IsBegun (images old) (spelling c))
    longer c moments =
        let P : List ℕ → Type 0 = IsBegun (images old) (spelling c) in
        joins moment left_since old mid new P
        (weaker moment left_since old mid (images old) P looking (λ image left. inl left))
        (weaker moment left_since mid new (IsBegun (images mid) (spelling c)) P moments (λ image left. ⊎_elim (λ was. inl (crash image was)) (λ more. inr more) left))

    unchanged : IsUnchanged (run_of content images moment left_since mid new) → IsUnchanged (run_of content images moment left_since old new)
    unchanged u = record {
      content = u.content ∙ same;
      crash = λ image is. crash image (u.crash image is);
      moments = joins moment left_since old mid new (images old) looking (weaker moment left_since mid new (images mid) (images old) u.moments crash);
    }

    pub looked : (identity : List ℕ) (c : Change) (status : Status) (text : List ℕ)
        → IsFoundReply (run_of content images moment left_since mid new) identity c status text → IsFoundReply (run_of content images moment left_since old new) identity c status text
    looked identity c status text r = ⊎_elim
        (λ founds. inl (record {
          free = subst (λ (o : Option (List ℕ)). IfSome o (λ f. is_founded f ≡ false)) same founds.free;
          content = founds.content;
          images = founds.images;
          lawful = founds.lawful;
          moments = longer c founds.moments;
          ends = founds.ends;
          says = founds.says;
        }))
        (λ other. inr (⊎_elim
        (λ was. inl (record {
          founded = subst (λ (o : Option (List ℕ)). IfSome o (λ f. is_founded f ≡ true)) same was.founded;
          unchanged = unchanged was.unchanged;
          ends = was.ends;
          says = was.says;
        }))
        (λ cut. inr (record {
          spared = told (content old) (λ f. is_founded f ≡ true → IsUnchanged (run_of content images moment left_since old new)) (λ f is founded. unchanged (spares (content mid) f (same ∙ is) cut.spared founded));
          first = cut.first;
          moments = longer c cut.moments;
          says = cut.says;
        }))
        other))
        r

  -- a look that found the disk founded, or failed
  pub was_founded : (old new : D) (status : Status) (text : List ℕ) → content new ≡ content old → Among (images old) (images new) → LeavesOnly moment left_since old new (images old)
      → ((f : List ℕ) → content old ≡ Some f → is_founded f ≡ true) → status ≡ Refused → text ≡ line (codes "refused already founded")
      → WasFounded (run_of content images moment left_since old new) status text
  was_founded old new status text same crash looking founded ends says = record {
    founded = told (content old) (λ f. is_founded f ≡ true) founded;
    unchanged = record { content = same; crash = crash; moments = looking };
    ends = ends;
    says = says;
  }

  pub not_looked : (old new : D) (c : Change) (status : Status) (text : List ℕ) → Allowed [] c → content new ≡ content old → Among (images old) (images new) → LeavesOnly moment left_since old new (images old)
      → status ≡ DiskFault → text ≡ line (codes "disk fault") → IsCutOff (run_of content images moment left_since old new) c status text
  not_looked old new c status text first same crash looking ends says = record {
    spared = told (content old) (λ f. is_founded f ≡ true → IsUnchanged (run_of content images moment left_since old new)) (λ f is founded. record { content = same; crash = crash; moments = looking });
    first = first;
    moments = weaker moment left_since old new (images old) (IsBegun (images old) (spelling c)) looking (λ image left. inl left);
    says = tells_disk status text ends says;
  }

-- ---- the same over a disk that is lent to the desk by a reference

module _ {D R : Type 0} (now : R → D) (content : D → Option (List ℕ)) (images : D → List ℕ → Type 0) (moment : D → ℕ) (left_since : D → ℕ → List ℕ → Type 0) (honest : (d : D) (f : List ℕ) → content d ≡ Some f → images d f) where
  -- what a reference leaves, its disk leaves
  lent : (old new : R) (P : List ℕ → Type 0) → LeavesOnly (λ r. moment (now r)) (λ r t. left_since (now r) t) old new P → LeavesOnly moment left_since (now old) (now new) P
  lent old new P left = record { later = left.later; each = left.each; before = left.before }

  pub has_founded : (old new : R) (last : D) (identity : List ℕ) (c : Change) (h : History) (e : Option Change) (status : Status) (text : List ℕ) → now new ≡ last
      → ((f : List ℕ) → content (now old) ≡ Some f → is_founded f ≡ false) → Allowed [] c → h ≡ c ∷ [] → e ≡ None → Images (images (now new)) h e
      → LeavesOnly (λ r. moment (now r)) (λ r t. left_since (now r) t) old new (IsBegun (images (now old)) (spelling c))
      → status ≡ Done → text ≡ founded_line identity → IsFoundReply (run_of content images moment left_since (now old) last) identity c status text
  has_founded old new last identity c h e status text back free allowed is none stand moments ends says =
      let holds = one_recovers (images (now new)) h e c is none stand in
      subst (λ (d : D). IsFoundReply (run_of content images moment left_since (now old) d) identity c status text) back (inl (record {
        free = told (content (now old)) (λ f. is_founded f ≡ false) free;
        content = told (content (now new)) (λ f. Recovers f (c ∷ [])) (λ f is_content. holds f (honest (now new) f is_content));
        images = holds;
        lawful = one_legal c allowed;
        moments = lent old new (IsBegun (images (now old)) (spelling c)) moments;
        ends = ends;
        says = says;
      }))

  -- by the fault of founding
  unfounded_at : (old new : R) (identity text : List ℕ) (c : Change) (fault : FoundFault) (status : Status) → Allowed [] c
      → ((f : List ℕ) → content (now old) ≡ Some f → is_founded f ≡ false)
      → ((f : List ℕ) → content (now old) ≡ Some f → IsPrepared {T = Unit {0}} f (Err fault))
      → (fault ≡ founds.Already → content (now new) ≡ content (now old)) → (fault ≡ founds.Already → Among (images (now old)) (images (now new)))
      → (fault ≡ founds.Already → LeavesOnly (λ r. moment (now r)) (λ r t. left_since (now r) t) old new (images (now old)))
      → LeavesOnly (λ r. moment (now r)) (λ r t. left_since (now r) t) old new (IsBegun (images (now old)) (spelling c))
      → IsUnfoundedReply fault status text → IsFoundReply (run_of content images moment left_since (now old) (now new)) identity c status text
  unfounded_at old new identity text c founds.Already status first free prepared same crash untouched moments said = inr (inl (record {
    founded = told (content (now old)) (λ f. is_founded f ≡ true) prepared;
    unchanged = record { content = same refl; crash = crash refl; moments = lent old new (images (now old)) (untouched refl) };
    ends = said.0;
    says = said.1;
  }))
  unfounded_at old new identity text c founds.DiskFault status first free prepared same crash untouched moments said =
      inr (inr (cut_off content images moment left_since (now old) (now new) c status text first free (lent old new (IsBegun (images (now old)) (spelling c)) moments) (tells_disk status text said.0 said.1)))
  unfounded_at old new identity text c founds.NoMemory status first free prepared same crash untouched moments said =
      inr (inr (cut_off content images moment left_since (now old) (now new) c status text first free (lent old new (IsBegun (images (now old)) (spelling c)) moments) (tells_memory status text said.0 said.1)))

  pub unfounded : (old new : R) (last : D) (identity : List ℕ) (c : Change) (fault : FoundFault) (status : Status) (text : List ℕ) → now new ≡ last → Allowed [] c
      → ((f : List ℕ) → content (now old) ≡ Some f → is_founded f ≡ false)
      → ((f : List ℕ) → content (now old) ≡ Some f → IsPrepared {T = Unit {0}} f (Err fault))
      → (fault ≡ founds.Already → content (now new) ≡ content (now old)) → (fault ≡ founds.Already → Among (images (now old)) (images (now new)))
      → (fault ≡ founds.Already → LeavesOnly (λ r. moment (now r)) (λ r t. left_since (now r) t) old new (images (now old)))
      → LeavesOnly (λ r. moment (now r)) (λ r t. left_since (now r) t) old new (IsBegun (images (now old)) (spelling c))
      → IsUnfoundedReply fault status text → IsFoundReply (run_of content images moment left_since (now old) last) identity c status text
  unfounded old new last identity c fault status text back first free prepared same crash untouched moments said =
      subst (λ (d : D). IsFoundReply (run_of content images moment left_since (now old) d) identity c status text) back
      (unfounded_at old new identity text c fault status first free prepared same crash untouched moments said)

-- ---- the change that founds it

pub same_settings : (key : Option (List ℕ)) (s : Settings) (k : Loaded) → IsLoad key s (Ok k) → k.settings ≡ s
same_settings key s k load = ap (λ (l : Loaded). l.settings) load.gives.2

pub may_be_first : (key : Option (List ℕ)) (s made : Settings) (k : Loaded) (now : ℕ) → IsLoad key s (Ok k) → MayFound s → AreUnmade s → now ≤ 250000000000
    → made ≡ with_keys k.file s → length made.issue_key ≡ 60 → length made.reply_key ≡ 60 → Allowed [] (founding made now)
may_be_first key s made k now load may unmade bound is issue reply =
    let file_is : k.file ≡ load.file = ap (λ (l : Loaded). l.file) load.gives.2 in
    subst (λ (m : Settings). Allowed [] (founding m now)) (sym is)
    (may_found k.file s now may unmade (subst (λ (f : List ℕ). IsKeyFile f) (sym file_is) load.gives.0) bound
    (ap (λ (m : Settings). length m.issue_key) (sym is) ∙ issue) (ap (λ (m : Settings). length m.reply_key) (sym is) ∙ reply))
