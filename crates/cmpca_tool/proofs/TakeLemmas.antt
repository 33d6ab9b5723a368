-- The reply of take, from what the mount, the keys, the front and the writing of its answer say.
use Rattle.std.proofs.Common.{◌≡◌, ◌⊎◌, inl, inr, ⊎_elim, ℕ, ◌+◌, ◌≤◌, List, [], ◌∷◌, length, take, Option, Some, None, true, refl, sym, ◌∙◌, ap, subst, arith}
use Rattle.std.specs.Prelude.{Ok, Err, IfSome, slice_get}
use Rattle.cmp_ports.specs.Disk.{Among, Every, LeavesOnly}
use Rattle.journal_core.specs.declared.fault.MountFault.{MountFault}
use Rattle.std.proofs.Math.Logic.{∥∥₁_elim}
use Rattle.std.proofs.Props.{props}
use Rattle.std.proofs.lemmas.List.{take_all}
use Rattle.std.proofs.lemmas.Option.{none-some, same_Some}
use Rattle.deal_changes.specs.declared.change.Settings.{Settings}
use Rattle.deal_changes.specs.declared.change.Change.{Change}
use Rattle.deal_changes.specs.declared.change.Change.TheVariants.{Found, Enlist, Dismiss, Grant, Hold, Release, Deny, Turned, Polled, Settled, Revoke, Lapse}
use Rattle.deal_model.specs.Views.{History, founding_in, settings_of}
use Rattle.deal_model.specs.Rules.{IsOwnKey, Allowed, Legal}
use Rattle.deal_table.specs.History.{IsFounded}
use Rattle.desk.specs.Images.{Recovers, Images}
use Rattle.desk.specs.Mounts.{Stands, Refuses}
use Rattle.desk.proofs.LookLemmas.{founded_out}
use Rattle.pki_message.specs.Frame.{message_limit}
use Rattle.reply_maker.specs.Keys.{HasOwnSets, AreUsable, Loaded, Agrees, Gives, IsLoad}
use Rattle.reply_maker.specs.Replies.{Replier, replier_of}
use Rattle.reply_maker.specs.declared.key_file.KeyFault.{KeyFault}
use Rattle.reply_maker.specs.declared.key_file.KeyFault.TheVariants as keys
use Rattle.cmpca_tool.specs.Mounts.{IsAnswer, IsFaultReply}
use Rattle.cmpca_tool.specs.Changes.{IsUnchanged, run_of}
use Rattle.cmpca_tool.specs.Sources.{Devices, ToldBoth}
use Rattle.cmpca_tool.specs.Takes.{message_in, replier_at, IsOwnFile, IsUnread, Takes, IsTaken, IsTakeReply}
use Rattle.cmpca_tool.specs.Takings.{IsKeyReply, IsWhyUntaken, is_keyless, IsUntakenReply, IsAnswering}
use Rattle.cmpca_tool.specs.declared.take.Untaken.{Untaken}
use Rattle.cmpca_tool.specs.declared.take.Untaken.TheVariants as untaken
use Rattle.cmpca_tool.specs.declared.status.Status.{Status}
use Rattle.cmpca_tool.specs.declared.status.Status.TheVariants.{ReadFault}
use Rattle.cmpca_tool.proofs.RunLemmas.{some_input, short_read, short_memory}
use Rattle.cmpca_tool.proofs.ShowLemmas.{OneAnswer, told, answer}
use Rattle.cmpca_tool.proofs.ChangeLemmas.{lent, gave_back, acted}

-- ---- the settings of a history

own_sets : (key : List ℕ) → length key ≡ 60 → IsOwnKey key → HasOwnSets key
own_sets key whole k = record { whole = whole; levels = k.levels; tree_low = k.tree_low; tree_high = k.tree_high; ots_low = k.ots_low; ots_high = k.ots_high }

usable_of : (s : Settings) → Allowed [] (Found s) → AreUsable s
usable_of s a = record {
  time = a.bounded;
  name = a.form.is_ca_name;
  issue_key = own_sets s.issue_key a.form.issue_key a.holds.issue_key;
  reply_key = own_sets s.reply_key a.form.reply_key a.holds.reply_key;
  wait_low = a.holds.wait_low;
  wait_high = a.holds.wait_high;
  skew_high = a.holds.skew_high;
  rounds_low = a.holds.rounds_low;
  rounds_high = a.holds.rounds_high;
  check_low = a.holds.check_low;
  check_high = a.holds.check_high;
  days_low = a.holds.days_low;
  days_high = a.holds.days_high;
}

-- the change that sets these settings
found_in : (c : Change) (s : Settings) → founding_in c ≡ Some s → c ≡ Found s
found_in (Found t) s e = ap Found (same_Some t s e)
found_in (Enlist time list) s e = absurd (none-some s e)
found_in (Dismiss time w) s e = absurd (none-some s e)
found_in (Grant t b w serial leaf) s e = absurd (none-some s e)
found_in (Hold t b w) s e = absurd (none-some s e)
found_in (Release time tid) s e = absurd (none-some s e)
found_in (Deny time tid) s e = absurd (none-some s e)
found_in (Turned t) s e = absurd (none-some s e)
found_in (Polled t) s e = absurd (none-some s e)
found_in (Settled t accepted) s e = absurd (none-some s e)
found_in (Revoke t serial reason) s e = absurd (none-some s e)
found_in (Lapse time tid) s e = absurd (none-some s e)

usable_first : (c : Change) (h : History) → IsFounded (c ∷ h) → Allowed [] c → AreUsable (settings_of (c ∷ h))
usable_first c h f a =
    let is : c ≡ Found f.0 = found_in c f.0 f.1 in
    subst (λ (x : Change). AreUsable (settings_of (x ∷ h))) (sym is) (usable_of f.0 (subst (λ (x : Change). Allowed [] x) is a))

usable : (h : History) → IsFounded h → Legal h → AreUsable (settings_of h)
usable [] f l = absurd (none-some f.0 f.1)
usable (c ∷ h) f l = usable_first c h f l.1.0

usable_prop : (s : Settings) → IsProp (AreUsable s)
usable_prop s = Prim.hlevel props

pub usable_out : {P : Type 0} (h : History) → ∥ Legal h × P ∥₁ → AreUsable (settings_of h)
usable_out h t = ∥∥₁_elim t (usable_prop (settings_of h)) (λ l. usable h (founded_out h t) l.0)

-- the first change, which is the founding
pub some_first : (h : History) → IsFounded h → 1 ≤ length h
some_first [] f = absurd (none-some f.0 f.1)
some_first (c ∷ h) f = omega arith

pub first_is : (h : History) (c : Change) → IsFounded h → slice_get h 0 ≡ Some c → (s : Settings) × (c ≡ Found s)
first_is [] c f e = absurd (none-some f.0 f.1)
first_is (d ∷ h) c f e = (f.0, sym (same_Some d c e) ∙ found_in d f.0 f.1)

pub settings_first : (h : History) (s : Settings) → slice_get h 0 ≡ Some (Found s) → s ≡ settings_of h
settings_first [] s e = absurd (none-some (Found s) e)
settings_first (c ∷ h) s e = ap (λ (x : Change). settings_of (x ∷ h)) (sym (same_Some c (Found s) e))

-- ---- what is read

-- the octets that were read are those of the message in the input
pub read_message : (left : Option (List ℕ)) (octets : List ℕ) → length octets ≤ message_limit + 1 → IfSome left (λ all. octets ≡ take (message_limit + 1) all) → (input : List ℕ) × IfSome left (λ all. all ≡ input) × (octets ≡ message_in input)
read_message None octets short read = (octets, tt, sym (take_all (message_limit + 1) octets short))
read_message (Some all) octets short read = (all, refl, read)

-- ---- the key file

no_fault : keys.NoMemory ≡ keys.ReadFault → ⊥
no_fault e = cc e

-- why no keys were loaded, or want of memory
pub given_told : (file : List ℕ) (s : Settings) (fault told : KeyFault) → Gives file s (Err fault) → (told ≡ fault) ⊎ (told ≡ keys.NoMemory) → Gives file s (Err told)
given_told file s fault told given is = ⊎_elim
    (λ same. subst (λ (f : KeyFault). Gives file s (Err f)) (sym same) given)
    (λ none. subst (λ (f : KeyFault). Gives file s (Err f)) (sym none) tt)
    is

-- the reply tells the fault; want of memory is no fault of reading
pub told_failed : (Failed : Type 0) (fault told : KeyFault) → (fault ≡ keys.ReadFault → Failed) → (told ≡ fault) ⊎ (told ≡ keys.NoMemory) → told ≡ keys.ReadFault → Failed
told_failed Failed fault told failed is e = ⊎_elim (λ same. failed (sym same ∙ e)) (λ none. absurd (no_fault (sym none ∙ e))) is

pub keyless : (devices : Devices) (file : List ℕ) (s : Settings) (h : History) (fault : KeyFault) (status : Status) (text : List ℕ) → (fault ≡ keys.ReadFault → devices.key.failed) → devices.input.unread
    → s ≡ settings_of h → Gives file s (Err fault) → IsKeyReply fault status text → IsUnread devices file h status text
keyless devices file s h fault status text failed kept same given r = inl (
  record {
    fault = r.told;
    given = subst (λ (x : Settings). Gives file x (Err r.told)) same (given_told file s fault r.told given r.is_told);
    failed = told_failed devices.key.failed fault r.told failed r.is_told;
    ends = r.ends;
    says = r.says;
  },
  kept,
)

pub own_file : (file : List ℕ) (s : Settings) (h : History) (keys : Loaded) → s ≡ settings_of h → Gives file s (Ok keys) → IsOwnFile file h
own_file file s h keys same given = record { form = given.0; agrees = subst (λ (x : Settings). Agrees file x) same given.1 }

pub own_replier : (file : List ℕ) (s : Settings) (h : History) (keys : Loaded) → s ≡ settings_of h → Gives file s (Ok keys) → replier_of keys.file keys.settings ≡ replier_at file h
own_replier file s h keys same given = ap (λ (k : Loaded). replier_of k.file k.settings) given.2 ∙ ap (replier_of file) same

pub own_settings : (file : List ℕ) (s : Settings) (h : History) (keys : Loaded) → s ≡ settings_of h → Gives file s (Ok keys) → settings_of h ≡ keys.settings
own_settings file s h keys same given = sym same ∙ ap (λ (k : Loaded). k.settings) (sym given.2)

-- a key file that the source may have had, for which each such reply is right
pub record IsKeyOf (devices : Devices) (left : Option (List ℕ)) (h : History) (u : Untaken) : Type 0 where
  pub file : List ℕ
  pub whole : IfSome left (λ all. all ≡ file)
  pub replies : (status : Status) (text : List ℕ) → IsUntakenReply u status text → IsUnread devices file h status text

-- what failed, and what wasn't read, where there is no message to answer
pub record AreFaults (devices : Devices) (u : Untaken) : Type 0 where
  pub key : u ≡ untaken.Keyless keys.ReadFault → devices.key.failed
  pub input : u ≡ untaken.ReadFault → devices.input.failed
  pub unread : is_keyless u ≡ true → devices.input.unread

pub untaken_key : (devices : Devices) (left : Option (List ℕ)) (s : Settings) (h : History) (u : Untaken) → s ≡ settings_of h → AreFaults devices u → IsWhyUntaken left s u → IsKeyOf devices left h u
untaken_key devices left s h (untaken.Keyless fault) same faults is = record {
  file = is.file;
  whole = is.read;
  replies = λ status text r. keyless devices is.file s h fault status text (λ e. faults.key (ap untaken.Keyless e)) (faults.unread refl) same is.gives r;
}
untaken_key devices left s h untaken.ReadFault same faults is = record {
  file = is.1.file;
  whole = is.1.read;
  replies = λ status text r. inr (own_file is.1.file s h is.0 same is.1.gives, short_read devices.input.failed status text (faults.input refl) r.0 r.1);
}
untaken_key devices left s h untaken.NoMemory same faults is = record {
  file = is.1.file;
  whole = is.1.read;
  replies = λ status text r. inr (own_file is.1.file s h is.0 same is.1.gives, short_memory devices.input.failed status text r.0 r.1);
}

-- ---- the run, over a disk that is lent to the desk by a reference

module _ {D R : Type 0} (now : R → D) (content : D → Option (List ℕ)) (images : D → List ℕ → Type 0) (moment : D → ℕ) (left_since : D → ℕ → List ℕ → Type 0) (honest : (d : D) (f : List ℕ) → content d ≡ Some f → images d f) where
  -- the disk is as the mount left it
  pub unchanged_by : (old mid new : R) (last : D) → now new ≡ last → mid ≡ new → content (now mid) ≡ content (now old) → Among (images (now old)) (images (now mid))
      → LeavesOnly (λ r. moment (now r)) (λ r t. left_since (now r) t) old mid (images (now old)) → IsUnchanged (run_of content images moment left_since (now old) last)
  unchanged_by old mid new last back stays same crash moments =
      subst (λ (d : D). IsUnchanged (run_of content images moment left_since (now old) d)) (ap now stays ∙ back)
      (record { content = same; crash = crash; moments = lent now content images moment left_since honest old mid (images (now old)) moments })

  -- where nothing is in doubt, each image recovers to the history
  pub only_history : (images : List ℕ → Type 0) (h : History) (d : Option Change) → d ≡ None → Images images h d → Every images (λ f. Recovers f h)
  only_history images h d clear stand image is = ⊎_elim (λ was. was) (λ more. absurd (cc (clear, more.1))) (stand image is)

  -- no message was answered
  pub unread_run : OneAnswer → (old mid : R) (last : D) (devices : Devices) (IsReading : ℕ → Type 0) (IsDraw : Option (List ℕ) → Type 0) (h : History) (d : Option Change) (s : Settings) (u : Untaken) (left key : Option (List ℕ)) (status : Status) (text : List ℕ)
      → now mid ≡ last
      → ((f : List ℕ) → content (now old) ≡ Some f → Stands f h)
      → content (now mid) ≡ content (now old) → Among (images (now old)) (images (now mid))
      → LeavesOnly (λ r. moment (now r)) (λ r t. left_since (now r) t) old mid (images (now old))
      → d ≡ None → Images (images (now mid)) h d
      → devices.unused → AreFaults devices u → s ≡ settings_of h → IsWhyUntaken key s u
      → IsUntakenReply u status text
      → ToldBoth left key (IsTakeReply (run_of content images moment left_since (now old) last) devices IsReading IsDraw) status text
  unread_run one old mid last devices IsReading IsDraw h d s u left key status text back stands same crash mounting clear stand unused faults known why is =
      let i = some_input left in
      let k = untaken_key devices key s h u known faults why in
      record {
        input = i.0;
        read = i.1;
        key = k.file;
        key_read = k.whole;
        is_reply = inr (inl (
          record {
            history = h;
            mounted = told (content (now old)) (λ f. IsAnswer f (Ok h)) (λ f tells. answer one f (Ok h) (stands f tells));
            unchanged = unchanged_by old mid mid last back refl same crash mounting;
            images = subst (λ (x : D). Every (images x) (λ f. Recovers f h)) back (only_history (images (now mid)) h d clear stand);
            cause = k.replies status text is;
          },
          unused,
        ));
      }

  -- one was
  pub taken_run : OneAnswer → (old mid new : R) (last : D) (devices : Devices) (IsReading : ℕ → Type 0) (IsDraw : Option (List ℕ) → Type 0) (h g : History) (e : Option Change) (s : Settings) (keys : Loaded) (octets : List ℕ) (status : Status) (text : List ℕ) (left key : Option (List ℕ))
      → now new ≡ last
      → ((f : List ℕ) → content (now old) ≡ Some f → Stands f h)
      → LeavesOnly (λ r. moment (now r)) (λ r t. left_since (now r) t) old mid (images (now old))
      → Images (images (now new)) g e → ∥ Legal g × IfSome e (Allowed g) ∥₁
      → s ≡ settings_of h → IsLoad key s (Ok keys)
      → length octets ≤ message_limit + 1 → IfSome left (λ all. octets ≡ take (message_limit + 1) all)
      → (status ≡ ReadFault → devices.entropy_failed)
      → IsAnswering (replier_of keys.file keys.settings) octets IsReading IsDraw (λ P. LeavesOnly (λ r. moment (now r)) (λ r t. left_since (now r) t) mid new P) h g e status text
      → ToldBoth left key (IsTakeReply (run_of content images moment left_since (now old) last) devices IsReading IsDraw) status text
  taken_run one old mid new last devices IsReading IsDraw h g e s keys octets status text left key back stands mounting stand lawful known loaded short read failed a =
      let i = read_message left octets short read in
      let file = loaded.file in
      let b = message_in i.0 in
      let own = own_file file s h keys known loaded.gives in
      let k = own_replier file s h keys known loaded.gives in
      let t : IsAnswering (replier_at file h) b IsReading IsDraw (λ P. LeavesOnly (λ r. moment (now r)) (λ r t. left_since (now r) t) mid new P) h g e status text =
      subst (λ (x : Replier). IsAnswering x b IsReading IsDraw (λ P. LeavesOnly (λ r. moment (now r)) (λ r t. left_since (now r) t) mid new P) h g e status text) k
      (subst (λ (x : List ℕ). IsAnswering (replier_of keys.file keys.settings) x IsReading IsDraw (λ P. LeavesOnly (λ r. moment (now r)) (λ r t. left_since (now r) t) mid new P) h g e status text) i.2 a) in
      record {
        input = i.0;
        read = i.1;
        key = file;
        key_read = loaded.read;
        is_reply = inr (inr record {
          now = t.now;
          reading = t.reading;
          draw = t.draw;
          drawn = t.drawn;
          failed = failed;
          letter = t.letter;
          changed = acted now content images moment left_since honest one old mid new last (Takes file i.0 t.now t.draw) (IsTaken file i.0 t.now t.draw) h g e status text back stands mounting t.moments stand lawful t.makes
              record { own = own; ends = t.ends; doubt = t.doubt };
        });
      }

  -- where the disk isn't mounted, it is given back
  pub unused_run : OneAnswer → (old new : R) (last : D) (devices : Devices) (IsReading : ℕ → Type 0) (IsDraw : Option (List ℕ) → Type 0) (fault : MountFault) (left key : Option (List ℕ)) (status : Status) (text : List ℕ)
      → now new ≡ last
      → ((f : List ℕ) → content (now old) ≡ Some f → Refuses f fault)
      → content (now new) ≡ content (now old) → Among (images (now old)) (images (now new)) → LeavesOnly (λ r. moment (now r)) (λ r t. left_since (now r) t) old new (images (now old))
      → devices.input.unread → devices.key.unread → devices.unused
      → IsFaultReply fault status text
      → ToldBoth left key (IsTakeReply (run_of content images moment left_since (now old) last) devices IsReading IsDraw) status text
  unused_run one old new last devices IsReading IsDraw fault left key status text back refuses same crash moments input_kept key_kept unused r =
      let i = some_input left in
      let k = some_input key in
      let u = gave_back now content images moment left_since honest one old new last fault status text back refuses same crash moments r in
      record {
        input = i.0;
        read = i.1;
        key = k.0;
        key_read = k.1;
        is_reply = inl record { fault = u.0; unchanged = u.1; input = input_kept; key = key_kept; unused = unused };
      }
