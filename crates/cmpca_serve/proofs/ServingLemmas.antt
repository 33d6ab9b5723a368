-- The reply of a run of serving, from what the mount, the keys and the work behind the turnstile say.
use Rattle.std.proofs.Common.{◌≡◌, ⊎_elim, ℕ, ◌*◌, ◌≤◌, List, [], ◌∷◌, length, Option, Some, None, refl, sym, ◌∙◌, ap, subst}
use Rattle.std.specs.Prelude.{Ok, Err}
use Rattle.std.proofs.lemmas.Option.{none-some}
use Rattle.cmp_links.specs.declared.door.Door as doors
use Rattle.cmp_links.specs.declared.link.Link as links
use Rattle.cmp_ports.specs.Disk.{Among, Every, LeavesOnly}
use Rattle.cmp_ports.specs.Moments.{started}
use Rattle.cmp_ports.specs.declared.clock.Clock as clocks
use Rattle.cmp_ports.specs.declared.entropy.Entropy as entropies
use Rattle.cmp_ports.specs.declared.order.Order.{Order}
use Rattle.deal_changes.specs.declared.change.Change.{Change}
use Rattle.deal_changes.specs.declared.change.Settings.{Settings}
use Rattle.deal_model.specs.Views.{History, settings_of}
use Rattle.desk.specs.Images.{Recovers, Images}
use Rattle.desk.specs.Mounts.{Stands}
use Rattle.reply_maker.specs.Keys.{Loaded, Gives}
use Rattle.reply_maker.specs.Replies.{Replier, replier_of}
use Rattle.reply_maker.specs.declared.key_file.KeyFault.{KeyFault}
use Rattle.reply_maker.specs.declared.key_file.KeyFault.TheVariants as keys
use Rattle.rounds.specs.declared.round.Round.{Round}
use Rattle.turnstile.specs.declared.view.View.{View}
use Rattle.turnstile.specs.Lists.{times, once}
use Rattle.workers.specs.declared.station.Station.{Station}
use Rattle.cmpca_tool.specs.Changes.{DiskRun, IsUnchanged, run_of}
use Rattle.cmpca_tool.specs.Mounts.{IsAnswer}
use Rattle.cmpca_tool.specs.Reply.{usage_line}
use Rattle.cmpca_tool.specs.Takings.{IsKeyReply}
use Rattle.cmpca_tool.specs.declared.status.Status.{Status}
use Rattle.cmpca_tool.specs.declared.status.Status.TheVariants as statuses
use Rattle.cmpca_tool.proofs.ShowLemmas.{OneAnswer, told, answer}
use Rattle.cmpca_tool.proofs.TakeLemmas.{given_told, told_failed, own_file, own_replier, unchanged_by, only_history}
use Rattle.cmpca_serve.specs.Parts.{AreAll}
use Rattle.cmpca_serve.specs.Runs.{IsToldRun}
use Rattle.cmpca_serve.specs.Serving.{IsKeyless, IsRunning, IsServedBehind, IsServedRun, IsServing, IsSummaryReply, IsUsage}
use Rattle.cmpca_serve.specs.Texts.{summary}
use Rattle.cmpca_serve.specs.Words.{Serves}
use Rattle.cmpca_serve.specs.declared.words.ServePlan.{ServePlan}

-- ---- what was served, once the turnstile is closed

module _ {S L C E G : Type 0} (ls : links.Ghosts L) (ds : doors.Ghosts S L) (cs : clocks.Ghosts C) (es : entropies.Ghosts E) where
  pub closed_reply : (k : Replier) (h0 first opened closed : History) (v : View Change) (round : Round) (plan : ServePlan) (stations stations_after : List (Station S C E G)) (old new : Option (List Order)) (before after : Option (ℕ → ℕ)) (changes : ℕ) (status : Status) (text : List ℕ) (Kept : Type 0)
      → IsServedBehind ls ds cs es k first v round plan stations stations_after old new before after
      → first ≡ h0 → opened ≡ h0 → closed ≡ v.seen
      → ((p : ℕ) → times p v.mine ≡ once (length opened) (length closed) p)
      → changes ≡ length closed → Kept
      → IsSummaryReply plan changes round status text
      → (h : History) × IsServing (λ h0 h text. IsServedRun ls ds cs es k h0 h plan stations stations_after old new before after text × Kept) h0 h status text
  closed_reply k h0 first opened closed v round plan stations stations_after old new before after changes status text Kept served first_is opened_is closed_is all counts kept reply =
      let behind : IsServedBehind ls ds cs es k h0 v round plan stations stations_after old new before after = subst (λ (h : History). IsServedBehind ls ds cs es k h v round plan stations stations_after old new before after) first_is served in
      let Serves : History → History → List ℕ → Type 0 = λ h0 h text. IsServedRun ls ds cs es k h0 h plan stations stations_after old new before after text × Kept in
      let every : AreAll (length h0) (length v.seen) v.mine = λ p. all p ∙ ap (λ (h : History). once (length h) (length closed) p) opened_is ∙ ap (λ (h : History). once (length h0) (length h) p) closed_is in
      let count : changes ≡ length v.seen = counts ∙ ap (λ (h : History). length h) closed_is in
      let total : ℕ = plan.workers * plan.connections in
      ⊎_elim
      (λ done. (
        v.seen,
        subst (λ (s : Status). IsServing Serves h0 v.seen s text) (sym done.0) (
          record {
            places = behind.places;
            workers = behind.workers;
            told = subst (λ (t : List ℕ). IsToldRun h0 v.seen behind.places total old new before after t) (sym (done.1 ∙ ap (λ (n : ℕ). summary total n round.done round.refused) count)) (behind.told every);
          },
          kept,
        ),
      ))
      (λ none. (v.seen, subst (λ (s : Status). IsServing Serves h0 v.seen s text) (sym none.0) none.1))
      reply

-- ---- a served history under its own keys

pub running : OneAnswer → (disk : DiskRun) (file : List ℕ) (s : Settings) (h g : History) (keys : Loaded) (IsServed : Replier → History → History → List ℕ → Type 0) (status : Status) (text : List ℕ)
    → ((f : List ℕ) → disk.content_before ≡ Some f → Stands f h)
    → s ≡ settings_of h → Gives file s (Ok keys)
    → IsServing (IsServed (replier_of keys.file keys.settings)) h g status text
    → IsRunning disk file IsServed status text
running one disk file s h g keys IsServed status text stands known gives serving = record {
  opened = h;
  closed = g;
  mounted = told disk.content_before (λ f. IsAnswer f (Ok h)) (λ f tells. answer one f (Ok h) (stands f tells));
  own = own_file file s h keys known gives;
  ends = subst (λ (k : Replier). IsServing (IsServed k) h g status text) (own_replier file s h keys known gives) serving;
}

-- ---- the run, over a disk that is lent to the desk by a reference

module _ {D R : Type 0} (now : R → D) (content : D → Option (List ℕ)) (images : D → List ℕ → Type 0) (moment : D → ℕ) (left_since : D → ℕ → List ℕ → Type 0) (honest : (d : D) (f : List ℕ) → content d ≡ Some f → images d f) where
  -- the key file gives no keys
  pub keyless : OneAnswer → (old mid : R) (last : D) (failed : Type 0) (file : List ℕ) (s : Settings) (h : History) (d : Option Change) (fault : KeyFault) (status : Status) (text : List ℕ)
      → now mid ≡ last
      → ((f : List ℕ) → content (now old) ≡ Some f → Stands f h)
      → content (now mid) ≡ content (now old) → Among (images (now old)) (images (now mid))
      → LeavesOnly (λ r. moment (now r)) (λ r t. left_since (now r) t) old mid (images (now old))
      → d ≡ None → Images (images (now mid)) h d
      → s ≡ settings_of h → (fault ≡ keys.ReadFault → failed) → Gives file s (Err fault) → IsKeyReply fault status text
      → IsKeyless (run_of content images moment left_since (now old) last) failed file status text
  keyless one old mid last failed file s h d fault status text back stands same crash mounting clear stand known fails gives r = record {
    history = h;
    mounted = told (content (now old)) (λ f. IsAnswer f (Ok h)) (λ f tells. answer one f (Ok h) (stands f tells));
    unchanged = unchanged_by now content images moment left_since honest old mid mid last back refl same crash mounting;
    images = subst (λ (x : D). Every (images x) (λ f. Recovers f h)) back (only_history now content images moment left_since honest (images (now mid)) h d clear stand);
    cause = record {
      fault = r.told;
      given = subst (λ (x : Settings). Gives file x (Err r.told)) known (given_told file s fault r.told gives r.is_told);
      failed = told_failed failed fault r.told fails r.is_told;
      ends = r.ends;
      says = r.says;
    };
  }

-- words that ask for no serving; the disk isn't touched
pub no_words : (words : List (List ℕ)) (found : Option ServePlan) (status : Status) (text : List ℕ) → found ≡ None → ((p : ServePlan) → Serves words p → found ≡ Some p) → status ≡ statuses.Usage → text ≡ usage_line → IsUsage words status text
no_words words found status text none only ends says = record { none = λ p serves. none-some p (sym none ∙ only p serves); ends = ends; says = says }

module _ {D : Type 0} (content : D → Option (List ℕ)) (images : D → List ℕ → Type 0) (moment : D → ℕ) (left_since : D → ℕ → List ℕ → Type 0) (only_now : (d : D) (c : List ℕ) → left_since d (moment d) c → images d c) where
  pub untouched : (d : D) → IsUnchanged (run_of content images moment left_since d d)
  untouched d = record { content = refl; crash = λ c is. is; moments = started moment left_since d (images d) (only_now d) }

-- how many workers the words may ask for
pub some_workers : (words : List (List ℕ)) (p : ServePlan) → Serves words p → (1 ≤ p.workers) × (p.workers ≤ 16)
some_workers [] p serves = absurd serves
some_workers (a ∷ []) p serves = absurd serves
some_workers (a ∷ b ∷ []) p serves = absurd serves
some_workers (a ∷ b ∷ c ∷ []) p serves = absurd serves
some_workers (a ∷ b ∷ c ∷ d ∷ []) p serves = absurd serves
some_workers (a ∷ b ∷ c ∷ d ∷ e ∷ []) p serves = absurd serves
some_workers (a ∷ b ∷ c ∷ d ∷ e ∷ f ∷ []) p serves = absurd serves
some_workers (a ∷ b ∷ c ∷ d ∷ e ∷ f ∷ g ∷ []) p serves = (serves.2.1, serves.2.2)
some_workers (a ∷ b ∷ c ∷ d ∷ e ∷ f ∷ g ∷ h ∷ more) p serves = absurd serves
