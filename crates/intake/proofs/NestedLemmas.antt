-- The check of a message that nests another one.
use Rattle.std.proofs.Common.{◌≡◌, ℕ, Bool, true, false, not, List, [], ◌∷◌, length, Option, Some, None, is_some, refl, sym, ap, subst, ◌∙◌}
use Rattle.std.specs.Prelude.{◌==◌}
use Rattle.pki_message.specs.Message.{MessageForm, IsMessage}
use Rattle.deal_changes.specs.declared.change.Kind.{Kind}
use Rattle.deal_model.specs.declared.asking.Ask.{Ask}
use Rattle.deal_model.specs.declared.asking.Echo.{Echo}
use Rattle.deal_model.specs.declared.states.Owner.{Owner}
use Rattle.deal_model.specs.declared.states.Standing.TheVariants.{Good}
use Rattle.deal_model.specs.Views.{History}
use Rattle.cmp_values.specs.declared.fail_info.FailInfo.{FailInfo}
use Rattle.cmp_values.specs.declared.fail_info.FailInfo.TheVariants.{BadRequest, NotAuthorized}
use Rattle.deal_table.specs.declared.look.Look.{Look}
use Rattle.deal_table.specs.Carry.{IsReadable, FitsJob, IsWrapped, Carries, header_by, untold, IsTold}
use Rattle.deal_table.specs.History.{Receipted, IsFounded, look_of}
use Rattle.deal_table.specs.Laws.{LookRefuses, RefusesToTheLooked, LookTellsTheOwner, LookTellsTheOuterOwner}
use Rattle.deal_table.specs.Looked.{looked, looked_passed, IsAskOf}
use Rattle.deal_table.specs.Message.{Body, Nests, is_nested, Header, Facts, Letter, subject_of}
use Rattle.deal_table.specs.Table.{◌when◌, Decision, unless, pass, bare, guarded, header_rows, wrap_rows, may_wrap, nested_count, tid_of, trusted_by, repeated}
use Rattle.intake.specs.Bodies.{nested_inside}
use Rattle.intake.specs.Checking.{ForFacts, IsTo, IsBack, IsBackAround, IsBadInner, IsHashOf, IsInner, IsSubject, IsTrusted, IsWhole, checked_by, name_for}
use Rattle.intake.specs.Fit.{IsUnfit, IsCompared, TellsNoMore}
use Rattle.intake.specs.Letter.{IsReading, Checks, AreChecked, AreChecks, facts_of, IsLetter}
use Rattle.intake.specs.Made.{FirstApplies, heading_of, with_kid, credential_of, IsMadeOf}
use Rattle.intake.specs.declared.sender.Sender.{Sender}
use Rattle.intake.specs.declared.subject.Subject.{Subject}
use Rattle.intake.specs.declared.unfit.Unfit.{Unfit}
use Rattle.intake.specs.declared.unfit.Unfit.TheVariants.{Refused, NoMemory}
use Rattle.intake.proofs.Letters.{message_is, header_is, nested_is, is_readable, subject_is_inside, reads_inside, facts_header, facts_digest}
use Rattle.intake.proofs.NameLemmas.{name_is}
use Rattle.intake.proofs.FitLemmas.{header_back, fits_checked}
use Rattle.intake.proofs.PlainLemmas.{outer_checked}
use Rattle.intake.proofs.WholeLemmas.{back_same, unfit_at, told_is, for_job, carries_nested, looked_nested, looked_inside, inside_by, read_passes, nests_one}

-- of two rows the second one passes
one_wrapped : (may one : Bool) → pass ((NotAuthorized when not may) ∷ (BadRequest when not one) ∷ []) ≡ true → one ≡ true
one_wrapped may true e = refl
one_wrapped true false e = absurd (let h : false ≡ true = e in cc)
one_wrapped false false e = absurd (let h : false ≡ true = e in cc)

-- what isn't in form inside, or no message
bad_inside : (look : Look) (name : List ℕ) (l : Letter) (s : Sender) (o : Option MessageForm) (hashes : Receipted → List ℕ) (inside : List ℕ) (c : Checks) (u : Unfit) → IsBadInner s.guarded o u → l.inner ≡ facts_of hashes inside o c
    → is_some (guarded true l.message s.owner).guard ≡ s.guarded → IsBack Decision (λ next. inside_by look name l next s.owner) u
bad_inside look name l s o hashes inside c NoMemory bad is guard = absurd bad
bad_inside look name l s None hashes inside c (Refused fail sure outer) bad is guard =
    (guarded true l.message s.owner, record { outer = sym bad.2; guard = guard ∙ sym bad.1 }, λ next. rw (is, bad.0) refl)
bad_inside look name l s (Some m) hashes inside c (Refused fail sure outer) bad is guard =
    (bare false, record { outer = sym bad.2; guard = sym bad.1 }, λ next. rw is (bad.0 (bare false) _))

module _ (bytes : List ℕ) (m : MessageForm) (one : (o : Option MessageForm) → IsReading bytes o → o ≡ Some m) (found : IsMessage bytes m) (passes : pass (header_rows (heading_of (Some m))) ≡ true)
    (inside : List ℕ) (there : nested_inside m.body ≡ Some inside) (ask : Ask) (echo outer_echo : Echo)
    (made : (o : Option MessageForm) → IsReading inside o → IsMadeOf inside (heading_of o) (heading_of (Some m)) (credential_of (heading_of (Some m))) ask echo outer_echo) (look : Look) where
  nested : (hashes : Receipted → List ℕ) (l : Letter) → IsLetter hashes bytes l → is_nested l.message.body ≡ true
  nested hashes l w = nested_is bytes m one hashes l w ∙ ap is_some there

  inner_subject : (hashes : Receipted → List ℕ) (l : Letter) → IsLetter hashes bytes l → subject_of l ≡ l.inner
  inner_subject hashes l w = let n : is_nested l.message.body ≡ true = nested hashes l w in rw n refl

  inner_is : (hashes : Receipted → List ℕ) (l : Letter) (w : IsLetter hashes bytes l) → l.inner ≡ facts_of hashes inside w.inner w.inner_checks
  inner_is hashes l w = sym (inner_subject hashes l w) ∙ subject_is_inside bytes m one hashes l w inside there

  facts_at : (P : (Receipted → List ℕ) → Facts → Type 0) → ForFacts m P → (hashes : Receipted → List ℕ) (l : Letter) → IsLetter hashes bytes l → P hashes l.message
  facts_at P all hashes l w = subst (λ (f : Facts). P hashes f) (sym (message_is bytes m one hashes l w)) (all hashes bytes w.outer_checks (outer_checked bytes m one hashes l w))

  credential_is : (head : Header) (kind : Kind) → head.kind ≡ Some kind → credential_of head ≡ Some (kind, head.kid)
  credential_is head kind e = ap (λ (k : Option Kind). with_kid k head.kid) e

  asks_nested : (hashes : Receipted → List ℕ) (l : Letter) → IsLetter hashes bytes l → IsAskOf l ask
  asks_nested hashes l w =
      let it = made w.inner (reads_inside bytes m one hashes l w inside there) in
      let s : subject_of l ≡ facts_of hashes inside w.inner w.inner_checks = subject_is_inside bytes m one hashes l w inside there in
      let head : (subject_of l).header ≡ heading_of w.inner = ap (λ (f : Facts). f.header) s ∙ facts_header hashes inside w.inner w.inner_checks in
      let around : l.message.header ≡ heading_of (Some m) = header_is bytes m one hashes l w in
      record {
        digest = ap (λ (f : Facts). f.digest) s ∙ facts_digest hashes inside w.inner w.inner_checks ∙ sym it.asked.digest;
        tid = ap tid_of head ∙ sym it.asked.tid;
        kind = ap (λ (x : Header). x.kind) head ∙ sym it.asked.kind;
        kid = ap (λ (x : Header). x.kid) head ∙ sym it.asked.kid;
        outer = λ kind nested k. it.asked.outer ∙ credential_is (heading_of (Some m)) kind (ap (λ (x : Header). x.kind) (sym around) ∙ k) ∙ ap (λ (x : Header). Some (kind, x.kid)) (sym around);
      }

  -- what refuses the letter by the look refuses it
  unfit_nested : LookRefuses → RefusesToTheLooked → (u : Unfit) → ((hashes : Receipted → List ℕ) (l : Letter) → IsLetter hashes bytes l → IsBack Decision (looked look (name_for look) l) u) → IsUnfit bytes ask look u
  unfit_nested refuses sends NoMemory back = tt
  unfit_nested refuses sends (Refused fail sure outer) back = λ hashes l h now w founded e words.
      unfit_at refuses sends look (name_for look) l h ask now words fail sure outer (asks_nested hashes l w) e (name_is look h ask now founded e) (back hashes l w)

  -- the rows of the nested message's own sender
  pub unfit_around : LookRefuses → RefusesToTheLooked → (u : Unfit) → ForFacts m (λ hashes f. IsBackAround look f u) → IsUnfit bytes ask look u
  unfit_around refuses sends u back = unfit_nested refuses sends u (λ hashes l w.
      back_same Decision (Owner → Decision) (looked look (name_for look) l) (λ (n : Owner → Decision). trusted_by look.outer look.settings.skew look.time true l.message (λ o. unless (guarded true l.message o) (wrap_rows l.message o) (n o))) (λ next. inside_by look (name_for look) l next) u
      (λ next. looked_nested look (name_for look) l next (nested hashes l w) (is_readable bytes m one passes hashes l w))
      (facts_at (λ hashes f. IsBackAround look f u) back hashes l w))

  module _ (sender : Sender) (trusted : ForFacts m (λ hashes f. IsTrusted look.outer look.settings.skew look.time true f sender × (pass (wrap_rows f sender.owner) ≡ true))) where
    trusted_at : (hashes : Receipted → List ℕ) (l : Letter) → IsLetter hashes bytes l → IsTrusted look.outer look.settings.skew look.time true l.message sender × (pass (wrap_rows l.message sender.owner) ≡ true)
    trusted_at = facts_at (λ hashes f. IsTrusted look.outer look.settings.skew look.time true f sender × (pass (wrap_rows f sender.owner) ≡ true)) trusted

    looked_at : (hashes : Receipted → List ℕ) (l : Letter) → IsLetter hashes bytes l → (name : List ℕ) (next : Decision) → looked look name l next ≡ inside_by look name l next sender.owner
    looked_at hashes l w name next = looked_inside look name l next sender (nested hashes l w) (is_readable bytes m one passes hashes l w) (trusted_at hashes l w).0 (trusted_at hashes l w).1

    pub unfit_inside : LookRefuses → RefusesToTheLooked → (u : Unfit) → ((o : Option MessageForm) → IsReading inside o → IsBadInner sender.guarded o u) → IsUnfit bytes ask look u
    unfit_inside refuses sends u bad = unfit_nested refuses sends u (λ hashes l w.
        back_same Decision Decision (looked look (name_for look) l) (λ next. inside_by look (name_for look) l next sender.owner) (λ next. next) u (looked_at hashes l w (name_for look))
        (bad_inside look (name_for look) l sender w.inner hashes inside w.inner_checks u (bad w.inner (reads_inside bytes m one hashes l w inside there)) (inner_is hashes l w) (trusted_at hashes l w).0.guard))

    module _ (n : MessageForm) (inner : IsInner inside n) where
      one_inside : (hashes : Receipted → List ℕ) (l : Letter) (w : IsLetter hashes bytes l) → w.inner ≡ Some n
      one_inside hashes l w = inner.one w.inner (reads_inside bytes m one hashes l w inside there)

      inner_facts : (P : (Receipted → List ℕ) → Facts → Type 0) → ForFacts n P → (hashes : Receipted → List ℕ) (l : Letter) → IsLetter hashes bytes l → P hashes l.inner
      inner_facts P all hashes l w =
          let is : l.inner ≡ facts_of hashes inside (Some n) w.inner_checks = inner_is hashes l w ∙ ap (λ (o : Option MessageForm). facts_of hashes inside o w.inner_checks) (one_inside hashes l w) in
          subst (λ (f : Facts). P hashes f) (sym is) (all hashes inside w.inner_checks (subst (λ (o : Option MessageForm). AreChecks o w.inner_checks) (one_inside hashes l w) w.inner_checked))

      readable_inside : (hashes : Receipted → List ℕ) (l : Letter) → IsLetter hashes bytes l → IsReadable l.inner
      readable_inside = inner_facts (λ hashes f. IsReadable f) (λ hashes octets c checked. record { form = refl; header = inner.header })

      pub unfit_subject : LookRefuses → RefusesToTheLooked → (u : Unfit) → ForFacts n (λ hashes f. IsBack Decision (looked_passed look (name_for look) f) u) → IsUnfit bytes ask look u
      unfit_subject refuses sends u back = unfit_nested refuses sends u (λ hashes l w.
          back_same Decision Decision (looked look (name_for look) l) (looked_passed look (name_for look) l.inner) (λ next. next) u
          (λ next. looked_at hashes l w (name_for look) next ∙ read_passes (guarded true l.message sender.owner) (bare false) l.inner (looked_passed look (name_for look) l.inner next) (readable_inside hashes l w))
          (inner_facts (λ hashes f. IsBack Decision (looked_passed look (name_for look) f) u) back hashes l w))

      module _ (s : Subject) (checked : ForFacts n (λ hashes f. IsSubject look hashes f s)) where
        subject_at : (hashes : Receipted → List ℕ) (l : Letter) → IsLetter hashes bytes l → IsSubject look hashes l.inner s
        subject_at = inner_facts (λ hashes f. IsSubject look hashes f s) checked

        kept : IsMadeOf inside (heading_of (Some n)) (heading_of (Some m)) (credential_of (heading_of (Some m))) ask echo outer_echo
        kept = made (Some n) inner.found

        digest_is : (hashes : Receipted → List ℕ) (l : Letter) → IsLetter hashes bytes l → l.inner.digest ≡ ask.digest
        digest_is hashes l w = ap (λ (f : Facts). f.digest) (inner_is hashes l w) ∙ facts_digest hashes inside w.inner w.inner_checks ∙ sym kept.asked.digest

        wrapped : (h : History) (now : ℕ) (kind : Kind) (hashes : Receipted → List ℕ) (l : Letter) → LookTellsTheOuterOwner → look ≡ look_of h ask now → IsLetter hashes bytes l → (heading_of (Some m)).kind ≡ Some kind
            → IsWrapped h l.message (untold (checked_by ask echo (heading_of (Some n)) s m.time (Some sender.owner.key))) (kind, (heading_of (Some m)).kid)
        wrapped h now kind hashes l owners e w is =
            let t = trusted_at hashes l w in
            let head : l.message.header ≡ heading_of (Some m) = header_is bytes m one hashes l w in
            let asked : ask.outer ≡ Some (kind, (heading_of (Some m)).kid) = kept.asked.outer ∙ credential_is (heading_of (Some m)) kind is in
            let good : (look_of h ask now).outer ≡ Good sender.owner.who sender.owner.key sender.owner.rights = subst (λ (x : Look). x.outer ≡ Good sender.owner.who sender.owner.key sender.owner.rights) e t.0.good in
            let kinds : l.message.header.kind ≡ Some kind = ap (λ (x : Header). x.kind) head ∙ is in
            record {
              body = nests_one l.message.body (nested hashes l w) (one_wrapped (may_wrap sender.owner) (nested_count l.message.body == 1) t.1);
              kind = kinds;
              kid = ap (λ (x : Header). x.kid) head;
              time = ap (λ (x : Header). x.time) head;
              owner = sender.owner;
              protection = record {
                stands = rw (kinds, head) (owners h ask now (kind, (heading_of (Some m)).kid) sender.owner asked good);
                protected = t.0.protected;
                verified = t.0.verified;
              };
              key = refl;
            }

        carried : (kind : Option Kind) → (heading_of (Some m)).kind ≡ kind → is_some kind ≡ true → LookTellsTheOwner → LookTellsTheOuterOwner → (hashes : Receipted → List ℕ) (l : Letter) (h : History) (now : ℕ) → IsLetter hashes bytes l → IsFounded h → look ≡ look_of h ask now
            → Carries l (untold (checked_by ask echo (heading_of (Some n)) s m.time (Some sender.owner.key))) h
        carried None is some owners outers hashes l h now w founded e = absurd (let x : false ≡ true = some in cc)
        carried (Some kind) is some owners outers hashes l h now w founded e =
            let head : l.inner.header ≡ header_by (checked_by ask echo (heading_of (Some n)) s m.time (Some sender.owner.key)) =
            inner_facts (λ hashes f. f.header ≡ heading_of (Some n)) (λ hashes octets c checked. refl) hashes l w
            ∙ header_back (heading_of (Some n)) ask echo s m.time (Some sender.owner.key) kept.asked.tid kept.asked.kind kept.asked.kid kept.echo_is inner.header in
            carries_nested h l (untold (checked_by ask echo (heading_of (Some n)) s m.time (Some sender.owner.key))) (kind, (heading_of (Some m)).kid) (nested hashes l w) founded (is_readable bytes m one passes hashes l w) (readable_inside hashes l w)
            (digest_is hashes l w) head (kept.asked.outer ∙ credential_is (heading_of (Some m)) kind is) (wrapped h now kind hashes l outers e w is)
            (for_job look h now ask echo hashes l.inner s (heading_of (Some n)) m.time (Some sender.owner.key) owners e (name_is look h ask now founded e) (digest_is hashes l w) head s.task.job (subject_at hashes l w).sent)

        some_kind : (hashes : Receipted → List ℕ) (l : Letter) → IsLetter hashes bytes l → is_some (heading_of (Some m)).kind ≡ true
        some_kind hashes l w = ap (λ (x : Header). is_some x.kind) (sym (header_is bytes m one hashes l w)) ∙ (trusted_at hashes l w).0.kind

        pub whole_nested : LookTellsTheOwner → LookTellsTheOuterOwner → FitsJob s.task.job
            → IsWhole bytes ask echo look (checked_by ask echo (heading_of (Some n)) s m.time (Some sender.owner.key))
        whole_nested owners outers job = record {
          carries = λ hashes l h now w founded e. carried (heading_of (Some m)).kind refl (some_kind hashes l w) owners outers hashes l h now w founded e;
          hash = λ hashes l h digests w.
              subst (λ (f : Facts). IsTold f.body s.task.hash_ok ask.tid h) (sym (inner_subject hashes l w)) (told_is l.inner.body s.task.hash_ok ask.tid h ((subject_at hashes l w).told digests));
          compares = λ hashes l w. subst (λ (f : Facts). IsCompared hashes f.body s.task.job s.task.hash_ok) (sym (inner_subject hashes l w)) (subject_at hashes l w).compared;
          exact = λ hashes l w. record {
            no_more = subst (λ (f : Facts). TellsNoMore f.body s.task.job s.task.proven s.task.minus_one s.task.hash_ok) (sym (inner_subject hashes l w)) (subject_at hashes l w).no_more;
            nobody = (subject_at hashes l w).nobody;
            around = λ alone. absurd (let x : true ≡ false = sym (nested hashes l w) ∙ alone in cc);
          };
          passes = λ hashes l h now w founded e next.
              subst (λ (name : List ℕ). looked look name l next ≡ repeated look.repeat next) (name_is look h ask now founded e)
              (looked_at hashes l w (name_for look) next ∙ read_passes (guarded true l.message sender.owner) (bare false) l.inner (looked_passed look (name_for look) l.inner next) (readable_inside hashes l w) ∙ (subject_at hashes l w).passes next);
          fits = fits_checked inside inside n (heading_of (Some m)) (credential_of (heading_of (Some m))) ask echo outer_echo s m.time (Some sender.owner.key) inner.found inner.header kept job;
          asks = refl;
          echoes = refl;
        }
