-- The check of a message that nests no other one.
use Rattle.std.proofs.Common.{◌≡◌, ℕ, Bool, true, false, List, length, Option, Some, None, is_some, refl, sym, ap, subst, ◌∙◌}
use Rattle.asn_fields.proofs.FieldLemmas.{some_same}
use Rattle.pki_message.specs.Message.{MessageForm, IsMessage}
use Rattle.deal_model.specs.declared.asking.Ask.{Ask}
use Rattle.deal_model.specs.declared.asking.Echo.{Echo}
use Rattle.deal_model.specs.Views.{History}
use Rattle.cmp_values.specs.declared.fail_info.FailInfo.{FailInfo}
use Rattle.deal_table.specs.declared.look.Look.{Look}
use Rattle.deal_table.specs.Carry.{IsReadable, FitsJob, header_by, untold, IsTold}
use Rattle.deal_table.specs.History.{Receipted, name_of}
use Rattle.deal_table.specs.Laws.{LookRefuses, RefusesToTheLooked, LookTellsTheOwner}
use Rattle.deal_table.specs.Looked.{looked, looked_passed, IsAskOf}
use Rattle.deal_table.specs.Message.{Body, is_nested, Header, Facts, Letter, subject_of}
use Rattle.deal_table.specs.Table.{Decision, pass, header_rows, tid_of, repeated}
use Rattle.intake.specs.Bodies.{nested_inside}
use Rattle.intake.specs.Checking.{ForFacts, IsBack, IsHashOf, IsSubject, IsWhole, checked_by, name_for}
use Rattle.intake.specs.Fit.{IsUnfit, IsCompared, TellsNoMore}
use Rattle.intake.specs.Letter.{IsReading, Checks, AreChecked, AreChecks, facts_of, IsLetter}
use Rattle.intake.specs.Made.{heading_of, IsMadeOf}
use Rattle.intake.specs.declared.subject.Subject.{Subject}
use Rattle.intake.specs.declared.unfit.Unfit.{Unfit}
use Rattle.intake.specs.declared.unfit.Unfit.TheVariants.{Refused, NoMemory}
use Rattle.intake.proofs.Letters.{message_is, header_is, nested_is, is_readable, plain_made}
use Rattle.intake.proofs.NameLemmas.{name_is}
use Rattle.intake.proofs.FitLemmas.{header_back, fits_checked}
use Rattle.intake.proofs.WholeLemmas.{back_same, unfit_at, told_is, for_job, carries_plain, looked_plain}

pub outer_checked : (bytes : List ℕ) (m : MessageForm) (unique : (o : Option MessageForm) → IsReading bytes o → o ≡ Some m) (hashes : Receipted → List ℕ) (l : Letter) (w : IsLetter hashes bytes l) → AreChecked m w.outer_checks
outer_checked bytes m unique hashes l w = subst (λ (o : Option MessageForm). AreChecks o w.outer_checks) (unique w.outer w.is_outer) w.outer_checked

module _ (bytes : List ℕ) (m : MessageForm) (one : (o : Option MessageForm) → IsReading bytes o → o ≡ Some m) (found : IsMessage bytes m) (passes : pass (header_rows (heading_of (Some m))) ≡ true)
    (alone : nested_inside m.body ≡ None) (ask : Ask) (echo outer_echo : Echo) (made : IsMadeOf bytes (heading_of (Some m)) (heading_of (Some m)) None ask echo outer_echo) (look : Look) where
  not_nested : (hashes : Receipted → List ℕ) (l : Letter) → IsLetter hashes bytes l → is_nested l.message.body ≡ false
  not_nested hashes l w = nested_is bytes m one hashes l w ∙ ap is_some alone

  digest_is : (hashes : Receipted → List ℕ) (l : Letter) → IsLetter hashes bytes l → l.message.digest ≡ ask.digest
  digest_is hashes l w = ap (λ (f : Facts). f.digest) (message_is bytes m one hashes l w) ∙ sym made.asked.digest

  asks_plain : (hashes : Receipted → List ℕ) (l : Letter) → IsLetter hashes bytes l → IsAskOf l ask
  asks_plain = plain_made bytes m one ask echo outer_echo alone made

  pub unfit_plain : LookRefuses → RefusesToTheLooked → (u : Unfit) → ForFacts m (λ hashes f. IsBack Decision (looked_passed look (name_for look) f) u) → IsUnfit bytes ask look u
  unfit_plain refuses sends NoMemory back = tt
  unfit_plain refuses sends (Refused fail sure outer) back = λ hashes l h now w founded e words.
      let at : IsBack Decision (looked_passed look (name_for look) l.message) (Refused fail sure outer) =
      subst (λ (f : Facts). IsBack Decision (looked_passed look (name_for look) f) (Refused fail sure outer)) (sym (message_is bytes m one hashes l w)) (back hashes bytes w.outer_checks (outer_checked bytes m one hashes l w)) in
      let whole : IsBack Decision (looked look (name_for look) l) (Refused fail sure outer) =
      back_same Decision Decision (looked look (name_for look) l) (looked_passed look (name_for look) l.message) (λ next. next) (Refused fail sure outer)
      (λ next. looked_plain look (name_for look) l next (not_nested hashes l w) (is_readable bytes m one passes hashes l w)) at in
      unfit_at refuses sends look (name_for look) l h ask now words fail sure outer (asks_plain hashes l w) e (name_is look h ask now founded e) whole

  module _ (s : Subject) (checked : ForFacts m (λ hashes f. IsSubject look hashes f s)) where
    subject_at : (hashes : Receipted → List ℕ) (l : Letter) → IsLetter hashes bytes l → IsSubject look hashes l.message s
    subject_at hashes l w = subst (λ (f : Facts). IsSubject look hashes f s) (sym (message_is bytes m one hashes l w)) (checked hashes bytes w.outer_checks (outer_checked bytes m one hashes l w))

    itself : (hashes : Receipted → List ℕ) (l : Letter) → IsLetter hashes bytes l → l.message ≡ subject_of l
    itself hashes l w = let n : is_nested l.message.body ≡ false = not_nested hashes l w in rw n refl

    pub whole_plain : LookTellsTheOwner → FitsJob s.task.job → IsWhole bytes ask echo look (checked_by ask echo (heading_of (Some m)) s None None)
    whole_plain owners job = record {
      carries = λ hashes l h now w founded e.
          let head : l.message.header ≡ header_by (checked_by ask echo (heading_of (Some m)) s None None) =
          header_is bytes m one hashes l w ∙ header_back (heading_of (Some m)) ask echo s None None made.asked.tid made.asked.kind made.asked.kid made.echo_is passes in
          carries_plain h l (untold (checked_by ask echo (heading_of (Some m)) s None None)) (not_nested hashes l w) founded (is_readable bytes m one passes hashes l w) (digest_is hashes l w) head made.asked.outer
          (for_job look h now ask echo hashes l.message s (heading_of (Some m)) None None owners e (name_is look h ask now founded e) (digest_is hashes l w) head s.task.job (subject_at hashes l w).sent);
      hash = λ hashes l h digests w.
          subst (λ (f : Facts). IsTold f.body s.task.hash_ok ask.tid h) (itself hashes l w) (told_is l.message.body s.task.hash_ok ask.tid h ((subject_at hashes l w).told digests));
      compares = λ hashes l w. subst (λ (f : Facts). IsCompared hashes f.body s.task.job s.task.hash_ok) (itself hashes l w) (subject_at hashes l w).compared;
      exact = λ hashes l w. record {
        no_more = subst (λ (f : Facts). TellsNoMore f.body s.task.job s.task.proven s.task.minus_one s.task.hash_ok) (itself hashes l w) (subject_at hashes l w).no_more;
        nobody = (subject_at hashes l w).nobody;
        around = λ _. (refl, refl);
      };
      passes = λ hashes l h now w founded e next.
          subst (λ (name : List ℕ). looked look name l next ≡ repeated look.repeat next) (name_is look h ask now founded e)
          (looked_plain look (name_for look) l next (not_nested hashes l w) (is_readable bytes m one passes hashes l w) ∙ (subject_at hashes l w).passes next);
      fits = fits_checked bytes bytes m (heading_of (Some m)) None ask echo outer_echo s None None found passes made job;
      asks = refl;
      echoes = refl;
    }
