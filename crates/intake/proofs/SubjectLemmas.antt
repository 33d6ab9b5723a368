-- The check of a message that is about something.
use Rattle.std.proofs.Common.{◌≡◌, ℕ, Bool, true, false, List, [], Option, Some, None, is_some, refl, sym, ap, subst, ◌∙◌}
use Rattle.deal_changes.specs.declared.change.Who.{Who}
use Rattle.deal_changes.specs.declared.change.Who.TheVariants.{Cert}
use Rattle.deal_model.specs.declared.asking.Job.{Job}
use Rattle.deal_model.specs.declared.asking.Job.TheVariants.{Repeat, Enrol, Confirm, Poll, Withdraw}
use Rattle.deal_model.specs.declared.states.Owner.{Owner}
use Rattle.cmp_values.specs.declared.fail_info.FailInfo.TheVariants.{BadRequest}
use Rattle.deal_table.specs.declared.look.Look.{Look}
use Rattle.deal_table.specs.History.{Receipted}
use Rattle.deal_table.specs.Looked.{looked_about, looked_passed}
use Rattle.deal_table.specs.Message.{Body, Enrols, Confirms, Polls, Withdraws, Nests, OtherBody, Facts}
use Rattle.deal_table.specs.Table.{Decision, unless, bare, guarded, is_served, served_rows, trusted_by, repeated}
use Rattle.deal_table.proofs.Rows.{unless_passed}
use Rattle.intake.specs.Checking.{IsBack, IsTrusted, IsHashOf, IsLeft, IsTask, IsRefused, IsSent, IsSentFor, IsSubject, name_for}
use Rattle.intake.specs.Fit.{AreDigests, IsCompared, TellsNoMore, TellsNobody}
use Rattle.intake.specs.declared.sender.Sender.{Sender}
use Rattle.intake.specs.declared.job.Task.{Task}
use Rattle.intake.specs.declared.subject.Subject.{Subject}
use Rattle.intake.specs.declared.unfit.Unfit.{Unfit}
use Rattle.intake.specs.declared.unfit.Unfit.TheVariants.{Refused, NoMemory}
use Rattle.intake.proofs.WholeLemmas.{back_same}

pub none_of : {A : Type 0} (o : Option A) → is_some o ≡ false → o ≡ None
none_of None e = refl
none_of (Some x) e = absurd (let h : true ≡ false = e in cc)

-- nothing is told
pub none_told : (body : Body) → IsHashOf body None
none_told (Enrols e) = tt
none_told (Confirms f) = tt
none_told (Polls p) = tt
none_told (Withdraws w) = tt
none_told (Nests n) = tt
none_told OtherBody = tt

-- a message that stands in the history
pub repeats : (look : Look) (hashes : Receipted → List ℕ) (f : Facts) (s : Subject) (place : ℕ) → look.repeat ≡ Some place → s ≡ record { who = Cert 0; key = []; task = record { job = Repeat; proven = false; minus_one = false; hash_ok = None } }
    → IsSubject look hashes f s
repeats look hashes f s place e is = rw is (record {
  passes = λ next. rw e refl;
  told = λ digests. none_told f.body;
  compared = tt;
  sent = (place, e);
  no_more = (refl, refl, refl);
  nobody = (refl, refl);
})

sent_by : (look : Look) (hashes : Receipted → List ℕ) (f : Facts) (s : Subject) (j : Job) → IsLeft j → IsSent look hashes f s → IsSentFor look hashes f s j
sent_by look hashes f s Repeat left sent = absurd left
sent_by look hashes f s (Enrol body wish) left sent = sent
sent_by look hashes f s (Confirm id_ok hash hash_alg_ok count status) left sent = sent
sent_by look hashes f s (Poll ids_ok) left sent = sent
sent_by look hashes f s (Withdraw serial reason) left sent = sent

-- of what is left a sender is told
left_nobody : (j : Job) (who : Who) (key : List ℕ) → IsLeft j → TellsNobody j who key
left_nobody Repeat who key left = absurd left
left_nobody (Enrol body wish) who key left = tt
left_nobody (Confirm id_ok hash hash_alg_ok count status) who key left = tt
left_nobody (Poll ids_ok) who key left = tt
left_nobody (Withdraw serial reason) who key left = tt

module _ (look : Look) (f : Facts) (none : look.repeat ≡ None) where
  -- what is about nothing
  pub back_served : is_served f.body ≡ false → IsBack Decision (looked_passed look (name_for look) f) (Refused BadRequest false false)
  back_served e = (bare false, record { outer = refl; guard = refl }, λ next. rw (none, e) refl)

  module _ (served : is_served f.body ≡ true) where
    in_front : (next : Decision) → looked_passed look (name_for look) f next ≡ trusted_by look.cred look.settings.skew look.time false f (λ o. looked_about look (name_for look) (guarded false f o) o f.body next)
    in_front next =
        let rest : Decision = trusted_by look.cred look.settings.skew look.time false f (λ o. looked_about look (name_for look) (guarded false f o) o f.body next) in
        ap (λ (r : Option ℕ). repeated r (unless (bare false) (served_rows f) rest)) none ∙ unless_passed (bare false) (served_rows f) rest (rw served refl)

    -- the sender
    pub back_sender : (u : Unfit) → IsBack (Owner → Decision) (trusted_by look.cred look.settings.skew look.time false f) u → IsBack Decision (looked_passed look (name_for look) f) u
    back_sender u back = back_same Decision (Owner → Decision) (looked_passed look (name_for look) f) (trusted_by look.cred look.settings.skew look.time false f)
        (λ next o. looked_about look (name_for look) (guarded false f o) o f.body next) u in_front back

    module _ (s : Sender) (t : IsTrusted look.cred look.settings.skew look.time false f s) (body : Body) (is : f.body ≡ body) where
      behind : (next : Decision) → looked_passed look (name_for look) f next ≡ looked_about look (name_for look) (guarded false f s.owner) s.owner body next
      behind next = in_front next ∙ t.passes (λ o. looked_about look (name_for look) (guarded false f o) o f.body next) ∙ ap (λ (b : Body). looked_about look (name_for look) (guarded false f s.owner) s.owner b next) is

      -- what it is about
      pub back_task : (u : Unfit) → IsRefused look (name_for look) s.guarded s.owner body u → IsBack Decision (looked_passed look (name_for look) f) u
      back_task NoMemory refused = tt
      back_task (Refused fail sure outer) refused =
          (guarded false f s.owner, record { outer = sym refused.1; guard = t.guard ∙ sym refused.0 }, λ next. behind next ∙ refused.2 (guarded false f s.owner) next)

      pub is_subject : (hashes : Receipted → List ℕ) (k : Task) → IsTask look (name_for look) s.owner hashes body k → IsSubject look hashes f (record { who = s.owner.who; key = s.owner.key; task = k })
      is_subject hashes k task = record {
        passes = λ next. behind next ∙ task.passes (guarded false f s.owner) next ∙ ap (λ (r : Option ℕ). repeated r next) (sym none);
        told = λ digests. subst (λ (b : Body). IsHashOf b k.hash_ok) (sym is) (task.told digests);
        compared = subst (λ (b : Body). IsCompared hashes b k.job k.hash_ok) (sym is) task.compared;
        no_more = subst (λ (b : Body). TellsNoMore b k.job k.proven k.minus_one k.hash_ok) (sym is) task.no_more;
        nobody = left_nobody k.job s.owner.who s.owner.key task.left;
        sent = sent_by look hashes f (record { who = s.owner.who; key = s.owner.key; task = k }) k.job task.left (record {
          owner = s.owner;
          good = t.good;
          protected = t.protected;
          verified = t.verified;
          key = refl;
          sender = refl;
          job = λ c proven minus. rw is (task.job c proven minus);
        });
      }
