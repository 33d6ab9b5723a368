-- No refusal by the table says that the service itself failed (systemFailure).
use Rattle.std.proofs.Common.{◌≡◌, ℕ, Bool, true, false, not, cond, ◌&&◌, List, [], ◌∷◌, ◌++◌, Option, Some, None, refl, ap, subst}
use Rattle.std.specs.Prelude.{◌≢◌, unwrap_or, nat_lt, ◌==◌}
use Rattle.cmp_values.specs.declared.fail_info.FailInfo.{FailInfo}
use Rattle.cmp_values.specs.declared.fail_info.FailInfo.TheVariants.{SystemFailure}
use Rattle.deal_changes.specs.declared.change.Change.{Change}
use Rattle.deal_changes.specs.declared.change.Change.TheVariants.{Settled, Revoke}
use Rattle.deal_model.specs.declared.asking.Ask.{Ask}
use Rattle.deal_model.specs.declared.asking.Checked.{Checked}
use Rattle.deal_model.specs.declared.asking.Echo.{Echo}
use Rattle.deal_model.specs.declared.states.DealState.{DealState}
use Rattle.deal_model.specs.declared.states.Owner.{Owner}
use Rattle.deal_model.specs.declared.states.Standing.{Standing}
use Rattle.deal_model.specs.declared.states.Standing.TheVariants.{Unknown, OtherKind, Barred, Good}
use Rattle.deal_model.specs.Views.{History, is_told}
use Rattle.deal_table.specs.History.{Receipted, Deal, IsFounded, name_of, skew_of, place_of_digest, event_time, grant_receipt, look_of}
use Rattle.deal_table.specs.Message.{Confirmation, Body, Enrols, Confirms, Polls, Withdraws, Nests, OtherBody, is_nested, Facts, Letter}
use Rattle.deal_table.specs.Table.{Row, To, Decision, Makes, Repeats, Refuses, Asks, Event, Sent, unless, bare, guarded, known, protection_rows, check_rows, time_rows, standing_now, trusted_by, trusted, old_rows, new_rows, party_rows, confirm_rows, poll_rows, entry_rows, reason_rows, revoke_rows, wish_rows, key_rows, proof_rows, is_possessed, enrolled, polled, poll_made, deal_certificate, state_now, deal_now, tid_of, status_rows, compared, compared_with, settles, stamp_by, room_rows, made, about, repeated, passed, served_rows, form_rows, header_rows, wrap_rows, read, opened, decision}
use Rattle.deal_table.specs.declared.look.Look.{Look}
use Rattle.desk.specs.declared.verdict.Verdict.{Verdict}
use Rattle.desk.specs.declared.verdict.Verdict.TheVariants as verdict
use Rattle.desk.specs.Verdicts.{Decides}
use Rattle.intake.specs.Fit.{IsUnfit}
use Rattle.intake.specs.Intake.{IsStopped}
use Rattle.intake.specs.declared.unfit.Unfit.{Unfit}
use Rattle.intake.specs.declared.unfit.Unfit.TheVariants as unfit
use Rattle.reply_maker.specs.Replies.{Replier, certificate_hash}
use Rattle.front.specs.Answers.{ForLetter}
use Rattle.front.specs.Courses.{HasReason, IsReasoned}
use Rattle.front.proofs.Letters.{some_letter, no_hash}

abbrev is_failure : FailInfo → Bool
is_failure SystemFailure = true
is_failure _ = false

-- none of the rows has this reason
abbrev are_reasons : List Row → Bool
are_reasons [] = true
are_reasons (row ∷ rows) = not (is_failure row.fail) && are_reasons rows

-- nor has a refusal
abbrev IsMeant : Decision → Type 0
IsMeant (Makes c) = Unit {0}
IsMeant (Repeats place) = Unit {0}
IsMeant (Refuses fail to) = is_failure fail ≡ false
IsMeant (Asks place) = Unit {0}

first_reason : (b more : Bool) → (not b && more) ≡ true → b ≡ false
first_reason true more e = let d : false ≡ true = e in cc
first_reason false more e = refl

more_reasons : (b more : Bool) → (not b && more) ≡ true → more ≡ true
more_reasons true more e = absurd (let d : false ≡ true = e in cc)
more_reasons false more e = e

unless_meant : (to : To) (rows : List Row) (next : Decision) → are_reasons rows ≡ true → IsMeant next → IsMeant (unless to rows next)
unless_meant to [] next all g = g
unless_meant to (row ∷ rows) next all g = elim row.applies as (λ v. IsMeant (cond v (Refuses row.fail to) (unless to rows next))) [
  | true ↦ first_reason (is_failure row.fail) (are_reasons rows) all
  | false ↦ unless_meant to rows next (more_reasons (is_failure row.fail) (are_reasons rows) all) g
]

made_meant : (v : Event) (s : Sent) (c : Change) → IsMeant (made v s c)
made_meant v s c = unless_meant s.to (room_rows v.history c) (Makes c) refl tt

known_meant : (to : To) (s : Standing) (next : Owner → Decision) → ((o : Owner) → IsMeant (next o)) → IsMeant (known to s next)
known_meant to Unknown next g = refl
known_meant to OtherKind next g = refl
known_meant to Barred next g = refl
known_meant to (Good who key rights) next g = g (record { who = who; key = key; rights = rights })

trusted_meant : (h : History) (t : ℕ) (outer : Bool) (m : Facts) (next : Owner → Decision) → ((o : Owner) → IsMeant (next o)) → IsMeant (trusted h t outer m next)
trusted_meant h t outer m next g = unless_meant (bare outer) (protection_rows m) _ refl (known_meant (bare outer) (standing_now h t m) _
    (λ o. unless_meant (bare outer) (check_rows m o) _ refl (unless_meant (guarded outer m o) (time_rows m (skew_of h) t) _ refl (g o))))

compared_meant : (to : To) (place : ℕ) (told : Option Bool) (next : Decision) → IsMeant next → IsMeant (compared to place told next)
compared_meant to place (Some true) next g = g
compared_meant to place (Some false) next g = refl
compared_meant to place None next g = tt

compared_with_meant : (to : To) (matches : Receipted → Option Bool) (found : Option Receipted) (next : Decision) → IsMeant next → IsMeant (compared_with to matches found next)
compared_with_meant to matches (Some r) next g = compared_meant to r.place (matches r) next g
compared_with_meant to matches None next g = refl

settles_meant : (v : Event) (s : Sent) (f : Confirmation) → IsMeant (settles v s f)
settles_meant v s f = elim (f.count == 0) as (λ b. IsMeant (cond b (made v s (Settled (stamp_by v s) false)) (unless s.to (status_rows (deal_now v s) f) (compared_with s.to f.matches (grant_receipt v.history (tid_of s.header)) (made v s (Settled (stamp_by v s) (nat_lt f.status 2))))))) [
  | true ↦ made_meant v s (Settled (stamp_by v s) false)
  | false ↦ unless_meant s.to (status_rows (deal_now v s) f) _ refl (compared_with_meant s.to f.matches (grant_receipt v.history (tid_of s.header)) _ (made_meant v s (Settled (stamp_by v s) (nat_lt f.status 2))))
]

poll_meant : (v : Event) (s : Sent) (state : DealState) (d : Option Deal) → IsMeant (poll_made v s state d)
poll_meant v s state (Some d) = made_meant v s (polled v s state d)
poll_meant v s state None = refl

about_meant : (v : Event) (s : Sent) (body : Body) → IsMeant (about v s body)
about_meant v s (Enrols e) = unless_meant s.to (new_rows (state_now v s) ++ wish_rows (name_of v.history) s.owner e ++ key_rows v.history e ++ proof_rows (is_possessed s.owner e)) _ refl (made_meant v s (enrolled v s e))
about_meant v s (Confirms f) = unless_meant s.to (old_rows (state_now v s) ++ party_rows v.history s.header s.owner.who ++ confirm_rows (deal_certificate v.history (tid_of s.header)) v.time) _ refl (settles_meant v s f)
about_meant v s (Polls p) = unless_meant s.to (old_rows (state_now v s) ++ party_rows v.history s.header s.owner.who ++ poll_rows (state_now v s) (is_told v.history (tid_of s.header)) ++ entry_rows (deal_now v s) p) _ refl (poll_meant v s (state_now v s) (deal_now v s))
about_meant v s (Withdraws w) = unless_meant s.to (new_rows (state_now v s) ++ reason_rows (name_of v.history) w ++ revoke_rows v.history s.owner (unwrap_or w.certificate.serial 0)) _ refl (made_meant v s (Revoke (stamp_by v s) (unwrap_or w.certificate.serial 0) (unwrap_or w.reason 0)))
about_meant v s (Nests count) = refl
about_meant v s OtherBody = refl

repeated_meant : (found : Option ℕ) (next : Decision) → IsMeant next → IsMeant (repeated found next)
repeated_meant (Some place) next g = tt
repeated_meant None next g = g

passed_meant : (v : Event) (m : Facts) → IsMeant (passed v m)
passed_meant v m = repeated_meant (place_of_digest v.history m.digest) _ (unless_meant (bare false) (served_rows m) _ refl (trusted_meant v.history v.time false m _
    (λ o. about_meant v (record { to = guarded false m o; digest = m.digest; header = m.header; owner = o }) m.body)))

read_meant : (unreadable to : To) (m : Facts) (next : Decision) → IsMeant next → IsMeant (read unreadable to m next)
read_meant unreadable to m next g = unless_meant unreadable (form_rows m) _ refl (unless_meant to (header_rows m.header) _ refl g)

opened_meant : (v : Event) (l : Letter) → IsMeant (opened v l)
opened_meant v l = elim (is_nested l.message.body) as (λ b. IsMeant (cond b (trusted v.history v.time true l.message inside) (passed v l.message))) [
  | true ↦ trusted_meant v.history v.time true l.message inside (λ o. unless_meant (guarded true l.message o) (wrap_rows l.message o) _ refl
      (read_meant (guarded true l.message o) (bare false) l.inner _ (passed_meant v l.inner)))
  | false ↦ passed_meant v l.message
]
  where
    inside : Owner → Decision
    inside o = unless (guarded true l.message o) (wrap_rows l.message o) (read (guarded true l.message o) (bare false) l.inner (passed v l.inner))

meant : (h : History) (l : Letter) (now : ℕ) (w : List ℕ) → IsMeant (decision h l now w)
meant h l now w = read_meant (bare false) (bare (is_nested l.message.body)) l.message _ (opened_meant (record { history = h; time = event_time h now; words = w }) l)

is_other : (fail : FailInfo) → is_failure fail ≡ false → fail ≢ SystemFailure
is_other fail e same = let d : true ≡ false = subst (λ (x : FailInfo). is_failure x ≡ false) same e in cc

-- a message isn't refused because the service failed
pub refused_for_a_reason : (h : History) (l : Letter) (now : ℕ) (w : List ℕ) (fail : FailInfo) (to : To) → decision h l now w ≡ Refuses fail to → fail ≢ SystemFailure
refused_for_a_reason h l now w fail to e = is_other fail (subst IsMeant e (meant h l now w))

-- ---- whatever letter octets are

pub stop_reason : (b : List ℕ) (fail : FailInfo) (e : Echo) → IsStopped b fail e → fail ≢ SystemFailure
stop_reason b fail e stops = λ same. some_letter no_hash b (λ l letter. refused_for_a_reason [] l 0 [] fail _ (stops.refused no_hash l letter [] 0 []) same)

pub unfit_reason : (k : Replier) (b : List ℕ) (ask : Ask) (look : Look) (h : History) (now : ℕ) (u : Unfit) → IsFounded h → look ≡ look_of h ask now → IsUnfit b ask look u → HasReason u
unfit_reason k b ask look h now (unfit.Refused fail is_guarded to_outer) founded is_look is = λ same.
    some_letter (certificate_hash k) b (λ l letter. refused_for_a_reason h l now [] fail _ (is (certificate_hash k) l h now letter founded is_look []) same)
unfit_reason k b ask look h now unfit.NoMemory founded is_look is = tt

pub verdict_reason : (k : Replier) (b : List ℕ) (c : Checked) (old new : History) (now : ℕ) (w : List ℕ) (v : Verdict) → ForLetter k b (λ l. Decides l c old new now w v) → IsReasoned v
verdict_reason k b c old new now w (verdict.Refused fail place time is_guarded to_outer) decides = λ same.
    some_letter (certificate_hash k) b (λ l letter. refused_for_a_reason new l now w fail _ (decides l letter).0 same)
verdict_reason k b c old new now w (verdict.Done r) decides = tt
verdict_reason k b c old new now w (verdict.Again r place time) decides = tt
verdict_reason k b c old new now w (verdict.Stale place) decides = tt
verdict_reason k b c old new now w verdict.DiskFault decides = tt
verdict_reason k b c old new now w verdict.NoMemory decides = tt
