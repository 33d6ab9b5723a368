-- What a message is about is decided as what is left of it.
use Rattle.std.proofs.Common.{◌≡◌, ℕ, Bool, true, false, not, ◌&&◌, ◌||◌, cond, List, ◌++◌, Option, Some, None, is_none, refl, sym, ap, ◌∙◌, inl, inr, ◌⊎◌}
use Rattle.std.specs.Prelude.{unwrap_or, nat_lt, ◌==◌}
use Rattle.deal_changes.specs.declared.change.Body4.{Body4}
use Rattle.deal_changes.specs.declared.change.Wish.{Wish}
use Rattle.deal_changes.specs.declared.change.Change.TheVariants.{Settled, Revoke}
use Rattle.deal_model.specs.declared.asking.Job.{Job}
use Rattle.deal_model.specs.declared.asking.Job.TheVariants.{Enrol, Confirm, Poll, Withdraw}
use Rattle.deal_model.specs.declared.asking.Checked.{Checked}
use Rattle.deal_model.specs.declared.states.Owner.{Owner}
use Rattle.deal_model.specs.Views.{History}
use Rattle.deal_model.proofs.Leaves.{same_refl}
use Rattle.deal_table.specs.History.{Receipted, Deal, name_of, grant_receipt}
use Rattle.deal_table.specs.Message.{RequestId, Zero, MinusOne, OtherId, Enrolment, Confirmation, Withdrawal, Body, Enrols, Confirms, Polls, Withdraws}
use Rattle.deal_table.specs.Table.{To, Decision, Event, Sent, unless, pass, is_served, may_enrol, is_kur, is_certificate, is_named, wish_rows, key_rows, is_possessed, proof_rows, enrolled, enrols, new_rows, state_now, deal_now, tid_of, stamp_by, made, status_rows, compared, compared_with, settles, is_bad_id, old_rows, party_rows, confirm_rows, deal_certificate, reason_rows, revoke_rows, withdraws, about}
use Rattle.deal_table.specs.Carry.{id_by, rest_enrolment, rest_withdrawal, rest_body, IsStatus, is_other, IsJob}
use Rattle.deal_table.proofs.Rows.{false_true, unless_of_three, unless_of_four, second_passes}

-- ---- requests

-- of what is left of a request the rows that were settled pass
rest_passes : (name : List ℕ) (o : Owner) (e : Enrolment) (proven : Bool) → pass (wish_rows name o e) ≡ true → pass (wish_rows name o (rest_enrolment e.body e.wish proven)) ≡ true
rest_passes name o e proven p =
    let may : (not (may_enrol o) || (is_kur e.body && not (is_certificate o.who))) ≡ false = second_passes (not e.is_one) _ _ p in
    rw may (elim (is_kur e.body) as (λ v. not ((v && false) || false) ≡ true) [ true ↦ refl | false ↦ refl ])

enrol_rest : (v : Event) (s : Sent) (e : Enrolment) → pass (wish_rows (name_of v.history) s.owner e) ≡ true → enrols v s e ≡ enrols v s (rest_enrolment e.body e.wish (is_possessed s.owner e))
enrol_rest v s e p =
    let left : Enrolment = rest_enrolment e.body e.wish (is_possessed s.owner e) in
    unless_of_four s.to (new_rows (state_now v s)) (wish_rows (name_of v.history) s.owner e) (key_rows v.history e) (proof_rows (is_possessed s.owner e)) (made v s (enrolled v s e)) p
    ∙ sym (unless_of_four s.to (new_rows (state_now v s)) (wish_rows (name_of v.history) s.owner left) (key_rows v.history e) (proof_rows (is_possessed s.owner e)) (made v s (enrolled v s e)) (rest_passes (name_of v.history) s.owner e (is_possessed s.owner e) p))

enrol_same : (v : Event) (s : Sent) (e : Enrolment) (body : Body4) (wish : Wish) (proven : Bool) → pass (wish_rows (name_of v.history) s.owner e) ≡ true → e.body ≡ body → e.wish ≡ wish → is_possessed s.owner e ≡ proven → enrols v s e ≡ enrols v s (rest_enrolment body wish proven)
enrol_same v s e body wish proven p b w q = rw (← b, ← w, ← q) (enrol_rest v s e p)

-- ---- certConf

compared_same : (to : To) (matches : Receipted → Option Bool) (told : Option Bool) (found : Option Receipted) (next : Decision) → ((r : Receipted) → found ≡ Some r → matches r ≡ told) → compared_with to matches found next ≡ compared_with to (λ r. told) found next
compared_same to matches told (Some r) next m = ap (λ b. compared to r.place b next) (m r refl)
compared_same to matches told None next m = refl

told_confirmation : Checked → Bool → Bool → ℕ → ℕ → Confirmation
told_confirmation c id_ok hash_alg_ok count status = record { count = count; id = id_by id_ok c.minus_one; status = status; has_known_hash = hash_alg_ok; matches = λ r. c.hash_ok }

settles_same : (v : Event) (s : Sent) (f : Confirmation) (c : Checked) (id_ok hash_alg_ok : Bool) (count status : ℕ) → f.count ≡ count → (count ≡ 0) ⊎ IsStatus f id_ok c.minus_one hash_alg_ok status
    → ((r : Receipted) → grant_receipt v.history (tid_of s.header) ≡ Some r → f.matches r ≡ c.hash_ok) → settles v s f ≡ settles v s (told_confirmation c id_ok hash_alg_ok count status)
unfolding told_confirmation
settles_same v s f c id_ok hash_alg_ok count status e (inl none) told = rw (e, none) refl
settles_same v s f c id_ok hash_alg_ok count status e (inr one) told =
    rw (e, one.id, one.algorithm, one.outcome)
    (ap (λ d. cond (count == 0) (made v s (Settled (stamp_by v s) false)) (unless s.to (status_rows (deal_now v s) (told_confirmation c id_ok hash_alg_ok count status)) d))
    (compared_same s.to f.matches c.hash_ok (grant_receipt v.history (tid_of s.header)) (made v s (Settled (stamp_by v s) (nat_lt status 2))) told))

-- ---- pollReq

entry_same : (d : Option Deal) (one : Bool) (id : RequestId) (ids_ok minus_one : Bool) → (one && not (is_other id)) ≡ ids_ok → (ids_ok ≡ true → id ≡ id_by true minus_one) → (not one || is_bad_id d id) ≡ (not ids_ok || is_bad_id d (id_by true minus_one))
entry_same d true id true minus_one e f = ap (is_bad_id d) (f refl)
entry_same (Some d) true OtherId false minus_one e f = refl
entry_same None true OtherId false minus_one e f = refl
entry_same d true Zero false minus_one e f = false_true _ (sym e)
entry_same d true MinusOne false minus_one e f = false_true _ (sym e)
entry_same d false id true minus_one e f = false_true _ e
entry_same d false id false minus_one e f = refl

-- ---- rr

or_none : {X : Type 0} (b : Bool) (o : Option X) → (b || is_none o) ≡ false → is_none o ≡ false
or_none true o e = false_true _ (sym e)
or_none false o e = e

rest_reason : (name : List ℕ) (w : Withdrawal) (reason : ℕ) → pass (reason_rows name w) ≡ true → pass (reason_rows name (rest_withdrawal name w.certificate.serial reason)) ≡ true
rest_reason name w reason p =
    let other : (not (is_named name w.certificate.issuer) || is_none w.certificate.serial) ≡ false = second_passes (not w.is_one || is_none w.reason) _ _ p in
    rw (same_refl name, or_none (not (is_named name w.certificate.issuer)) w.certificate.serial other) refl

withdraw_rest : (v : Event) (s : Sent) (w : Withdrawal) (reason : ℕ) → pass (reason_rows (name_of v.history) w) ≡ true → w.reason ≡ Some reason → withdraws v s w ≡ withdraws v s (rest_withdrawal (name_of v.history) w.certificate.serial reason)
withdraw_rest v s w reason p r =
    let name : List ℕ = name_of v.history in
    let serial : ℕ = unwrap_or w.certificate.serial 0 in
    let because : unwrap_or w.reason 0 ≡ reason = ap (λ (o : Option ℕ). unwrap_or o 0) r in
    unless_of_three s.to (new_rows (state_now v s)) (reason_rows name w) (revoke_rows v.history s.owner serial) (made v s (Revoke (stamp_by v s) serial (unwrap_or w.reason 0))) p
    ∙ ap (λ n. unless s.to (new_rows (state_now v s)) (unless s.to (revoke_rows v.history s.owner serial) (made v s (Revoke (stamp_by v s) serial n)))) because
    ∙ sym (unless_of_three s.to (new_rows (state_now v s)) (reason_rows name (rest_withdrawal name w.certificate.serial reason)) (revoke_rows v.history s.owner serial) (made v s (Revoke (stamp_by v s) serial reason)) (rest_reason name w reason p))

withdraw_same : (v : Event) (s : Sent) (w : Withdrawal) (serial : Option ℕ) (reason : ℕ) → pass (reason_rows (name_of v.history) w) ≡ true → w.certificate.serial ≡ serial → w.reason ≡ Some reason → withdraws v s w ≡ withdraws v s (rest_withdrawal (name_of v.history) serial reason)
withdraw_same v s w serial reason p n r = rw (← n) (withdraw_rest v s w reason p r)

-- ---- all

-- a job has a body that is served
pub job_served : (name : List ℕ) (o : Owner) (c : Checked) (body : Body) (job : Job) → IsJob name o c body job → (is_served body ≡ true) × (is_served (rest_body name c job) ≡ true)
job_served name o c (Enrols e) (Enrol body wish) k = (refl, refl)
job_served name o c (Confirms f) (Confirm id_ok hash hash_alg_ok count status) k = (refl, refl)
job_served name o c (Polls p) (Poll ids_ok) k = (refl, refl)
job_served name o c (Withdraws w) (Withdraw serial reason) k = (refl, refl)
job_served name o c _ _ k = elim k [ ]

-- certHash of the body is told as it is, where the history has the certificate
abbrev pub Tells : History → List ℕ → Option Bool → Body → Type 0
Tells h tid told (Confirms f) = (r : Receipted) → grant_receipt h tid ≡ Some r → f.matches r ≡ told
Tells h tid told _ = Unit {0}

pub about_same : (v : Event) (s : Sent) (c : Checked) (body : Body) (job : Job) → IsJob (name_of v.history) s.owner c body job → Tells v.history (tid_of s.header) c.hash_ok body → about v s body ≡ about v s (rest_body (name_of v.history) c job)
unfolding told_confirmation
about_same v s c (Enrols e) (Enrol body wish) k told = enrol_same v s e body wish c.proven k.0 k.1 k.2 k.3
about_same v s c (Confirms f) (Confirm id_ok hash hash_alg_ok count status) k told =
    ap (λ d. unless s.to (old_rows (state_now v s) ++ party_rows v.history s.header s.owner.who ++ confirm_rows (deal_certificate v.history (tid_of s.header)) v.time) d)
    (settles_same v s f c id_ok hash_alg_ok count status k.0 k.1 told)
about_same v s c (Polls p) (Poll ids_ok) k told = rw (entry_same (deal_now v s) p.is_one p.id ids_ok c.minus_one k.0 k.1) refl
about_same v s c (Withdraws w) (Withdraw serial reason) k told = withdraw_same v s w serial reason k.0 k.1 k.2
about_same v s c _ _ k told = elim k [ ]
