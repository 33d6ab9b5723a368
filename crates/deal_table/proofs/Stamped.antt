-- A change that the table makes has the stamp of a message.
use Rattle.std.proofs.Common.{◌≡◌, ℕ, Bool, true, false, cond, List, ◌++◌, Option, Some, None, is_some, refl, subst}
use Rattle.std.specs.Prelude.{unwrap_or}
use Rattle.deal_changes.specs.declared.change.Change.{Change}
use Rattle.deal_changes.specs.declared.change.Change.TheVariants.{Hold, Polled, Turned, Settled, Revoke}
use Rattle.deal_changes.specs.Times.{stamp_of}
use Rattle.deal_model.specs.declared.asking.Checked.{Checked}
use Rattle.deal_model.specs.declared.states.DealState.{DealState}
use Rattle.deal_model.specs.declared.states.DealState.TheVariants.{Unused, Held, Released, Denied, Open, Closed, Other}
use Rattle.deal_model.specs.Views.{History, is_told}
use Rattle.deal_table.specs.History.{Deal, name_of, event_time}
use Rattle.deal_table.specs.Message.{Enrolment, Confirmation, Polling, Withdrawal, Body, Enrols, Confirms, Polls, Withdraws, Nests, OtherBody, Letter, subject_of}
use Rattle.deal_table.specs.Table.{Event, Sent, Decision, Makes, Refuses, unless, guarded, is_on_hold, state_now, deal_now, new_rows, old_rows, party_rows, wish_rows, key_rows, proof_rows, is_possessed, confirm_rows, deal_certificate, poll_rows, entry_rows, reason_rows, revoke_rows, tid_of, stamp_by, grant_by, made, enrolled, settles, poll_made, polled, about, decision}
use Rattle.deal_table.specs.Carry.{rest, left}
use Rattle.deal_table.proofs.Made.{unless_makes, decision_makes}
use Rattle.deal_table.proofs.Allowed.{made_is, settles_makes, poll_makes}

abbrev IsStamped : Change → Type 0
IsStamped c = is_some (stamp_of c) ≡ true

made_stamped : (v : Event) (s : Sent) (d c : Change) → IsStamped d → made v s d ≡ Makes c → IsStamped c
made_stamped v s d c is e = subst IsStamped (made_is v s d c e).0 is

enrolled_stamped : (v : Event) (s : Sent) (e : Enrolment) → IsStamped (enrolled v s e)
enrolled_stamped v s e = elim (is_on_hold s.owner) as (λ b. IsStamped (cond b (Hold (stamp_by v s) e.body e.wish) (grant_by v s (record { who = s.owner.who; body = e.body; wish = e.wish })))) [ true ↦ refl | false ↦ refl ]

polled_stamped : (v : Event) (s : Sent) (state : DealState) (d : Deal) → IsStamped (polled v s state d)
polled_stamped v s Released d = refl
polled_stamped v s Denied d = refl
polled_stamped v s Held d = refl
polled_stamped v s Unused d = refl
polled_stamped v s (Open serial deadline) d = refl
polled_stamped v s Closed d = refl
polled_stamped v s Other d = refl

about_stamped : (v : Event) (s : Sent) (body : Body) (c : Change) → about v s body ≡ Makes c → IsStamped c
about_stamped v s (Enrols e) c q = made_stamped v s (enrolled v s e) c (enrolled_stamped v s e) (unless_makes s.to (new_rows (state_now v s) ++ wish_rows (name_of v.history) s.owner e ++ key_rows v.history e ++ proof_rows (is_possessed s.owner e)) (made v s (enrolled v s e)) c q).1
about_stamped v s (Confirms f) c q = let by = settles_makes v s f c (unless_makes s.to (old_rows (state_now v s) ++ party_rows v.history s.header s.owner.who ++ confirm_rows (deal_certificate v.history (tid_of s.header)) v.time) (settles v s f) c q).1 in made_stamped v s (Settled (stamp_by v s) by.0) c refl by.1
about_stamped v s (Polls p) c q = let by = poll_makes v s (state_now v s) (deal_now v s) c (unless_makes s.to (old_rows (state_now v s) ++ party_rows v.history s.header s.owner.who ++ poll_rows (state_now v s) (is_told v.history (tid_of s.header)) ++ entry_rows (deal_now v s) p) (poll_made v s (state_now v s) (deal_now v s)) c q).1 in made_stamped v s (polled v s (state_now v s) by.0) c (polled_stamped v s (state_now v s) by.0) by.2
about_stamped v s (Withdraws a) c q = let revoking : Change = Revoke (stamp_by v s) (unwrap_or a.certificate.serial 0) (unwrap_or a.reason 0) in
    made_stamped v s revoking c refl (unless_makes s.to (new_rows (state_now v s) ++ reason_rows (name_of v.history) a ++ revoke_rows v.history s.owner (unwrap_or a.certificate.serial 0)) (made v s revoking) c q).1
about_stamped v s (Nests count) c q = absurd (let f : Refuses _ s.to ≡ Makes c = q in cc)
about_stamped v s OtherBody c q = absurd (let f : Refuses _ s.to ≡ Makes c = q in cc)

pub decision_stamped : (h : History) (l : Letter) (now : ℕ) (w : List ℕ) (c : Change) → decision h l now w ≡ Makes c → IsStamped c
decision_stamped h l now w c e =
    let by = decision_makes h l now w c e in
    about_stamped (record { history = h; time = event_time h now; words = w }) (record { to = guarded false (subject_of l) by.owner; digest = (subject_of l).digest; header = (subject_of l).header; owner = by.owner }) (subject_of l).body c by.by

pub left_stamped : (h : History) (k : Checked) (now : ℕ) (w : List ℕ) (c : Change) → left h k now w ≡ Makes c → IsStamped c
left_stamped h k now w c e = decision_stamped h (rest (name_of h) k) now w c e
