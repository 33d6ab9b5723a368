-- Where nobody has compared certHash, a message is decided as where somebody has, or is asked.
use Rattle.std.proofs.Common.{◌≡◌, ℕ, Bool, true, false, cond, List, [], ◌∷◌, ◌++◌, Option, Some, None, refl, inl, inr, ◌⊎◌}
use Rattle.std.specs.Prelude.{nat_lt, ◌==◌}
use Rattle.deal_changes.specs.declared.change.Change.TheVariants.{Settled}
use Rattle.deal_model.specs.declared.states.Owner.{Owner}
use Rattle.deal_model.specs.declared.states.Standing.{Standing}
use Rattle.deal_model.specs.declared.states.Standing.TheVariants.{Unknown, OtherKind, Barred, Good}
use Rattle.deal_model.specs.Views.{History}
use Rattle.deal_table.specs.History.{Receipted, skew_of, place_of_digest, event_time, grant_receipt}
use Rattle.deal_table.specs.Message.{Confirmation, Body, Enrols, Confirms, Polls, Withdraws, Nests, OtherBody, Facts, Letter, blind_body, blind}
use Rattle.deal_table.specs.Table.{Row, To, Decision, Refuses, Asks, Event, Sent, unless, bare, guarded, known, protection_rows, check_rows, time_rows, standing_now, trusted, old_rows, party_rows, confirm_rows, deal_certificate, state_now, deal_now, tid_of, status_rows, compared_with, settles, stamp_by, made, about, repeated, passed, form_rows, header_rows, wrap_rows, read, decision}

-- it is the other decision, or it asks
abbrev pub Refines : Decision → Decision → Type 0
Refines d e = (d ≡ e) ⊎ ((place : ℕ) × (d ≡ Asks place))

unless_refines : (to : To) (rows : List Row) (d e : Decision) → Refines d e → Refines (unless to rows d) (unless to rows e)
unless_refines to [] d e r = r
unless_refines to (row ∷ rows) d e r = elim row.applies as (λ v. Refines (cond v (Refuses row.fail to) (unless to rows d)) (cond v (Refuses row.fail to) (unless to rows e))) [ true ↦ inl refl | false ↦ unless_refines to rows d e r ]

known_refines : (to : To) (s : Standing) (next other : Owner → Decision) → ((o : Owner) → Refines (next o) (other o)) → Refines (known to s next) (known to s other)
known_refines to Unknown next other r = inl refl
known_refines to OtherKind next other r = inl refl
known_refines to Barred next other r = inl refl
known_refines to (Good who key rights) next other r = r (record { who = who; key = key; rights = rights })

trusted_refines : (h : History) (t : ℕ) (outer : Bool) (m : Facts) (next other : Owner → Decision) → ((o : Owner) → Refines (next o) (other o)) → Refines (trusted h t outer m next) (trusted h t outer m other)
trusted_refines h t outer m next other r =
    unless_refines (bare outer) (protection_rows m) _ _ (known_refines (bare outer) (standing_now h t m) _ _
    (λ o. unless_refines (bare outer) (check_rows m o) _ _ (unless_refines (guarded outer m o) (time_rows m (skew_of h) t) _ _ (r o))))

compared_refines : (to : To) (matches : Receipted → Option Bool) (found : Option Receipted) (next : Decision) → Refines (compared_with to (λ r. None) found next) (compared_with to matches found next)
compared_refines to matches (Some r) next = inr (r.place, refl)
compared_refines to matches None next = inl refl

settles_refines : (v : Event) (s : Sent) (f : Confirmation) → Refines (settles v s (record f { matches = λ r. None })) (settles v s f)
settles_refines v s f = elim (f.count == 0) as (λ b. Refines (cond b (made v s (Settled (stamp_by v s) false)) (unless s.to (status_rows (deal_now v s) f) (compared_with s.to (λ r. None) (grant_receipt v.history (tid_of s.header)) (made v s (Settled (stamp_by v s) (nat_lt f.status 2))))))
    (cond b (made v s (Settled (stamp_by v s) false)) (unless s.to (status_rows (deal_now v s) f) (compared_with s.to f.matches (grant_receipt v.history (tid_of s.header)) (made v s (Settled (stamp_by v s) (nat_lt f.status 2))))))) [
      | true ↦ inl refl
      | false ↦ unless_refines s.to (status_rows (deal_now v s) f) _ _ (compared_refines s.to f.matches (grant_receipt v.history (tid_of s.header)) (made v s (Settled (stamp_by v s) (nat_lt f.status 2))))
    ]

about_refines : (v : Event) (s : Sent) (f : Confirmation) → Refines (about v s (blind_body (Confirms f))) (about v s (Confirms f))
about_refines v s f = unless_refines s.to (old_rows (state_now v s) ++ party_rows v.history s.header s.owner.who ++ confirm_rows (deal_certificate v.history (tid_of s.header)) v.time) _ _ (settles_refines v s f)

repeated_refines : (found : Option ℕ) (d e : Decision) → Refines d e → Refines (repeated found d) (repeated found e)
repeated_refines (Some place) d e r = inl refl
repeated_refines None d e r = r

passed_refines : (v : Event) (m : Facts) (body : Body) → Refines (passed v (record m { body = blind_body body })) (passed v (record m { body = body }))
passed_refines v m (Enrols e) = inl refl
passed_refines v m (Confirms f) = repeated_refines (place_of_digest v.history m.digest) _ _ (unless_refines (bare false) [] _ _ (trusted_refines v.history v.time false m _ _ (λ o. about_refines v (record { to = guarded false m o; digest = m.digest; header = m.header; owner = o }) f)))
passed_refines v m (Polls p) = inl refl
passed_refines v m (Withdraws w) = inl refl
passed_refines v m (Nests count) = inl refl
passed_refines v m OtherBody = inl refl

read_refines : (unreadable to : To) (m : Facts) (d e : Decision) → Refines d e → Refines (read unreadable to m d) (read unreadable to m e)
read_refines unreadable to m d e r = unless_refines unreadable (form_rows m) _ _ (unless_refines to (header_rows m.header) _ _ r)

-- the message with another body
abbrev with_body : Letter → Body → Letter
with_body l body = record { message = record l.message { body = body }; inner = l.inner }

plain_refines : (v : Event) (l : Letter) (body : Body) (to : To) → Refines (read (bare false) to l.message (passed v (record l.message { body = blind_body body }))) (read (bare false) to l.message (passed v (record l.message { body = body })))
plain_refines v l body to = read_refines (bare false) to l.message _ _ (passed_refines v l.message body)

decision_refines : (h : History) (l : Letter) (body : Body) (now : ℕ) (w : List ℕ) → Refines (decision h (blind (with_body l body)) now w) (decision h (with_body l body) now w)
decision_refines h l (Enrols e) now w = plain_refines (record { history = h; time = event_time h now; words = w }) l (Enrols e) (bare false)
decision_refines h l (Confirms f) now w = plain_refines (record { history = h; time = event_time h now; words = w }) l (Confirms f) (bare false)
decision_refines h l (Polls p) now w = plain_refines (record { history = h; time = event_time h now; words = w }) l (Polls p) (bare false)
decision_refines h l (Withdraws d) now w = plain_refines (record { history = h; time = event_time h now; words = w }) l (Withdraws d) (bare false)
decision_refines h l (Nests count) now w =
    let v : Event = record { history = h; time = event_time h now; words = w } in
    let m : Facts = record l.message { body = Nests count } in
    read_refines (bare false) (bare true) m _ _ (trusted_refines h (event_time h now) true m _ _ (λ o. unless_refines (guarded true m o) (wrap_rows m o) _ _ (read_refines (guarded true m o) (bare false) l.inner _ _ (passed_refines v l.inner l.inner.body))))
decision_refines h l OtherBody now w = plain_refines (record { history = h; time = event_time h now; words = w }) l OtherBody (bare false)

pub blind_refines : (h : History) (l : Letter) (now : ℕ) (w : List ℕ) → Refines (decision h (blind l) now w) (decision h l now w)
blind_refines h l now w = decision_refines h l l.message.body now w
