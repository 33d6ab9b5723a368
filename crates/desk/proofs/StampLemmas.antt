-- What the table makes has a stamp, and what it repeats has a receipt.
use Rattle.std.proofs.Common.{◌≡◌, ℕ, zero, suc, ◌+◌, ◌<◌, ◌≤◌, Bool, true, false, cond, List, [], ◌∷◌, ◌++◌, length, take, Option, Some, None, refl, sym, ap, subst, arith}
use Rattle.std.specs.Prelude.{is_some, unwrap_or, option_map, option_and_then, slice_get, nat_lt, ◌==◌}
use Rattle.std.specs.List.{position_from}
use Rattle.std.proofs.lemmas.Option.{none-some, same_Some, slice_get_within}
use Rattle.deal_changes.specs.declared.change.Stamp.{Stamp}
use Rattle.deal_changes.specs.declared.change.Change.{Change}
use Rattle.deal_changes.specs.declared.change.Change.TheVariants.{Hold, Settled, Revoke}
use Rattle.deal_changes.specs.Times.{stamp_of}
use Rattle.deal_model.specs.declared.states.DealState.{DealState}
use Rattle.deal_model.specs.declared.states.DealState.TheVariants.{Unused, Held, Released, Denied, Open, Closed, Other}
use Rattle.deal_model.specs.declared.states.Owner.{Owner}
use Rattle.deal_model.specs.declared.states.Standing.{Standing}
use Rattle.deal_model.specs.declared.states.Standing.TheVariants.{Unknown, OtherKind, Barred, Good}
use Rattle.deal_model.specs.Views.{History, has_digest, stamp_has, is_told}
use Rattle.deal_table.specs.History.{Receipted, Deal, name_of, skew_of, place_of_digest, event_time, receipt_of, receipt_in, receipt_at, grant_receipt}
use Rattle.deal_table.specs.Message.{Enrolment, Confirmation, Body, Enrols, Confirms, Polls, Withdraws, Nests, OtherBody, is_nested, Facts, Letter}
use Rattle.deal_table.specs.Table.{Row, To, Decision, Makes, Repeats, Refuses, Asks, Event, Sent, unless, bare, guarded, known, protection_rows, check_rows, time_rows, standing_now, trusted, form_rows, header_rows, served_rows, wrap_rows, room_rows, made, stamp_by, grant_by, is_on_hold, enrolled, enrols, new_rows, wish_rows, key_rows, is_possessed, proof_rows, old_rows, party_rows, confirm_rows, deal_certificate, poll_rows, entry_rows, reason_rows, revoke_rows, status_rows, deal_now, state_now, tid_of, compared, compared_with, settles, polled, poll_made, about, repeated, passed, read, opened, decision}

-- ---- a receipt for each place that a digest has

-- a place from so many on
abbrev IsPlace : (Change → Bool) → ℕ → History → ℕ → Type 0
IsPlace test n h place = (i : ℕ) × (place ≡ n + i) × ((c : Change) × (slice_get h i ≡ Some c) × (test c ≡ true))

found_at : (test : Change → Bool) (n : ℕ) (h : History) (place : ℕ) → position_from test n h ≡ Some place → IsPlace test n h place
found_at test n [] place e = absurd (none-some place e)
found_at test n (c ∷ h) place e = elim (test c) as (λ v. test c ≡ v → cond v (Some n) (position_from test (n + 1) h) ≡ Some place → IsPlace test n (c ∷ h) place) [
  | true ↦ λ t f. (0, omega (arith, same_Some n place f), (c, refl, t))
  | false ↦ λ t f. let rest = found_at test (n + 1) h place f in (suc rest.0, omega (arith, rest.1), rest.2)
] refl e

stamp_there : (test : Stamp → Bool) (o : Option Stamp) → stamp_has test o ≡ true → is_some o ≡ true
stamp_there test (Some s) e = refl
stamp_there test None e = absurd (cc e)

mapped : {A B : Type 0} (f : A → B) (o : Option A) → is_some o ≡ true → is_some (option_map f o) ≡ true
mapped f (Some x) e = refl
mapped f None e = absurd (cc e)

receipt_there : (h : History) (i : ℕ) (c : Change) → slice_get h i ≡ Some c → is_some (stamp_of c) ≡ true → is_some (receipt_at h (suc i)) ≡ true
unfolding receipt_at
receipt_there h i c e some = rw e (mapped (receipt_of (take (suc i) h) (suc i) c) (stamp_of c) some)

-- a receipt tells its place
receipt_from : (h : History) (i : ℕ) (found : Option Change) (r : Receipted) → option_and_then (receipt_in (take (suc i) h) (suc i)) found ≡ Some r → r.place ≡ suc i
receipt_from h i None r e = absurd (none-some r e)
receipt_from h i (Some c) r e = placed (stamp_of c) e
  where
    placed : (o : Option Stamp) → option_map (receipt_of (take (suc i) h) (suc i) c) o ≡ Some r → r.place ≡ suc i
    placed (Some s) f = ap (λ (x : Receipted). x.place) (sym (same_Some _ r f))
    placed None f = absurd (none-some r f)

pub receipt_place : (h : History) (place : ℕ) (r : Receipted) → receipt_at h place ≡ Some r → r.place ≡ place
unfolding receipt_at
receipt_place h zero r e = absurd (none-some r e)
receipt_place h (suc i) r e = receipt_from h i (slice_get h i) r e

-- the place is one of the history, and its change has a receipt
pub record HasReceipt (h : History) (place : ℕ) : Type 0 where
  pub low : 1 ≤ place
  pub high : place ≤ length h
  pub stands : is_some (receipt_at h place) ≡ true

digest_receipt : (h : History) (digest : List ℕ) (place : ℕ) → place_of_digest h digest ≡ Some place → HasReceipt h place
unfolding place_of_digest
digest_receipt h digest place e =
    let found = found_at (has_digest digest) 1 h place e in
    let i = found.0 in
    let next : suc i ≡ place = omega (arith, found.1) in
    let within : i < length h = slice_get_within h i found.2.0 found.2.1 in
    record {
      low = omega (arith, next);
      high = omega (arith, next, within);
      stands = subst (λ (n : ℕ). is_some (receipt_at h n) ≡ true) next (receipt_there h i found.2.0 found.2.1 (stamp_there _ (stamp_of found.2.0) found.2.2));
    }

-- ---- row by row

abbrev pub Stamped : History → Decision → Type 0
Stamped h (Makes c) = is_some (stamp_of c) ≡ true
Stamped h (Repeats place) = HasReceipt h place
Stamped h (Refuses fail to) = Unit {0}
Stamped h (Asks place) = Unit {0}

unless_stamped : (h : History) (to : To) (rows : List Row) (d : Decision) → Stamped h d → Stamped h (unless to rows d)
unless_stamped h to [] d s = s
unless_stamped h to (row ∷ rows) d s = elim row.applies as (λ v. Stamped h (cond v (Refuses row.fail to) (unless to rows d))) [ true ↦ tt | false ↦ unless_stamped h to rows d s ]

known_stamped : (h : History) (to : To) (s : Standing) (next : Owner → Decision) → ((o : Owner) → Stamped h (next o)) → Stamped h (known to s next)
known_stamped h to Unknown next each = tt
known_stamped h to OtherKind next each = tt
known_stamped h to Barred next each = tt
known_stamped h to (Good who key rights) next each = each (record { who = who; key = key; rights = rights })

trusted_stamped : (h : History) (t : ℕ) (outer : Bool) (m : Facts) (next : Owner → Decision) → ((o : Owner) → Stamped h (next o)) → Stamped h (trusted h t outer m next)
trusted_stamped h t outer m next each =
    unless_stamped h (bare outer) (protection_rows m) _ (known_stamped h (bare outer) (standing_now h t m) _
    (λ o. unless_stamped h (bare outer) (check_rows m o) _ (unless_stamped h (guarded outer m o) (time_rows m (skew_of h) t) _ (each o))))

made_stamped : (v : Event) (s : Sent) (c : Change) → is_some (stamp_of c) ≡ true → Stamped v.history (made v s c)
made_stamped v s c some = unless_stamped v.history s.to (room_rows v.history c) (Makes c) some

enrolled_some : (v : Event) (s : Sent) (e : Enrolment) → is_some (stamp_of (enrolled v s e)) ≡ true
enrolled_some v s e = elim (is_on_hold s.owner) as (λ b. is_some (stamp_of (cond b (Hold (stamp_by v s) e.body e.wish) (grant_by v s (record { who = s.owner.who; body = e.body; wish = e.wish })))) ≡ true) [ true ↦ refl | false ↦ refl ]

enrols_stamped : (v : Event) (s : Sent) (e : Enrolment) → Stamped v.history (enrols v s e)
enrols_stamped v s e = unless_stamped v.history s.to (new_rows (state_now v s) ++ wish_rows (name_of v.history) s.owner e ++ key_rows v.history e ++ proof_rows (is_possessed s.owner e)) (made v s (enrolled v s e)) (made_stamped v s (enrolled v s e) (enrolled_some v s e))

compared_stamped : (h : History) (to : To) (place : ℕ) (told : Option Bool) (next : Decision) → Stamped h next → Stamped h (compared to place told next)
compared_stamped h to place (Some true) next s = s
compared_stamped h to place (Some false) next s = tt
compared_stamped h to place None next s = tt

compared_with_stamped : (h : History) (to : To) (matches : Receipted → Option Bool) (found : Option Receipted) (next : Decision) → Stamped h next → Stamped h (compared_with to matches found next)
compared_with_stamped h to matches (Some r) next s = compared_stamped h to r.place (matches r) next s
compared_with_stamped h to matches None next s = tt

settles_stamped : (v : Event) (s : Sent) (f : Confirmation) → Stamped v.history (settles v s f)
settles_stamped v s f =
    let rejected = made v s (Settled (stamp_by v s) false) in
    let settled = made v s (Settled (stamp_by v s) (nat_lt f.status 2)) in
    elim (f.count == 0) as (λ b. Stamped v.history (cond b rejected (unless s.to (status_rows (deal_now v s) f) (compared_with s.to f.matches (grant_receipt v.history (tid_of s.header)) settled)))) [
      | true ↦ made_stamped v s (Settled (stamp_by v s) false) refl
      | false ↦ unless_stamped v.history s.to (status_rows (deal_now v s) f) _ (compared_with_stamped v.history s.to f.matches (grant_receipt v.history (tid_of s.header)) settled (made_stamped v s (Settled (stamp_by v s) (nat_lt f.status 2)) refl))
    ]

polled_some : (v : Event) (s : Sent) (state : DealState) (d : Deal) → is_some (stamp_of (polled v s state d)) ≡ true
polled_some v s Unused d = refl
polled_some v s Held d = refl
polled_some v s Released d = refl
polled_some v s Denied d = refl
polled_some v s (Open serial deadline) d = refl
polled_some v s Closed d = refl
polled_some v s Other d = refl

poll_stamped : (v : Event) (s : Sent) (state : DealState) (found : Option Deal) → Stamped v.history (poll_made v s state found)
poll_stamped v s state (Some d) = made_stamped v s (polled v s state d) (polled_some v s state d)
poll_stamped v s state None = tt

about_stamped : (v : Event) (s : Sent) (body : Body) → Stamped v.history (about v s body)
about_stamped v s (Enrols e) = enrols_stamped v s e
about_stamped v s (Confirms f) = unless_stamped v.history s.to (old_rows (state_now v s) ++ party_rows v.history s.header s.owner.who ++ confirm_rows (deal_certificate v.history (tid_of s.header)) v.time) (settles v s f) (settles_stamped v s f)
about_stamped v s (Polls p) = unless_stamped v.history s.to (old_rows (state_now v s) ++ party_rows v.history s.header s.owner.who ++ poll_rows (state_now v s) (is_told v.history (tid_of s.header)) ++ entry_rows (deal_now v s) p) (poll_made v s (state_now v s) (deal_now v s)) (poll_stamped v s (state_now v s) (deal_now v s))
about_stamped v s (Withdraws w) =
    let revoked = Revoke (stamp_by v s) (unwrap_or w.certificate.serial 0) (unwrap_or w.reason 0) in
    unless_stamped v.history s.to (new_rows (state_now v s) ++ reason_rows (name_of v.history) w ++ revoke_rows v.history s.owner (unwrap_or w.certificate.serial 0)) (made v s revoked) (made_stamped v s revoked refl)
about_stamped v s (Nests count) = tt
about_stamped v s OtherBody = tt

repeated_stamped : (h : History) (found : Option ℕ) (d : Decision) → ((place : ℕ) → found ≡ Some place → HasReceipt h place) → Stamped h d → Stamped h (repeated found d)
repeated_stamped h (Some place) d there s = there place refl
repeated_stamped h None d there s = s

passed_stamped : (v : Event) (m : Facts) → Stamped v.history (passed v m)
passed_stamped v m = repeated_stamped v.history (place_of_digest v.history m.digest) _ (digest_receipt v.history m.digest)
    (unless_stamped v.history (bare false) (served_rows m) _ (trusted_stamped v.history v.time false m _ (λ o. about_stamped v (record { to = guarded false m o; digest = m.digest; header = m.header; owner = o }) m.body)))

read_stamped : (h : History) (unreadable to : To) (m : Facts) (d : Decision) → Stamped h d → Stamped h (read unreadable to m d)
read_stamped h unreadable to m d s = unless_stamped h unreadable (form_rows m) _ (unless_stamped h to (header_rows m.header) d s)

opened_stamped : (v : Event) (l : Letter) → Stamped v.history (opened v l)
opened_stamped v l =
    let inside : Owner → Decision = λ o. unless (guarded true l.message o) (wrap_rows l.message o) (read (guarded true l.message o) (bare false) l.inner (passed v l.inner)) in
    elim (is_nested l.message.body) as (λ b. Stamped v.history (cond b (trusted v.history v.time true l.message inside) (passed v l.message))) [
      | true ↦ trusted_stamped v.history v.time true l.message inside (λ o. unless_stamped v.history (guarded true l.message o) (wrap_rows l.message o) _ (read_stamped v.history (guarded true l.message o) (bare false) l.inner _ (passed_stamped v l.inner)))
      | false ↦ passed_stamped v l.message
    ]

pub decision_stamped : (h : History) (l : Letter) (now : ℕ) (w : List ℕ) → Stamped h (decision h l now w)
decision_stamped h l now w = read_stamped h (bare false) (bare (is_nested l.message.body)) l.message _ (opened_stamped (record { history = h; time = event_time h now; words = w }) l)
