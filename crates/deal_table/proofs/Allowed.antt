-- What the table makes over a legal history may come next.
use Rattle.std.proofs.Common.{◌≡◌, ℕ, ◌+◌, ◌^◌, ◌<◌, ◌≤◌, Bool, true, false, not, ◌||◌, cond, List, [], ◌∷◌, ◌++◌, length, Option, Some, None, is_none, refl, sym, ap, subst, ◌∙◌, arith}
use Rattle.std.specs.Prelude.{option_and_then, find, nat_le, nat_lt, ◌==◌, unwrap_or, IfSome}
use Rattle.std.specs.List.{list_any, position_from}
use Rattle.std.specs.Option.{option_or}
use Rattle.std.proofs.lemmas.Bool.{eqb-true, eq-eqb, leb-false, ltb-false, or_parts, not-true, not-false}
use Rattle.std.proofs.lemmas.Option.{none-some, same_Some}
use Rattle.deal_changes.specs.declared.change.Kind.{Kind}
use Rattle.deal_changes.specs.declared.change.Kind.TheVariants.{Mac, Lms}
use Rattle.deal_changes.specs.declared.change.Who.{Who}
use Rattle.deal_changes.specs.declared.change.Who.TheVariants.{Listed, Cert}
use Rattle.deal_changes.specs.declared.change.Body4.{Body4}
use Rattle.deal_changes.specs.declared.change.Body4.TheVariants.{Ir, Cr, P10cr, Kur}
use Rattle.deal_changes.specs.declared.change.Stamp.{Stamp}
use Rattle.deal_changes.specs.declared.change.Wish.{Wish}
use Rattle.deal_changes.specs.declared.change.Change.{Change}
use Rattle.deal_changes.specs.declared.change.Change.TheVariants.{Found, Enlist, Dismiss, Grant, Hold, Release, Deny, Turned, Polled, Settled, Revoke, Lapse}
use Rattle.deal_changes.specs.Spelling.{IsShort, IsTid, IsStamp, IsWish, IsChange}
use Rattle.deal_changes.specs.Times.{time_of_change}
use Rattle.deal_model.specs.declared.states.Key.TheVariants.{Issue}
use Rattle.deal_model.specs.declared.states.CertificateState.{CertificateState}
use Rattle.deal_model.specs.declared.states.CertificateState.TheVariants as certificates
use Rattle.deal_model.specs.declared.states.DealState.{DealState}
use Rattle.deal_model.specs.declared.states.DealState.TheVariants as deals
use Rattle.deal_model.specs.declared.states.DealState.TheVariants.{Unused, Held, Released, Denied, Closed, Other}
use Rattle.deal_model.specs.declared.asking.Job.{Job}
use Rattle.deal_model.specs.declared.asking.Job.TheVariants.{Repeat, Enrol, Confirm, Poll, Withdraw}
use Rattle.deal_model.specs.declared.asking.Checked.{Checked}
use Rattle.deal_model.specs.declared.states.Owner.{Owner}
use Rattle.deal_model.specs.declared.states.Standing.TheVariants.{Good}
use Rattle.deal_model.specs.Keys.{key_id, key_of, leaves_of}
use Rattle.deal_model.specs.Views.{History, same_kind, time_of, settings_of, is_found, is_empty, is_grant_for, is_hold_for, is_grant_of, has_digest, is_confirmed, is_key_taken, certificate_state, open_or_closed, after_grant, transaction_state, is_told, leaves_used, reply_leaves, taken_leaves, standing_of_who}
use Rattle.deal_model.specs.Rules.{Legal, Allowed, AllowedFrom, Holds, same_who, same_body, same_bool, same_wish, rights_as, is_held_by, is_held_as, is_granted_to, reply_leaf, StampHolds, IsOpenPast, size_of, log_size}
use Rattle.deal_model.proofs.Histories.{allowed_at}
use Rattle.deal_model.proofs.Leaves.{same_refl, found_passes}
use Rattle.deal_table.specs.History.{Receipted, Deal, deal_in, deal_of, name_of, place_of_digest, event_time, is_full, grant_receipt}
use Rattle.deal_table.specs.Message.{Enrolment, Confirmation, Polling, Withdrawal, Body, Enrols, Confirms, Polls, Withdraws, Nests, OtherBody, Facts, FitsBody, FitsMessage, Letter, subject_of, is_version}
use Rattle.deal_table.specs.Table.{Row, To, Decision, Makes, Refuses, Asks, Event, Sent, unless, pass, guarded, standing_now, may_enrol, is_on_hold, tid_of, is_unused, header_rows, new_rows, old_rows, is_of, party_rows, state_now, deal_now, stamp_by, grant_by, is_past_key, room_rows, made, wish_rows, key_rows, is_possessed, proof_rows, enrolled, enrols, granted_serial, deal_certificate, is_lost, confirm_rows, status_rows, compared, compared_with, settles, confirms, can_poll, poll_rows, entry_rows, polled, poll_made, polls, reason_rows, is_open, is_revoked, may_withdraw, revoke_rows, withdraws, about, decision}
use Rattle.deal_table.specs.Carry.{rest_body, rest_facts, rest_message, rest, left, FitsJob, FitsChecked}
use Rattle.deal_table.proofs.Split.{rest_plain}
use Rattle.deal_table.proofs.Rows.{false_true, second_passes}
use Rattle.deal_table.proofs.Made.{unless_makes, decision_makes}
use Rattle.deal_table.proofs.Owners.{owner_good}
use Rattle.deal_table.proofs.Senders.{found_place, grant_is, view_found, sender_stands}
use Rattle.deal_table.proofs.Forms.{sender_form, few_leaves, leaf_form}

-- ---- rows that pass

pass_parts : (xs ys : List Row) → pass (xs ++ ys) ≡ true → (pass xs ≡ true) × (pass ys ≡ true)
pass_parts [] ys p = (refl, p)
pass_parts (row ∷ xs) ys p = elim row.applies as (λ v. not (v || list_any (λ r. r.applies) (xs ++ ys)) ≡ true → (not (v || list_any (λ r. r.applies) xs) ≡ true) × (pass ys ≡ true)) [
  | true ↦ λ q. false_true _ q
  | false ↦ λ q. pass_parts xs ys q
] p

-- the test of the only row fails
only : (b : Bool) → not (b || false) ≡ true → b ≡ false
only true p = false_true _ p
only false p = refl

only_not : (b : Bool) → not (not b || false) ≡ true → b ≡ true
only_not b p = not-false b (only (not b) p)

-- the first row's test fails, and the others pass
first : (b others : Bool) → not (b || others) ≡ true → (b ≡ false) × (not others ≡ true)
first true others p = false_true _ p
first false others p = (refl, p)

change_in : Decision → Option Change
change_in (Makes c) = Some c
change_in _ = None

same_change : (a b : Change) → Makes a ≡ Makes b → a ≡ b
unfolding change_in
same_change a b e = same_Some a b (ap change_in e)

-- ---- whoever sent

same_kind_refl : (k : Kind) → same_kind k k ≡ true
same_kind_refl Mac = refl
same_kind_refl Lms = refl

same_who_refl : (w : Who) → same_who w w ≡ true
same_who_refl (Listed k id) = rw (same_kind_refl k, same_refl id) refl
same_who_refl (Cert serial) = eq-eqb serial serial refl

-- the sender's rights are the owner's
rights_are : (h : History) (t : ℕ) (m : Facts) (u : Owner) → Legal h → standing_now h t m ≡ Good u.who u.key u.rights → rights_as u.who (standing_of_who h u.who t) ≡ Some u.rights
rights_are h t m u legal g =
    let good = owner_good h t m.header.kind m.header.kid u g in
    rw (sender_stands h t m.header.kind m.header.kid u legal good.0 good.1, same_who_refl u.who) refl

-- ---- what is found

none_any : (test : Change → Bool) (n : ℕ) (h : History) → position_from test n h ≡ None → list_any test h ≡ false
none_any test n [] e = refl
none_any test n (c ∷ h) e = elim (test c) as (λ v. cond v (Some n) (position_from test (n + 1) h) ≡ None → (v || list_any test h) ≡ false) [
  | true ↦ λ f. absurd (none-some n (sym f))
  | false ↦ λ f. none_any test (n + 1) h f
] e

fresh : (h : History) (digest : List ℕ) → place_of_digest h digest ≡ None → list_any (has_digest digest) h ≡ false
unfolding place_of_digest
fresh h digest e = none_any (has_digest digest) 1 h e

abbrev pub IsAnyGrant : Change → Type 0
IsAnyGrant c = (s : Stamp) × (b : Body4) × (w : Wish) × (serial : ℕ) × (leaf : ℕ) × (c ≡ Grant s b w serial leaf)

pub grant_for_is : (tid : List ℕ) (c : Change) → is_grant_for tid c ≡ true → IsAnyGrant c
grant_for_is tid (Grant s b w serial leaf) e = (s, b, w, serial, leaf, refl)
grant_for_is tid (Found s) e = false_true _ e
grant_for_is tid (Enlist time list) e = false_true _ e
grant_for_is tid (Dismiss time w) e = false_true _ e
grant_for_is tid (Hold s b w) e = false_true _ e
grant_for_is tid (Release time id) e = false_true _ e
grant_for_is tid (Deny time id) e = false_true _ e
grant_for_is tid (Turned s) e = false_true _ e
grant_for_is tid (Polled s) e = false_true _ e
grant_for_is tid (Settled s accepted) e = false_true _ e
grant_for_is tid (Revoke s n reason) e = false_true _ e
grant_for_is tid (Lapse time id) e = false_true _ e

abbrev pub IsAnyHold : Change → Type 0
IsAnyHold c = (s : Stamp) × (b : Body4) × (w : Wish) × (c ≡ Hold s b w)

pub hold_for_is : (tid : List ℕ) (c : Change) → is_hold_for tid c ≡ true → IsAnyHold c
hold_for_is tid (Hold s b w) e = (s, b, w, refl)
hold_for_is tid (Found s) e = false_true _ e
hold_for_is tid (Enlist time list) e = false_true _ e
hold_for_is tid (Dismiss time w) e = false_true _ e
hold_for_is tid (Grant s b w serial leaf) e = false_true _ e
hold_for_is tid (Release time id) e = false_true _ e
hold_for_is tid (Deny time id) e = false_true _ e
hold_for_is tid (Turned s) e = false_true _ e
hold_for_is tid (Polled s) e = false_true _ e
hold_for_is tid (Settled s accepted) e = false_true _ e
hold_for_is tid (Revoke s n reason) e = false_true _ e
hold_for_is tid (Lapse time id) e = false_true _ e

-- ---- room

-- a leaf that its key has
has_room : (h : History) (c : Change) → pass (room_rows h c) ≡ true → (list_any (is_past_key h) (taken_leaves c) ≡ false) × (length h < 262144) × (log_size h + size_of c ≤ 2 ^ 30)
has_room h c p =
    let parts = or_parts (list_any (is_past_key h) (taken_leaves c)) (is_full h c) (only _ p) in
    let full = or_parts (nat_le 262144 (length h)) (nat_lt (2 ^ 30) (log_size h + size_of c)) parts.1 in
    (parts.0, leb-false 262144 (length h) full.0, ltb-false (2 ^ 30) (log_size h + size_of c) full.1)

reply_fits : (h : History) (leaf : Option ℕ) → list_any (is_past_key h) (reply_leaves leaf) ≡ false → IfSome leaf (λ l. l < leaves_of (settings_of h).reply_key)
reply_fits h (Some l) e = leb-false (leaves_of (settings_of h).reply_key) l (or_parts (nat_le (leaves_of (settings_of h).reply_key) l) false e).0
reply_fits h None e = tt

-- the last change of a legal history is in time
timely : (before cs : History) → AllowedFrom before cs → time_of cs ≤ 250000000000
timely before [] a = omega arith
timely before (c ∷ []) a = a.0.bounded
timely before (c ∷ d ∷ cs) a = timely (before ++ c ∷ []) (d ∷ cs) a.1

pub event_timely : (h : History) (now : ℕ) → Legal h → now ≤ 250000000000 → event_time h now ≤ 250000000000
event_timely h now legal n = let last : time_of h ≤ 250000000000 = timely [] h legal.1 in omega arith

not_empty : (h : History) → Legal h → false ≡ is_empty h
not_empty [] legal = absurd (legal.0 refl)
not_empty (c ∷ h) legal = refl

-- ---- a message's stamp

abbrev event : History → ℕ → List ℕ → Event
event h t w = record { history = h; time = t; words = w }

abbrev sent : Facts → Owner → Sent
sent m u = record { to = guarded false m u; digest = m.digest; header = m.header; owner = u }

-- what is known of a message that makes a change: it is new, its sender is good, and its parts and the words have their lengths
record Given (h : History) (t : ℕ) (w : List ℕ) (m : Facts) (u : Owner) : Type 0 where
  legal : Legal h
  new : place_of_digest h m.digest ≡ None
  good : standing_now h t m ≡ Good u.who u.key u.rights
  header : pass (header_rows m.header) ≡ true
  fits : FitsMessage m
  words : length w ≡ 32
  time : t ≤ 250000000000

stamp_holds : (h : History) (t : ℕ) (w : List ℕ) (m : Facts) (u : Owner) → Given h t w m u → list_any (is_past_key h) (reply_leaves (reply_leaf h u.who)) ≡ false → StampHolds h (stamp_by (event h t w) (sent m u))
stamp_holds h t w m u g room = record { fresh = fresh h m.digest g.new; good = rw (rights_are h t m u g.legal g.good) refl; leaf = refl; left = reply_fits h (reply_leaf h u.who) room }

some_of : {X : Type 0} (o : Option X) (P : X → Type 0) (other : X) → is_none o ≡ false → IfSome o P → P (unwrap_or o other)
some_of (Some x) P other some fits = fits
some_of None P other some fits = false_true _ (sym some)

version_fits : (n : ℕ) → is_version n ≡ true → n < 2 ^ 8
version_fits n e = elim (n == 2) as (λ b. (n == 2) ≡ b → (b || (n == 3)) ≡ true → n < 2 ^ 8) [
  | true ↦ λ two f. let is : n ≡ 2 = eqb-true n 2 two in omega arith
  | false ↦ λ other three. let is : n ≡ 3 = eqb-true n 3 three in omega arith
] refl e

stamp_form : (h : History) (t : ℕ) (w : List ℕ) (m : Facts) (u : Owner) → Given h t w m u → list_any (is_past_key h) (reply_leaves (reply_leaf h u.who)) ≡ false → IsStamp (stamp_by (event h t w) (sent m u))
stamp_form h t w m u g room =
    let version = first (not (is_version m.header.pvno)) _ g.header in
    let tid = first (is_none m.header.tid) _ version.1 in
    let nonce : is_none m.header.sender_nonce ≡ false = only _ tid.1 in
    let early : t ≤ 250000000000 = g.time in
    record {
      tid = some_of m.header.tid IsTid [] tid.0 g.fits.tid;
      digest = g.fits.digest;
      who = sender_form h m.header.kind m.header.kid u g.legal (owner_good h t m.header.kind m.header.kid u g.good).0;
      sender = g.fits.sender;
      pvno = version_fits m.header.pvno (not-false _ version.0);
      sender_nonce = some_of m.header.sender_nonce IsShort [] nonce g.fits.nonce;
      words = g.words;
      time = omega arith;
      leaf = leaf_form (settings_of h).reply_key (reply_leaf h u.who) (reply_fits h (reply_leaf h u.who) room);
    }

-- the numbers of a Grant
numbers_form : (h : History) (leaf : ℕ) → leaf < leaves_of (settings_of h).issue_key → (leaf + 1 < 2 ^ 64) × (leaf < 2 ^ 32)
numbers_form h leaf below = let most : leaves_of (settings_of h).issue_key ≤ 2 ^ 25 = few_leaves (settings_of h).issue_key in (omega arith, omega arith)

-- ---- what is made

pub made_is : (v : Event) (s : Sent) (d c : Change) → made v s d ≡ Makes c → (d ≡ c) × (pass (room_rows v.history d) ≡ true)
made_is v s d c e = let made_by = unless_makes s.to (room_rows v.history d) (Makes d) c e in (same_change d c made_by.1, made_by.0)

-- what is made holds, by its kind, and there is room for it
abbrev IsHeld : History → ℕ → Change → Type 0
IsHeld h t c = (time_of_change c ≡ t) × (is_found c ≡ false) × (pass (room_rows h c) ≡ true) × IsChange c × Holds h c

held_as : (h : History) (t : ℕ) (d c : Change) → d ≡ c → IsHeld h t d → IsHeld h t c
held_as h t d c e k = subst (IsHeld h t) e k

-- ---- requests

unused_is : (state : DealState) → is_unused state ≡ true → state ≡ Unused
unused_is Unused e = refl
unused_is Held e = false_true _ e
unused_is Released e = false_true _ e
unused_is Denied e = false_true _ e
unused_is (deals.Open serial deadline) e = false_true _ e
unused_is Closed e = false_true _ e
unused_is Other e = false_true _ e

enrol_held : (h : History) (t : ℕ) (w : List ℕ) (m : Facts) (u : Owner) (e : Enrolment) (c : Change) → Given h t w m u → IsWish e.wish → enrols (event h t w) (sent m u) e ≡ Makes c → IsHeld h t c
enrol_held h t w m u e c g wish q =
    let v : Event = event h t w in
    let s : Sent = sent m u in
    let rows = unless_makes s.to (new_rows (state_now v s) ++ wish_rows (name_of h) u e ++ key_rows h e ++ proof_rows (is_possessed u e)) (made v s (enrolled v s e)) c q in
    let three = pass_parts (new_rows (state_now v s) ++ wish_rows (name_of h) u e ++ key_rows h e) (proof_rows (is_possessed u e)) rows.0 in
    let two = pass_parts (new_rows (state_now v s) ++ wish_rows (name_of h) u e) (key_rows h e) three.0 in
    let one = pass_parts (new_rows (state_now v s)) (wish_rows (name_of h) u e) two.0 in
    let unused : transaction_state h (tid_of m.header) ≡ Unused = unused_is _ (only_not _ one.0) in
    let unknown : is_key_taken h (key_id (key_of e.wish.spki)) ≡ false = only _ two.1 in
    let rights : rights_as u.who (standing_of_who h u.who t) ≡ Some u.rights = rights_are h t m u g.legal g.good in
    let enrol : may_enrol u ≡ true = not-false _ (or_parts (not (may_enrol u)) _ (second_passes (not e.is_one) _ _ one.1)).0 in
    elim (is_on_hold u) as (λ b. is_on_hold u ≡ b → made v s (cond b (Hold (stamp_by v s) e.body e.wish) (grant_by v s (record { who = u.who; body = e.body; wish = e.wish }))) ≡ Makes c → IsHeld h t c) [
      | true ↦ λ hold r.
          let is = made_is v s (Hold (stamp_by v s) e.body e.wish) c r in
          held_as h t (Hold (stamp_by v s) e.body e.wish) c is.0 (
            refl,
            refl,
            is.1,
            (stamp_form h t w m u g (has_room h (Hold (stamp_by v s) e.body e.wish) is.1).0, wish),
            (
              stamp_holds h t w m u g (has_room h (Hold (stamp_by v s) e.body e.wish) is.1).0,
              record { unused = unused; new_key = unknown; enrol = rw rights enrol; hold = rw rights hold },
            ),
          )
      | false ↦ λ free r.
          let d : Change = grant_by v s (record { who = u.who; body = e.body; wish = e.wish }) in
          let is = made_is v s d c r in
          let leaves = or_parts (is_past_key h (Issue, leaves_used h Issue)) (list_any (is_past_key h) (reply_leaves (reply_leaf h u.who))) (has_room h d is.1).0 in
          let below : leaves_used h Issue < leaves_of (settings_of h).issue_key = leb-false (leaves_of (settings_of h).issue_key) (leaves_used h Issue) leaves.0 in
          let numbers = numbers_form h (leaves_used h Issue) below in
          held_as h t d c is.0 (
            refl,
            refl,
            is.1,
            (stamp_form h t w m u g leaves.1, wish, numbers.0, numbers.1),
            (
              stamp_holds h t w m u g leaves.1,
              record { comes = rw (unused, rights) (unknown, enrol, free); next = refl; left = below; numbered = refl },
            ),
          )
    ] refl rows.1

-- ---- a transaction

-- a transaction that has a Grant is that Grant's, and its state is its certificate's
pub granted_state : (h : History) (tid : List ℕ) (s : Stamp) (b : Body4) (w : Wish) (serial leaf : ℕ) → find (is_grant_for tid) h ≡ Some (Grant s b w serial leaf) → transaction_state h tid ≡ open_or_closed serial (certificate_state h serial)
unfolding transaction_state after_grant
granted_state h tid s b w serial leaf e = rw e refl

pub granted_deal : (h : History) (tid : List ℕ) (s : Stamp) (b : Body4) (w : Wish) (serial leaf : ℕ) → find (is_grant_for tid) h ≡ Some (Grant s b w serial leaf) → deal_of h tid ≡ Some (record { who = s.who; body = b; wish = w })
unfolding deal_of
granted_deal h tid s b w serial leaf e = rw e refl

-- ---- a certConf

compared_makes : (to : To) (place : ℕ) (told : Option Bool) (next : Decision) (c : Change) → compared to place told next ≡ Makes c → next ≡ Makes c
compared_makes to place (Some true) next c e = e
compared_makes to place (Some false) next c e = absurd (let f : Refuses _ to ≡ Makes c = e in cc)
compared_makes to place None next c e = absurd (let f : Asks place ≡ Makes c = e in cc)

compared_with_makes : (to : To) (matches : Receipted → Option Bool) (found : Option Receipted) (next : Decision) (c : Change) → compared_with to matches found next ≡ Makes c → next ≡ Makes c
compared_with_makes to matches (Some r) next c e = compared_makes to r.place (matches r) next c e
compared_with_makes to matches None next c e = absurd (let f : Refuses _ to ≡ Makes c = e in cc)

pub settles_makes : (v : Event) (s : Sent) (f : Confirmation) (c : Change) → settles v s f ≡ Makes c → (accepted : Bool) × (made v s (Settled (stamp_by v s) accepted) ≡ Makes c)
settles_makes v s f c e = elim (f.count == 0) as (λ b. cond b (made v s (Settled (stamp_by v s) false)) (unless s.to (status_rows (deal_now v s) f) (compared_with s.to f.matches (grant_receipt v.history (tid_of s.header)) (made v s (Settled (stamp_by v s) (nat_lt f.status 2))))) ≡ Makes c → (accepted : Bool) × (made v s (Settled (stamp_by v s) accepted) ≡ Makes c)) [
  | true ↦ λ q. (false, q)
  | false ↦ λ q. (nat_lt f.status 2, compared_with_makes s.to f.matches (grant_receipt v.history (tid_of s.header)) _ c (unless_makes s.to (status_rows (deal_now v s) f) _ c q).1)
] e

-- a certificate that is there, not confirmed and not lost is open, before its deadline
open_before : (t serial : ℕ) (state : Option CertificateState) → is_confirmed state ≡ false → is_lost t state ≡ false → is_none state ≡ false → IsOpenPast t (open_or_closed serial state)
open_before t serial (Some (certificates.Open deadline)) a b c = leb-false deadline t b
open_before t serial (Some certificates.Confirmed) a b c = false_true _ (sym a)
open_before t serial (Some (certificates.Revoked reason)) a b c = false_true _ (sym b)
open_before t serial None a b c = false_true _ (sym c)

some_is : {X : Type 0} (o : Option X) → is_none o ≡ false → (x : X) × (o ≡ Some x)
some_is (Some x) e = (x, refl)
some_is None e = false_true _ (sym e)

-- the Grant of a transaction that has a certificate
certificate_grant : (h : History) (tid : List ℕ) → is_none (deal_certificate h tid) ≡ false → (s : Stamp) × (b : Body4) × (w : Wish) × (serial : ℕ) × (leaf : ℕ) × (find (is_grant_for tid) h ≡ Some (Grant s b w serial leaf))
certificate_grant h tid e =
    let state = some_is (deal_certificate h tid) e in
    let serial = view_found (certificate_state h) (option_and_then granted_serial (find (is_grant_for tid) h)) state.0 state.1 in
    let change = view_found granted_serial (find (is_grant_for tid) h) serial.0 serial.1 in
    let grant = grant_for_is tid change.0 (found_passes (is_grant_for tid) h change.0 change.1) in
    (grant.0, grant.1, grant.2, grant.3, grant.4, change.1 ∙ ap (λ (x : Change). Some x) grant.5)

confirm_held : (h : History) (t : ℕ) (w : List ℕ) (m : Facts) (u : Owner) (f : Confirmation) (c : Change) → Given h t w m u → confirms (event h t w) (sent m u) f ≡ Makes c → IsHeld h t c
confirm_held h t w m u f c g q =
    let v : Event = event h t w in
    let s : Sent = sent m u in
    let tid : List ℕ = tid_of m.header in
    let rows = unless_makes s.to (old_rows (state_now v s) ++ party_rows h m.header u.who ++ confirm_rows (deal_certificate h tid) t) (settles v s f) c q in
    let two = pass_parts (old_rows (state_now v s) ++ party_rows h m.header u.who) (confirm_rows (deal_certificate h tid) t) rows.0 in
    let party = (pass_parts (old_rows (state_now v s)) (party_rows h m.header u.who) two.0).1 in
    let its : is_of (deal_of h tid) u.who ≡ true = not-false _ (first (not (is_of (deal_of h tid) u.who)) _ party).0 in
    let unconfirmed = first (is_confirmed (deal_certificate h tid)) _ two.1 in
    let unlost = first (is_lost t (deal_certificate h tid)) _ unconfirmed.1 in
    let some : is_none (deal_certificate h tid) ≡ false = only _ unlost.1 in
    let grant = certificate_grant h tid some in
    let granting : Change = Grant grant.0 grant.1 grant.2 grant.3 grant.4 in
    let found : find (is_grant_for tid) h ≡ Some granting = grant.5 in
    let state : deal_certificate h tid ≡ certificate_state h grant.3 = ap (λ (x : Option Change). option_and_then (certificate_state h) (option_and_then granted_serial x)) found in
    let in_time : IsOpenPast t (transaction_state h tid) =
    subst (IsOpenPast t) (sym (granted_state h tid grant.0 grant.1 grant.2 grant.3 grant.4 found))
    (open_before t grant.3 (certificate_state h grant.3) (ap is_confirmed (sym state) ∙ unconfirmed.0) (ap (is_lost t) (sym state) ∙ unlost.0) (ap (λ (x : Option CertificateState). is_none x) (sym state) ∙ some)) in
    let sender : is_granted_to u.who (find (is_grant_for tid) h) ≡ true =
    ap (is_granted_to u.who) found ∙ sym (ap (λ (x : Option Deal). is_of x u.who) (granted_deal h tid grant.0 grant.1 grant.2 grant.3 grant.4 found)) ∙ its in
    let settled = settles_makes v s f c rows.1 in
    let d : Change = Settled (stamp_by v s) settled.0 in
    let is = made_is v s d c settled.1 in
    held_as h t d c is.0 (refl, refl, is.1, stamp_form h t w m u g (has_room h d is.1).0, (stamp_holds h t w m u g (has_room h d is.1).0, record { in_time = in_time; sender = sender }))

-- ---- an rr

confirmed_is : (state : Option CertificateState) → is_none state ≡ false → is_open state ≡ false → is_revoked state ≡ false → state ≡ Some certificates.Confirmed
confirmed_is (Some (certificates.Open deadline)) a b c = false_true _ (sym b)
confirmed_is (Some certificates.Confirmed) a b c = refl
confirmed_is (Some (certificates.Revoked reason)) a b c = false_true _ (sym c)
confirmed_is None a b c = false_true _ (sym a)

-- a certificate that was granted has a state
granted_some : (h : History) (serial : ℕ) → is_none (find (is_grant_of serial) h) ≡ false → is_none (certificate_state h serial) ≡ false
unfolding certificate_state
granted_some h serial e =
    let found = some_is (find (is_grant_of serial) h) e in
    let grant = grant_is serial found.0 (found_passes (is_grant_of serial) h found.0 found.1) in
    rw (found.1, grant.4) refl

-- a serial number that was granted has 64 bits
granted_serial_form : (h : History) (serial : ℕ) → Legal h → is_none (find (is_grant_of serial) h) ≡ false → serial < 2 ^ 64
granted_serial_form h serial legal e =
    let found = some_is (find (is_grant_of serial) h) e in
    let grant = grant_is serial found.0 (found_passes (is_grant_of serial) h found.0 found.1) in
    let place = found_place (is_grant_of serial) h found.0 found.1 in
    (allowed_at [] h legal.1 place.0 (Grant grant.0 grant.1 grant.2 serial grant.3) (place.1 ∙ ap (λ (x : Change). Some x) grant.4)).form.2

octet_of : (reason : Option ℕ) → IfSome reason (λ r. r < 2 ^ 8) → unwrap_or reason 0 < 2 ^ 8
octet_of (Some r) fits = fits
octet_of None fits = omega arith

withdraw_held : (h : History) (t : ℕ) (w : List ℕ) (m : Facts) (u : Owner) (a : Withdrawal) (c : Change) → Given h t w m u → IfSome a.reason (λ r. r < 2 ^ 8) → withdraws (event h t w) (sent m u) a ≡ Makes c → IsHeld h t c
withdraw_held h t w m u a c g reason q =
    let v : Event = event h t w in
    let s : Sent = sent m u in
    let serial : ℕ = unwrap_or a.certificate.serial 0 in
    let d : Change = Revoke (stamp_by v s) serial (unwrap_or a.reason 0) in
    let rows = unless_makes s.to (new_rows (state_now v s) ++ reason_rows (name_of h) a ++ revoke_rows h u serial) (made v s d) c q in
    let two = pass_parts (new_rows (state_now v s) ++ reason_rows (name_of h) a) (revoke_rows h u serial) rows.0 in
    let unused : transaction_state h (tid_of m.header) ≡ Unused = unused_is _ (only_not _ (pass_parts (new_rows (state_now v s)) (reason_rows (name_of h) a) two.0).0) in
    let granted = first (is_none (find (is_grant_of serial) h)) _ two.1 in
    let allowed = first (not (may_withdraw h u serial)) _ granted.1 in
    let closed = first (is_open (certificate_state h serial)) _ allowed.1 in
    let rights : rights_as u.who (standing_of_who h u.who t) ≡ Some u.rights = rights_are h t m u g.legal g.good in
    let may_do : may_withdraw h u serial ≡ true = not-false _ allowed.0 in
    let is = made_is v s d c rows.1 in
    held_as h t d c is.0 (
      refl,
      refl,
      is.1,
      (stamp_form h t w m u g (has_room h d is.1).0, granted_serial_form h serial g.legal granted.0, octet_of a.reason reason),
      (
        stamp_holds h t w m u g (has_room h d is.1).0,
        record { unused = unused; confirmed = confirmed_is (certificate_state h serial) (granted_some h serial granted.0) closed.0 (only _ closed.1); sender = rw rights may_do },
      ),
    )

-- ---- a pollReq

open_closed_poll : (serial : ℕ) (state : Option CertificateState) (told : Bool) → can_poll (open_or_closed serial state) told ≡ true → ⊥
open_closed_poll serial (Some (certificates.Open deadline)) told e = false_true _ e
open_closed_poll serial (Some certificates.Confirmed) told e = false_true _ e
open_closed_poll serial (Some (certificates.Revoked reason)) told e = false_true _ e
open_closed_poll serial None told e = false_true _ e

-- whoever may poll has no certificate yet
no_grant_yet : (h : History) (tid : List ℕ) (told : Bool) → can_poll (transaction_state h tid) told ≡ true → find (is_grant_for tid) h ≡ None
no_grant_yet h tid told e = by_found (find (is_grant_for tid) h) refl
  where
    by_found : (found : Option Change) → find (is_grant_for tid) h ≡ found → found ≡ None
    by_found None none = refl
    by_found (Some x) some =
        let grant = grant_for_is tid x (found_passes (is_grant_for tid) h x some) in
        absurd (open_closed_poll grant.3 (certificate_state h grant.3) told (ap (λ (st : DealState). can_poll st told) (sym (granted_state h tid grant.0 grant.1 grant.2 grant.3 grant.4 (some ∙ ap (λ (y : Change). Some y) grant.5))) ∙ e))

-- so its transaction is that of its Hold
held_deal : (h : History) (tid : List ℕ) (d : Deal) → find (is_grant_for tid) h ≡ None → deal_of h tid ≡ Some d → (s : Stamp) × (find (is_hold_for tid) h ≡ Some (Hold s d.body d.wish)) × (s.who ≡ d.who)
unfolding deal_of
held_deal h tid d none e =
    let deal : option_and_then deal_in (find (is_hold_for tid) h) ≡ Some d = ap (λ (found : Option Change). option_and_then deal_in (option_or found (find (is_hold_for tid) h))) (sym none) ∙ e in
    let change = view_found deal_in (find (is_hold_for tid) h) d deal in
    let hold = hold_for_is tid change.0 (found_passes (is_hold_for tid) h change.0 change.1) in
    let same : record { who = hold.0.who; body = hold.1; wish = hold.2 } ≡ d = same_Some _ d (ap deal_in (sym hold.3) ∙ change.2) in
    (hold.0, change.1 ∙ ap (λ (x : Change). Some x) hold.3 ∙ ap (λ (x : Deal). Some (Hold hold.0 x.body x.wish)) same, ap (λ (x : Deal). x.who) same)

same_body_refl : (b : Body4) → same_body b b ≡ true
same_body_refl Ir = refl
same_body_refl Cr = refl
same_body_refl P10cr = refl
same_body_refl Kur = refl

same_bool_refl : (b : Bool) → same_bool b b ≡ true
same_bool_refl true = refl
same_bool_refl false = refl

same_wish_refl : (w : Wish) → same_wish w w ≡ true
same_wish_refl w = rw (same_refl w.subject, same_refl w.spki, same_refl w.exts, same_bool_refl w.implicit, same_bool_refl w.mods) refl

pub poll_makes : (v : Event) (s : Sent) (state : DealState) (found : Option Deal) (c : Change) → poll_made v s state found ≡ Makes c → (d : Deal) × (found ≡ Some d) × (made v s (polled v s state d) ≡ Makes c)
poll_makes v s state (Some d) c e = (d, refl, e)
poll_makes v s state None c e = absurd (let f : Refuses _ s.to ≡ Makes c = e in cc)

-- the wish of a Hold can be spelled
held_wish : (h : History) (tid : List ℕ) (s : Stamp) (b : Body4) (w : Wish) → Legal h → find (is_hold_for tid) h ≡ Some (Hold s b w) → IsWish w
held_wish h tid s b w legal e =
    let place = found_place (is_hold_for tid) h (Hold s b w) e in
    (allowed_at [] h legal.1 place.0 (Hold s b w) place.1).form.1

poll_held : (h : History) (t : ℕ) (w : List ℕ) (m : Facts) (u : Owner) (p : Polling) (c : Change) → Given h t w m u → polls (event h t w) (sent m u) p ≡ Makes c → IsHeld h t c
poll_held h t w m u p c g q =
    let v : Event = event h t w in
    let s : Sent = sent m u in
    let tid : List ℕ = tid_of m.header in
    let told : Bool = is_told h tid in
    let rows = unless_makes s.to (old_rows (state_now v s) ++ party_rows h m.header u.who ++ poll_rows (state_now v s) told ++ entry_rows (deal_now v s) p) (poll_made v s (state_now v s) (deal_now v s)) c q in
    let three = pass_parts (old_rows (state_now v s) ++ party_rows h m.header u.who ++ poll_rows (state_now v s) told) (entry_rows (deal_now v s) p) rows.0 in
    let two = pass_parts (old_rows (state_now v s) ++ party_rows h m.header u.who) (poll_rows (state_now v s) told) three.0 in
    let party = (pass_parts (old_rows (state_now v s)) (party_rows h m.header u.who) two.0).1 in
    let its : is_of (deal_of h tid) u.who ≡ true = not-false _ (first (not (is_of (deal_of h tid) u.who)) _ party).0 in
    let may_poll : can_poll (transaction_state h tid) told ≡ true = only_not _ two.1 in
    let deal = poll_makes v s (state_now v s) (deal_now v s) c rows.1 in
    let hold = held_deal h tid deal.0 (no_grant_yet h tid told may_poll) deal.1 in
    let who : same_who hold.0.who u.who ≡ true = ap (λ (x : Who). same_who x u.who) hold.2 ∙ ap (λ (x : Option Deal). is_of x u.who) (sym deal.1) ∙ its in
    let sender : is_held_by u.who (find (is_hold_for tid) h) ≡ true = ap (is_held_by u.who) hold.1 ∙ who in
    let as_held : is_held_as u.who deal.0.body deal.0.wish (find (is_hold_for tid) h) ≡ true =
    ap (is_held_as u.who deal.0.body deal.0.wish) hold.1 ∙ rw (who, same_body_refl deal.0.body, same_wish_refl deal.0.wish) refl in
    by_state h t w m u deal.0 c (transaction_state h tid) told g (held_wish h tid hold.0 deal.0.body deal.0.wish g.legal hold.1) refl refl may_poll sender as_held deal.2
  where
    by_state : (h : History) (t : ℕ) (w : List ℕ) (m : Facts) (u : Owner) (d : Deal) (c : Change) (state : DealState) (told : Bool) → Given h t w m u → IsWish d.wish
        → transaction_state h (tid_of m.header) ≡ state → is_told h (tid_of m.header) ≡ told → can_poll state told ≡ true → is_held_by u.who (find (is_hold_for (tid_of m.header)) h) ≡ true
        → is_held_as u.who d.body d.wish (find (is_hold_for (tid_of m.header)) h) ≡ true → made (event h t w) (sent m u) (polled (event h t w) (sent m u) state d) ≡ Makes c → IsHeld h t c
    by_state h t w m u d c Held told g wish e k may_poll sender as_held r =
        let is = made_is (event h t w) (sent m u) (Polled (stamp_by (event h t w) (sent m u))) c r in
        held_as h t (Polled (stamp_by (event h t w) (sent m u))) c is.0 (refl, refl, is.1, stamp_form h t w m u g (has_room h (Polled (stamp_by (event h t w) (sent m u))) is.1).0, (stamp_holds h t w m u g (has_room h (Polled (stamp_by (event h t w) (sent m u))) is.1).0, record { held = e; sender = sender }))
    by_state h t w m u d c Denied told g wish e k may_poll sender as_held r =
        let is = made_is (event h t w) (sent m u) (Turned (stamp_by (event h t w) (sent m u))) c r in
        held_as h t (Turned (stamp_by (event h t w) (sent m u))) c is.0 (refl, refl, is.1, stamp_form h t w m u g (has_room h (Turned (stamp_by (event h t w) (sent m u))) is.1).0, (stamp_holds h t w m u g (has_room h (Turned (stamp_by (event h t w) (sent m u))) is.1).0, record { denied = e; untold = k ∙ not-true told may_poll; sender = sender }))
    by_state h t w m u d c Released told g wish e k may_poll sender as_held r =
        let granting : Change = grant_by (event h t w) (sent m u) d in
        let is = made_is (event h t w) (sent m u) granting c r in
        let leaves = or_parts (is_past_key h (Issue, leaves_used h Issue)) (list_any (is_past_key h) (reply_leaves (reply_leaf h u.who))) (has_room h granting is.1).0 in
        let below : leaves_used h Issue < leaves_of (settings_of h).issue_key = leb-false (leaves_of (settings_of h).issue_key) (leaves_used h Issue) leaves.0 in
        let numbers = numbers_form h (leaves_used h Issue) below in
        held_as h t granting c is.0 (
          refl,
          refl,
          is.1,
          (stamp_form h t w m u g leaves.1, wish, numbers.0, numbers.1),
          (
            stamp_holds h t w m u g leaves.1,
            record { comes = rw e as_held; next = refl; left = below; numbered = refl },
          ),
        )
    by_state h t w m u d c Unused told g wish e k may_poll sender as_held r = false_true _ may_poll
    by_state h t w m u d c (deals.Open serial deadline) told g wish e k may_poll sender as_held r = false_true _ may_poll
    by_state h t w m u d c Closed told g wish e k may_poll sender as_held r = false_true _ may_poll
    by_state h t w m u d c Other told g wish e k may_poll sender as_held r = false_true _ may_poll

-- ---- all

about_held : (h : History) (t : ℕ) (w : List ℕ) (m : Facts) (u : Owner) (body : Body) (c : Change) → Given h t w m u → FitsBody body → about (event h t w) (sent m u) body ≡ Makes c → IsHeld h t c
about_held h t w m u (Enrols e) c g fits q = enrol_held h t w m u e c g fits q
about_held h t w m u (Confirms f) c g fits q = confirm_held h t w m u f c g q
about_held h t w m u (Polls p) c g fits q = poll_held h t w m u p c g q
about_held h t w m u (Withdraws a) c g fits q = withdraw_held h t w m u a c g fits q
about_held h t w m u (Nests count) c g fits q = absurd (let f : Refuses _ (sent m u).to ≡ Makes c = q in cc)
about_held h t w m u OtherBody c g fits q = absurd (let f : Refuses _ (sent m u).to ≡ Makes c = q in cc)

pub made_allowed : (h : History) (l : Letter) (now : ℕ) (w : List ℕ) (c : Change) → Legal h → FitsMessage (subject_of l) → now ≤ 250000000000 → length w ≡ 32 → decision h l now w ≡ Makes c → Allowed h c × (time_of_change c ≡ event_time h now)
made_allowed h l now w c legal fits early words e =
    let by = decision_makes h l now w c e in
    let bound : event_time h now ≤ 250000000000 = event_timely h now legal early in
    let given : Given h (event_time h now) w (subject_of l) by.owner = record { legal = legal; new = by.fresh; good = by.good; header = by.header; fits = fits; words = words; time = bound } in
    let held = about_held h (event_time h now) w (subject_of l) by.owner (subject_of l).body c given fits.body by.by in
    let room = has_room h c held.2 in
    let time : time_of_change c ≡ event_time h now = held.0 in
    (record { form = held.3; later = omega (arith, time); bounded = omega (arith, time, bound); room = room.1; size = room.2; opening = held.1 ∙ not_empty h legal; holds = held.4 }, time)

-- ---- what is left

rest_fits : (name : List ℕ) (k : Checked) → FitsChecked k → FitsMessage (rest_facts name k)
rest_fits name k f = record { digest = f.digest; tid = f.tid; sender = f.sender; nonce = f.nonce; body = by_job name k k.job f.job }
  where
    by_job : (name : List ℕ) (k : Checked) (job : Job) → FitsJob job → FitsBody (rest_body name k job)
    by_job name k Repeat f = tt
    by_job name k (Enrol body wish) f = f
    by_job name k (Confirm id_ok hash hash_alg_ok count status) f = tt
    by_job name k (Poll ids_ok) f = tt
    by_job name k (Withdraw serial reason) f = f

rest_subject : (name : List ℕ) (k : Checked) (outer : Option (Kind × List ℕ)) → subject_of (record { message = rest_message name k outer; inner = rest_facts name k }) ≡ rest_facts name k
rest_subject name k (Some o) = refl
rest_subject name k None = ap (λ b. cond b (rest_facts name k) (rest_facts name k)) (rest_plain name k k.job)

pub left_allowed : (h : History) (k : Checked) (now : ℕ) (w : List ℕ) (c : Change) → Legal h → FitsChecked k → now ≤ 250000000000 → length w ≡ 32 → left h k now w ≡ Makes c → Allowed h c × (time_of_change c ≡ event_time h now)
left_allowed h k now w c legal fits early words e = made_allowed h (rest (name_of h) k) now w c legal (subst FitsMessage (sym (rest_subject (name_of h) k k.ask.outer)) (rest_fits (name_of h) k fits)) early words e
