-- What a Grant or a Hold is made of, by the body of the message.
use Rattle.std.proofs.Common.{◌≡◌, ℕ, Bool, true, false, not, ◌||◌, cond, List, [], ◌∷◌, ◌++◌, Option, Some, None, refl, sym, ap, ◌∙◌, inl, inr}
use Rattle.std.specs.Prelude.{◌⊎◌, option_and_then, unwrap_or, find, ◌==◌, nat_lt}
use Rattle.std.specs.List.{list_any}
use Rattle.std.specs.Option.{option_or}
use Rattle.std.proofs.lemmas.Bool.{eqb-true, not-false, or_parts}
use Rattle.std.proofs.lemmas.Option.{none-some, same_Some}
use Rattle.deal_changes.specs.declared.change.Who.{Who}
use Rattle.deal_changes.specs.declared.change.Who.TheVariants.{Listed, Cert}
use Rattle.deal_changes.specs.declared.change.Stamp.{Stamp}
use Rattle.deal_changes.specs.declared.change.Change.{Change}
use Rattle.deal_changes.specs.declared.change.Change.TheVariants.{Hold, Turned, Polled, Settled, Revoke}
use Rattle.deal_model.specs.declared.states.CertificateState.{CertificateState}
use Rattle.deal_model.specs.declared.states.CertificateState.TheVariants as certificates
use Rattle.deal_model.specs.declared.states.DealState.{DealState}
use Rattle.deal_model.specs.declared.states.DealState.TheVariants as deals
use Rattle.deal_model.specs.declared.states.DealState.TheVariants.{Unused, Held, Released, Denied, Closed, Other}
use Rattle.deal_model.specs.declared.states.Owner.{Owner}
use Rattle.deal_model.specs.Views.{History, same_kind, same, is_grant_for, is_hold_for, certificate_state, open_or_closed, transaction_state, is_told}
use Rattle.deal_model.specs.Rules.{same_who}
use Rattle.deal_model.proofs.Leaves.{found_passes}
use Rattle.cmp_values.specs.declared.fail_info.FailInfo.{FailInfo}
use Rattle.deal_table.specs.History.{Receipted, Deal, deal_in, deal_of, name_of, grant_receipt}
use Rattle.deal_table.specs.Message.{Enrolment, Confirmation, Polling, Withdrawal, Body, Enrols, Confirms, Polls, Withdraws, Nests, OtherBody, Facts}
use Rattle.deal_table.specs.Table.{Row, To, Decision, Makes, Refuses, Asks, Event, Sent, unless, pass, guarded, may_enrol, is_on_hold, tid_of, new_rows, old_rows, is_of, party_rows, state_now, deal_now, stamp_by, grant_by, room_rows, made, wish_rows, key_rows, is_possessed, proof_rows, enrolled, enrols, deal_certificate, confirm_rows, status_rows, compared, compared_with, settles, confirms, can_poll, poll_rows, entry_rows, polled, poll_made, polls, reason_rows, revoke_rows, withdraws, about}
use Rattle.deal_table.proofs.Rows.{false_true, second_passes}
use Rattle.deal_table.proofs.Made.{unless_makes}
use Rattle.deal_table.proofs.Senders.{view_found, both, same_is, kind_is}
use Rattle.deal_table.proofs.Allowed.{grant_for_is, hold_for_is, granted_state}
use Rattle.grant_laws.specs.Grants.{IsAsked, IsReleased}

-- ---- rows that pass

pass_parts : (xs ys : List Row) → pass (xs ++ ys) ≡ true → (pass xs ≡ true) × (pass ys ≡ true)
pass_parts [] ys p = (refl, p)
pass_parts (row ∷ xs) ys p = elim row.applies as (λ v. not (v || list_any (λ r. r.applies) (xs ++ ys)) ≡ true → (not (v || list_any (λ r. r.applies) xs) ≡ true) × (pass ys ≡ true)) [
  | true ↦ λ q. false_true _ q
  | false ↦ λ q. pass_parts xs ys q
] p

-- the first row's test, which asks that something isn't so, fails
pub first_holds : (a others : Bool) → not (not a || others) ≡ true → a ≡ true
first_holds true others p = refl
first_holds false others p = false_true _ p

-- ---- what is made

change_in : Decision → Option Change
change_in (Makes c) = Some c
change_in _ = None

same_change : (a b : Change) → Makes a ≡ Makes b → a ≡ b
unfolding change_in
same_change a b e = same_Some a b (ap change_in e)

refused : (fail : FailInfo) (to : To) (c : Change) (P : Type 0) → Refuses fail to ≡ Makes c → P
refused fail to c P e = absurd cc

made_is : (v : Event) (s : Sent) (d c : Change) → made v s d ≡ Makes c → d ≡ c
made_is v s d c e = same_change d c (unless_makes s.to (room_rows v.history d) (Makes d) c e).1

-- what is made for no deal is no Grant or Hold
no_deal : (v : Event) (s : Sent) (made_change c : Change) (d : Deal) (P : Type 0) → deal_in made_change ≡ None → made v s made_change ≡ Makes c → deal_in c ≡ Some d → P
no_deal v s m c d P none e deal = absurd (none-some d (sym none ∙ (ap deal_in (made_is v s m c e) ∙ deal)))

-- what is made for a deal is made for no other
its_deal : (v : Event) (s : Sent) (made_change c : Change) (x d : Deal) → deal_in made_change ≡ Some x → made v s made_change ≡ Makes c → deal_in c ≡ Some d → x ≡ d
its_deal v s m c x d its e deal = same_Some x d (sym its ∙ (ap deal_in (made_is v s m c e) ∙ deal))

same_who_is : (a b : Who) → same_who a b ≡ true → a ≡ b
same_who_is (Listed j a) (Listed k b) e =
    let parts = both (same_kind j k) (same a b) e in
    ap (λ kind. Listed kind a) (kind_is j k parts.0) ∙ ap (Listed k) (same_is a b parts.1)
same_who_is (Listed j a) (Cert n) e = false_true _ e
same_who_is (Cert m) (Listed k b) e = false_true _ e
same_who_is (Cert m) (Cert n) e = ap Cert (eqb-true m n e)

-- a message whose sender is known
abbrev pub sent : Facts → Owner → Sent
sent m o = record { to = guarded false m o; digest = m.digest; header = m.header; owner = o }

-- it asks for this, or polls for it
abbrev pub IsWished : History → Facts → Owner → Deal → Type 0
IsWished h m o d = IsAsked m o d ⊎ IsReleased h m o d

-- ---- a request

enrolled_deal : (v : Event) (s : Sent) (e : Enrolment) → deal_in (enrolled v s e) ≡ Some (record { who = s.owner.who; body = e.body; wish = e.wish })
enrolled_deal v s e = elim (is_on_hold s.owner) as (λ b. deal_in (cond b (Hold (stamp_by v s) e.body e.wish) (grant_by v s (record { who = s.owner.who; body = e.body; wish = e.wish }))) ≡ Some (record { who = s.owner.who; body = e.body; wish = e.wish })) [
  | true ↦ refl
  | false ↦ refl
]

enrol_wished : (v : Event) (m : Facts) (o : Owner) (e : Enrolment) (c : Change) (d : Deal) → m.body ≡ Enrols e → enrols v (sent m o) e ≡ Makes c → deal_in c ≡ Some d → IsAsked m o d
enrol_wished v m o e c d body q deal =
    let s : Sent = sent m o in
    let h : History = v.history in
    let rows = unless_makes s.to (new_rows (state_now v s) ++ wish_rows (name_of h) o e ++ key_rows h e ++ proof_rows (is_possessed o e)) (made v s (enrolled v s e)) c q in
    let three = pass_parts (new_rows (state_now v s) ++ wish_rows (name_of h) o e ++ key_rows h e) (proof_rows (is_possessed o e)) rows.0 in
    let two = pass_parts (new_rows (state_now v s) ++ wish_rows (name_of h) o e) (key_rows h e) three.0 in
    let one = pass_parts (new_rows (state_now v s)) (wish_rows (name_of h) o e) two.0 in
    record {
      request = e;
      asks = body;
      may = not-false _ (or_parts (not (may_enrol o)) _ (second_passes (not e.is_one) _ _ one.1)).0;
      possessed = first_holds (is_possessed o e) false three.1;
      deal = sym (its_deal v s (enrolled v s e) c _ d (enrolled_deal v s e) rows.1 deal);
    }

-- ---- a certConf

compared_makes : (to : To) (place : ℕ) (told : Option Bool) (next : Decision) (c : Change) → compared to place told next ≡ Makes c → next ≡ Makes c
compared_makes to place (Some true) next c e = e
compared_makes to place (Some false) next c e = refused _ to c _ e
compared_makes to place None next c e = absurd (let f : Asks place ≡ Makes c = e in cc)

compared_with_makes : (to : To) (f : Confirmation) (found : Option Receipted) (next : Decision) (c : Change) → compared_with to f.matches found next ≡ Makes c → next ≡ Makes c
compared_with_makes to f (Some r) next c e = compared_makes to r.place (f.matches r) next c e
compared_with_makes to f None next c e = refused _ to c _ e

settle_wished : (v : Event) (s : Sent) (f : Confirmation) (c : Change) (d : Deal) (P : Type 0) → settles v s f ≡ Makes c → deal_in c ≡ Some d → P
settle_wished v s f c d P e deal = elim (f.count == 0) as (λ b. cond b (made v s (Settled (stamp_by v s) false)) (unless s.to (status_rows (deal_now v s) f)
    (compared_with s.to f.matches (grant_receipt v.history (tid_of s.header)) (made v s (Settled (stamp_by v s) (nat_lt f.status 2))))) ≡ Makes c → P) [
      | true ↦ λ q. no_deal v s (Settled (stamp_by v s) false) c d P refl q deal
      | false ↦ λ q. no_deal v s (Settled (stamp_by v s) (nat_lt f.status 2)) c d P refl (compared_with_makes s.to f (grant_receipt v.history (tid_of s.header)) _ c (unless_makes s.to (status_rows (deal_now v s) f) _ c q).1) deal
    ] e

confirm_wished : (v : Event) (s : Sent) (f : Confirmation) (c : Change) (d : Deal) (P : Type 0) → confirms v s f ≡ Makes c → deal_in c ≡ Some d → P
confirm_wished v s f c d P e deal = settle_wished v s f c d P (unless_makes s.to (old_rows (state_now v s) ++ party_rows v.history s.header s.owner.who ++ confirm_rows (deal_certificate v.history (tid_of s.header)) v.time) _ c e).1 deal

-- ---- a pollReq

open_closed_poll : (serial : ℕ) (state : Option CertificateState) (told : Bool) → can_poll (open_or_closed serial state) told ≡ true → ⊥
open_closed_poll serial (Some (certificates.Open deadline)) told e = false_true _ e
open_closed_poll serial (Some certificates.Confirmed) told e = false_true _ e
open_closed_poll serial (Some (certificates.Revoked reason)) told e = false_true _ e
open_closed_poll serial None told e = false_true _ e

-- whoever may poll has no certificate yet
no_grant_yet : (h : History) (tid : List ℕ) (told : Bool) → can_poll (transaction_state h tid) told ≡ true → find (is_grant_for tid) h ≡ None
no_grant_yet h tid told e = by_found (find (is_grant_for tid) h) refl
  where
    by_found : (found : Option Change) → find (is_grant_for tid) h ≡ found → found ≡ None
    by_found None none = refl
    by_found (Some x) some =
        let grant = grant_for_is tid x (found_passes (is_grant_for tid) h x some) in
        absurd (open_closed_poll grant.3 (certificate_state h grant.3) told (ap (λ (st : DealState). can_poll st told) (sym (granted_state h tid grant.0 grant.1 grant.2 grant.3 grant.4 (some ∙ ap (λ (y : Change). Some y) grant.5))) ∙ e))

-- so its transaction is that of its Hold
held_deal : (h : History) (tid : List ℕ) (d : Deal) → find (is_grant_for tid) h ≡ None → deal_of h tid ≡ Some d → (s : Stamp) × (find (is_hold_for tid) h ≡ Some (Hold s d.body d.wish)) × (s.who ≡ d.who)
unfolding deal_of
held_deal h tid d none e =
    let deal : option_and_then deal_in (find (is_hold_for tid) h) ≡ Some d = ap (λ (found : Option Change). option_and_then deal_in (option_or found (find (is_hold_for tid) h))) (sym none) ∙ e in
    let change = view_found deal_in (find (is_hold_for tid) h) d deal in
    let hold = hold_for_is tid change.0 (found_passes (is_hold_for tid) h change.0 change.1) in
    let same : record { who = hold.0.who; body = hold.1; wish = hold.2 } ≡ d = same_Some _ d (ap deal_in (sym hold.3) ∙ change.2) in
    (hold.0, change.1 ∙ ap (λ (x : Change). Some x) hold.3 ∙ ap (λ (x : Deal). Some (Hold hold.0 x.body x.wish)) same, ap (λ (x : Deal). x.who) same)

-- a Hold of a deal is one of the same deal by another name
held_as : (found : Option Change) (s : Stamp) (x : Deal) (who : Who) (d : Deal) → found ≡ Some (Hold s x.body x.wish) → record { who = who; body = x.body; wish = x.wish } ≡ d → found ≡ Some (Hold s d.body d.wish)
held_as found s x who d held same = held ∙ ap (λ (y : Deal). Some (Hold s y.body y.wish)) same

poll_makes : (v : Event) (s : Sent) (state : DealState) (found : Option Deal) (c : Change) → poll_made v s state found ≡ Makes c → (d : Deal) × (found ≡ Some d) × (made v s (polled v s state d) ≡ Makes c)
poll_makes v s state (Some d) c e = (d, refl, e)
poll_makes v s state None c e = refused _ s.to c _ e

-- only of a released request a poll makes a Grant, for its own sender and as the request was
released_alone : (v : Event) (s : Sent) (state : DealState) (told : Bool) (x d : Deal) (c : Change) → can_poll state told ≡ true → made v s (polled v s state x) ≡ Makes c → deal_in c ≡ Some d
    → (state ≡ Released) × (record { who = s.owner.who; body = x.body; wish = x.wish } ≡ d)
released_alone v s Released told x d c may e deal = (refl, its_deal v s (grant_by v s x) c _ d refl e deal)
released_alone v s Held told x d c may e deal = no_deal v s (Polled (stamp_by v s)) c d _ refl e deal
released_alone v s Denied told x d c may e deal = no_deal v s (Turned (stamp_by v s)) c d _ refl e deal
released_alone v s Unused told x d c may e deal = false_true _ may
released_alone v s (deals.Open serial deadline) told x d c may e deal = false_true _ may
released_alone v s Closed told x d c may e deal = false_true _ may
released_alone v s Other told x d c may e deal = false_true _ may

poll_wished : (v : Event) (m : Facts) (o : Owner) (p : Polling) (c : Change) (d : Deal) → m.body ≡ Polls p → polls v (sent m o) p ≡ Makes c → deal_in c ≡ Some d → IsReleased v.history m o d
poll_wished v m o p c d body q deal =
    let s : Sent = sent m o in
    let h : History = v.history in
    let tid : List ℕ = tid_of m.header in
    let told : Bool = is_told h tid in
    let rows = unless_makes s.to (old_rows (state_now v s) ++ party_rows h m.header o.who ++ poll_rows (state_now v s) told ++ entry_rows (deal_now v s) p) (poll_made v s (state_now v s) (deal_now v s)) c q in
    let three = pass_parts (old_rows (state_now v s) ++ party_rows h m.header o.who ++ poll_rows (state_now v s) told) (entry_rows (deal_now v s) p) rows.0 in
    let two = pass_parts (old_rows (state_now v s) ++ party_rows h m.header o.who) (poll_rows (state_now v s) told) three.0 in
    let party = (pass_parts (old_rows (state_now v s)) (party_rows h m.header o.who) two.0).1 in
    let its : is_of (deal_of h tid) o.who ≡ true = first_holds (is_of (deal_of h tid) o.who) _ party in
    let may_poll : can_poll (transaction_state h tid) told ≡ true = first_holds (can_poll (transaction_state h tid) told) false two.1 in
    let polled_for = poll_makes v s (state_now v s) (deal_now v s) c rows.1 in
    let x : Deal = polled_for.0 in
    let hold = held_deal h tid x (no_grant_yet h tid told may_poll) polled_for.1 in
    let who : x.who ≡ o.who = same_who_is x.who o.who (ap (λ (y : Option Deal). is_of y o.who) (sym polled_for.1) ∙ its) in
    let granted = released_alone v s (transaction_state h tid) told x d c may_poll polled_for.2 deal in
    record {
      polling = p;
      polls = body;
      state = granted.0;
      stamp = hold.0;
      held = held_as (find (is_hold_for tid) h) hold.0 x o.who d hold.1 granted.1;
      holder = hold.2 ∙ who;
      who = ap (λ (y : Deal). y.who) (sym granted.1);
    }

-- ---- an rr

withdraw_wished : (v : Event) (s : Sent) (a : Withdrawal) (c : Change) (d : Deal) (P : Type 0) → withdraws v s a ≡ Makes c → deal_in c ≡ Some d → P
withdraw_wished v s a c d P e deal =
    let revoke : Change = Revoke (stamp_by v s) (unwrap_or a.certificate.serial 0) (unwrap_or a.reason 0) in
    no_deal v s revoke c d P refl (unless_makes s.to (new_rows (state_now v s) ++ reason_rows (name_of v.history) a ++ revoke_rows v.history s.owner (unwrap_or a.certificate.serial 0)) (made v s revoke) c e).1 deal

-- ---- all

pub about_wished : (v : Event) (m : Facts) (o : Owner) (body : Body) (c : Change) (d : Deal) → m.body ≡ body → about v (sent m o) body ≡ Makes c → deal_in c ≡ Some d → IsWished v.history m o d
about_wished v m o (Enrols e) c d body q deal = inl (enrol_wished v m o e c d body q deal)
about_wished v m o (Confirms f) c d body q deal = confirm_wished v (sent m o) f c d _ q deal
about_wished v m o (Polls p) c d body q deal = inr (poll_wished v m o p c d body q deal)
about_wished v m o (Withdraws a) c d body q deal = withdraw_wished v (sent m o) a c d _ q deal
about_wished v m o (Nests count) c d body q deal = refused _ (sent m o).to c _ q
about_wished v m o OtherBody c d body q deal = refused _ (sent m o).to c _ q
