-- What is known of a message that a change is made of: whoever sent it, and whoever wrapped it, is good, and so is its protection.
use Rattle.std.proofs.Common.{◌≡◌, ℕ, Bool, true, false, cond, List, Option, Some, None, refl}
use Rattle.deal_changes.specs.declared.change.Change.{Change}
use Rattle.deal_model.specs.declared.states.Owner.{Owner}
use Rattle.deal_model.specs.declared.states.Standing.{Standing}
use Rattle.deal_model.specs.declared.states.Standing.TheVariants.{Unknown, OtherKind, Barred, Good}
use Rattle.deal_model.specs.Views.{History}
use Rattle.cmp_values.specs.declared.fail_info.FailInfo.{FailInfo}
use Rattle.deal_table.specs.History.{Deal, deal_in, skew_of, place_of_digest, event_time}
use Rattle.deal_table.specs.Message.{is_nested, Facts, Letter}
use Rattle.deal_table.specs.Table.{To, Decision, Makes, Repeats, Refuses, Event, unless, bare, guarded, known, protection_rows, check_rows, time_rows, standing_now, trusted, may_wrap, form_rows, header_rows, served_rows, wrap_rows, about, repeated, passed, read, opened, decision}
use Rattle.deal_table.proofs.Made.{unless_makes}
use Rattle.grant_laws.specs.Grants.{IsFrom, IsEarned}
use Rattle.deal_table.proofs.Rows.{false_true}
use Rattle.grant_laws.proofs.Wishes.{first_holds, sent, IsWished, about_wished}

-- ---- a sender

-- the sender is good, and what is decided next makes the change
abbrev MakesFor : Standing → (Owner → Decision) → Change → Type 0
MakesFor s next c = (o : Owner) × (s ≡ Good o.who o.key o.rights) × (next o ≡ Makes c)

refused : (fail : FailInfo) (to : To) (c : Change) (P : Type 0) → Refuses fail to ≡ Makes c → P
refused fail to c P e = absurd cc

known_makes : (to : To) (s : Standing) (next : Owner → Decision) (c : Change) → known to s next ≡ Makes c → MakesFor s next c
known_makes to Unknown next c e = refused _ _ _ _ e
known_makes to OtherKind next c e = refused _ _ _ _ e
known_makes to Barred next c e = refused _ _ _ _ e
known_makes to (Good who key rights) next c e = (record { who = who; key = key; rights = rights }, refl, e)

-- the message is somebody's, for whom what is decided next makes the change
abbrev ComesFrom : History → ℕ → Facts → (Owner → Decision) → Change → Type 0
ComesFrom h t m next c = (o : Owner) × IsFrom h t m o × (next o ≡ Makes c)

trusted_from : (h : History) (t : ℕ) (outer : Bool) (m : Facts) (next : Owner → Decision) (c : Change) → trusted h t outer m next ≡ Makes c → ComesFrom h t m next c
trusted_from h t outer m next c e =
    let protected = unless_makes (bare outer) (protection_rows m) _ c e in
    let by = known_makes (bare outer) (standing_now h t m) _ c protected.1 in
    let checked = unless_makes (bare outer) (check_rows m by.0) _ c by.2 in (
      by.0,
      record {
        protected = first_holds m.is_protected _ protected.0;
        good = by.1;
        verified = first_holds (m.verifies by.0.key) _ checked.0;
      },
      (unless_makes (guarded outer m by.0) (time_rows m (skew_of h) t) _ c checked.1).1,
    )

-- ---- a message, and the one around it

repeated_makes : (found : Option ℕ) (d : Decision) (c : Change) → repeated found d ≡ Makes c → d ≡ Makes c
repeated_makes (Some place) d c e = absurd (let f : Repeats place ≡ Makes c = e in cc)
repeated_makes None d c e = e

passed_from : (v : Event) (m : Facts) (c : Change) → passed v m ≡ Makes c → ComesFrom v.history v.time m (λ o. about v (sent m o) m.body) c
passed_from v m c e = trusted_from v.history v.time false m _ c (unless_makes (bare false) (served_rows m) _ c (repeated_makes (place_of_digest v.history m.digest) _ c e)).1

read_makes : (unreadable to : To) (m : Facts) (d : Decision) (c : Change) → read unreadable to m d ≡ Makes c → d ≡ Makes c
read_makes unreadable to m d c e = (unless_makes to (header_rows m.header) d c (unless_makes unreadable (form_rows m) _ c e).1).1

-- the message is somebody's, whom it earns this
abbrev Earns : History → ℕ → Facts → Deal → Type 0
Earns h t m d = (o : Owner) × IsFrom h t m o × IsWished h m o d

passed_earns : (v : Event) (m : Facts) (c : Change) (d : Deal) → passed v m ≡ Makes c → deal_in c ≡ Some d → Earns v.history v.time m d
passed_earns v m c d e deal =
    let from = passed_from v m c e in
    (from.0, from.1, about_wished v m from.0 m.body c d refl from.2 deal)

-- a message around it is somebody's who may wrap
abbrev IsWrapped : Bool → History → ℕ → Letter → Type 0
IsWrapped nested h t l = nested ≡ true → (o : Owner) × IsFrom h t l.message o × (may_wrap o ≡ true)

pub earned : (h : History) (l : Letter) (now : ℕ) (w : List ℕ) (c : Change) (d : Deal) → decision h l now w ≡ Makes c → deal_in c ≡ Some d → IsEarned h (event_time h now) l d
earned h l now w c d e deal =
    let t : ℕ = event_time h now in
    let v : Event = record { history = h; time = t; words = w } in
    let inside : Owner → Decision = λ o. unless (guarded true l.message o) (wrap_rows l.message o) (read (guarded true l.message o) (bare false) l.inner (passed v l.inner)) in
    let parts = elim (is_nested l.message.body) as (λ b. cond b (trusted h t true l.message inside) (passed v l.message) ≡ Makes c → Earns h t (cond b l.inner l.message) d × IsWrapped b h t l) [
      | true ↦ λ q.
          let by = trusted_from h t true l.message inside c q in
          let wrapped = unless_makes (guarded true l.message by.0) (wrap_rows l.message by.0) _ c by.2 in
          (passed_earns v l.inner c d (read_makes (guarded true l.message by.0) (bare false) l.inner _ c wrapped.1) deal, λ _. (by.0, by.1, first_holds (may_wrap by.0) _ wrapped.0))
      | false ↦ λ q. (passed_earns v l.message c d q deal, λ f. false_true _ f)
    ] (read_makes (bare false) (bare (is_nested l.message.body)) l.message (opened v l) c e) in
    record { owner = parts.0.0; from = parts.0.1; carried = parts.1; wished = parts.0.2 }
