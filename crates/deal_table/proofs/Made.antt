-- Where a change is made, no row applied.
use Rattle.std.proofs.Common.{◌≡◌, ℕ, Bool, true, false, not, ◌||◌, cond, List, [], ◌∷◌, Option, Some, None, refl}
use Rattle.std.specs.List.{list_any}
use Rattle.deal_changes.specs.declared.change.Change.{Change}
use Rattle.deal_model.specs.declared.states.Owner.{Owner}
use Rattle.deal_model.specs.declared.states.Standing.{Standing}
use Rattle.deal_model.specs.declared.states.Standing.TheVariants.{Unknown, OtherKind, Barred, Good}
use Rattle.deal_model.specs.Views.{History}
use Rattle.cmp_values.specs.declared.fail_info.FailInfo.{FailInfo}
use Rattle.deal_table.specs.History.{skew_of, place_of_digest, event_time}
use Rattle.deal_table.specs.Message.{is_nested, Facts, Letter, subject_of}
use Rattle.deal_table.specs.Table.{Row, To, Decision, Makes, Repeats, Refuses, Event, unless, pass, bare, guarded, known, protection_rows, check_rows, time_rows, standing_now, trusted, form_rows, header_rows, served_rows, wrap_rows, about, repeated, passed, read, opened, decision}

no_refusal : (fail : FailInfo) (to : To) (c : Change) (P : Type 0) → Refuses fail to ≡ Makes c → P
no_refusal fail to c P e = absurd cc

pub unless_makes : (to : To) (rows : List Row) (d : Decision) (c : Change) → unless to rows d ≡ Makes c → (pass rows ≡ true) × (d ≡ Makes c)
unless_makes to [] d c e = (refl, e)
unless_makes to (row ∷ rows) d c e = elim row.applies as (λ v. cond v (Refuses row.fail to) (unless to rows d) ≡ Makes c → (not (v || list_any (λ r. r.applies) rows) ≡ true) × (d ≡ Makes c)) [
  | true ↦ λ q. no_refusal row.fail to c _ q
  | false ↦ λ q. unless_makes to rows d c q
] e

-- a sender is good, and what is decided next makes the change
abbrev pub MakesBy : Standing → (Owner → Decision) → Change → Type 0
MakesBy s next c = (o : Owner) × (s ≡ Good o.who o.key o.rights) × (next o ≡ Makes c)

known_makes : (to : To) (s : Standing) (next : Owner → Decision) (c : Change) → known to s next ≡ Makes c → MakesBy s next c
known_makes to Unknown next c e = no_refusal _ _ _ _ e
known_makes to OtherKind next c e = no_refusal _ _ _ _ e
known_makes to Barred next c e = no_refusal _ _ _ _ e
known_makes to (Good who key rights) next c e = (record { who = who; key = key; rights = rights }, refl, e)

trusted_makes : (h : History) (t : ℕ) (outer : Bool) (m : Facts) (next : Owner → Decision) (c : Change) → trusted h t outer m next ≡ Makes c → MakesBy (standing_now h t m) next c
trusted_makes h t outer m next c e =
    let known_by = known_makes (bare outer) (standing_now h t m) _ c (unless_makes (bare outer) (protection_rows m) _ c e).1 in
    let checked = unless_makes (bare outer) (check_rows m known_by.0) _ c known_by.2 in
    (known_by.0, known_by.1, (unless_makes (guarded outer m known_by.0) (time_rows m (skew_of h) t) _ c checked.1).1)

repeated_makes : (found : Option ℕ) (d : Decision) (c : Change) → repeated found d ≡ Makes c → (found ≡ None) × (d ≡ Makes c)
repeated_makes (Some place) d c e = absurd (let f : Repeats place ≡ Makes c = e in cc)
repeated_makes None d c e = (refl, e)

-- the change is made by a message in form that is new, of a sender that is good
pub record IsMade (v : Event) (m : Facts) (c : Change) : Type 0 where
  pub header : pass (header_rows m.header) ≡ true
  pub fresh : place_of_digest v.history m.digest ≡ None
  pub owner : Owner
  pub good : standing_now v.history v.time m ≡ Good owner.who owner.key owner.rights
  pub by : about v (record { to = guarded false m owner; digest = m.digest; header = m.header; owner = owner }) m.body ≡ Makes c

passed_makes : (v : Event) (m : Facts) (c : Change) → pass (header_rows m.header) ≡ true → passed v m ≡ Makes c → IsMade v m c
passed_makes v m c head e =
    let unseen = repeated_makes (place_of_digest v.history m.digest) _ c e in
    let trusted_by = trusted_makes v.history v.time false m _ c (unless_makes (bare false) (served_rows m) _ c unseen.1).1 in
    record { header = head; fresh = unseen.0; owner = trusted_by.0; good = trusted_by.1; by = trusted_by.2 }

read_makes : (unreadable to : To) (m : Facts) (d : Decision) (c : Change) → read unreadable to m d ≡ Makes c → (pass (header_rows m.header) ≡ true) × (d ≡ Makes c)
read_makes unreadable to m d c e = unless_makes to (header_rows m.header) d c (unless_makes unreadable (form_rows m) _ c e).1

pub decision_makes : (h : History) (l : Letter) (now : ℕ) (w : List ℕ) (c : Change) → decision h l now w ≡ Makes c → IsMade (record { history = h; time = event_time h now; words = w }) (subject_of l) c
decision_makes h l now w c e =
    let v : Event = record { history = h; time = event_time h now; words = w } in
    let outer = read_makes (bare false) (bare (is_nested l.message.body)) l.message (opened v l) c e in
    let inside : Owner → Decision = λ o. unless (guarded true l.message o) (wrap_rows l.message o) (read (guarded true l.message o) (bare false) l.inner (passed v l.inner)) in
    elim (is_nested l.message.body) as (λ b. cond b (trusted h (event_time h now) true l.message inside) (passed v l.message) ≡ Makes c → IsMade v (cond b l.inner l.message) c) [
      | true ↦ λ q.
          let by = trusted_makes h (event_time h now) true l.message inside c q in
          let inner = read_makes (guarded true l.message by.0) (bare false) l.inner (passed v l.inner) c (unless_makes (guarded true l.message by.0) (wrap_rows l.message by.0) _ c by.2).1 in
          passed_makes v l.inner c inner.0 inner.1
      | false ↦ λ q. passed_makes v l.message c outer.0 q
    ] outer.1
