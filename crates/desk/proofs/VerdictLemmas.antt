-- How what is planned becomes a verdict, and what the verdict says of the message.
use Rattle.std.proofs.Common.{◌≡◌, inl, inr, ℕ, suc, ◌≤◌, Bool, true, List, [], ◌∷◌, ◌++◌, length, Option, Some, None, refl, sym, ◌∙◌, ap, subst, append_assoc, append-nil, length-append, arith}
use Rattle.std.specs.Prelude.{is_some, option_map, IsSome}
use Rattle.std.proofs.Math.Logic.{∥∥₁_elim}
use Rattle.std.proofs.Props.{props}
use Rattle.std.proofs.lemmas.Option.{none-some, same_Some}
use Rattle.deal_changes.specs.declared.change.Stamp.{Stamp}
use Rattle.deal_changes.specs.declared.change.Change.{Change}
use Rattle.deal_changes.specs.Times.{stamp_of, time_of_change}
use Rattle.deal_model.specs.declared.asking.Checked.{Checked}
use Rattle.deal_model.specs.Views.{History}
use Rattle.deal_model.specs.Rules.{Allowed, Legal}
use Rattle.deal_table.specs.History.{Receipted, Begins, name_of, event_time, receipt_of, receipt_at}
use Rattle.deal_table.specs.Message.{Letter, blind}
use Rattle.deal_table.specs.Table.{To, Makes, Repeats, Refuses, Asks, decision}
use Rattle.deal_table.specs.Carry.{rest, left, IsStale, FitsChecked, Carries, untold, HashIsTold, carried_to}
use Rattle.deal_table.proofs.Stays.{last_receipt}
use Rattle.deal_table.proofs.Sends.{left_sends, left_answers, left_stale}
use Rattle.deal_table.proofs.Allowed.{left_allowed}
use Rattle.desk.specs.declared.deciding.Plan.{Plan}
use Rattle.desk.specs.declared.deciding.Plan.TheVariants as plans
use Rattle.desk.specs.declared.verdict.Verdict.{Verdict}
use Rattle.desk.specs.declared.verdict.Verdict.TheVariants.{Done, Again, Refused, Stale, DiskFault, NoMemory}
use Rattle.desk.specs.Calls.{IsSame}
use Rattle.desk.specs.Verdicts.{IsMoment, IsReceipt, Decides, IsInTime, LeftMakes, IsLeft}
use Rattle.desk.specs.Plans.{WillHave, IsPlan, IsReady, IsPlanned, IsMade, IsFollowed}
use Rattle.desk.proofs.FitLemmas.{event_bound}
use Rattle.desk.proofs.PropLemmas.{allowed_prop}
use Rattle.desk.proofs.StampLemmas.{Stamped, HasReceipt, decision_stamped}

-- ---- what is left of a message

pub left_stamped : (h : History) (k : Checked) (now : ℕ) (w : List ℕ) (c : Change) → LeftMakes h k now w c → is_some (stamp_of c) ≡ true
left_stamped h k now w c e = subst (Stamped h) e (decision_stamped h (rest (name_of h) k) now w)

pub left_receipt : (h : History) (k : Checked) (now : ℕ) (w : List ℕ) (place : ℕ) → left h k now w ≡ Repeats place → HasReceipt h place
left_receipt h k now w place e = subst (Stamped h) e (decision_stamped h (rest (name_of h) k) now w)

left_may : {P : Type 0} (h : History) (k : Checked) (now : ℕ) (w : List ℕ) (c : Change) → ∥ Legal h × P ∥₁ → FitsChecked k → now ≤ 250000000000 → length w ≡ 32 → LeftMakes h k now w c → Allowed h c
left_may h k now w c t fits le long e = ∥∥₁_elim t (allowed_prop h c (left_stamped h k now w c e)) (λ l. (left_allowed h k now w c l.0 fits le long e).0)

number_prop : (m n : ℕ) → IsProp (m ≡ n)
number_prop m n = Prim.hlevel props

left_time : {P : Type 0} (h : History) (k : Checked) (now : ℕ) (w : List ℕ) (c : Change) → ∥ Legal h × P ∥₁ → FitsChecked k → now ≤ 250000000000 → length w ≡ 32 → LeftMakes h k now w c → time_of_change c ≡ event_time h now
left_time h k now w c t fits le long e = ∥∥₁_elim t (number_prop (time_of_change c) (event_time h now)) (λ l. (left_allowed h k now w c l.0 fits le long e).1)

-- ---- plans

pub plan_ready : {P : Type 0} (h : History) (k : Checked) (now : ℕ) (w : List ℕ) (plan : Plan) → ∥ Legal h × P ∥₁ → FitsChecked k → now ≤ 250000000000 → length w ≡ 32 → IsPlan h k now w plan → IsReady h plan
plan_ready h k now w (plans.Make c r) t fits le long p = left_may h k now w c t fits le long p.0
plan_ready h k now w (plans.Repeat r) t fits le long p = tt
plan_ready h k now w (plans.Refuse fail is_guarded to_outer) t fits le long p = tt
plan_ready h k now w (plans.Ask place) t fits le long p = tt

pub planned_makes : (h : History) (k : Checked) (now : ℕ) (w : List ℕ) (plan : Plan) (c : Change) → IsPlan h k now w plan → IsPlanned plan c → LeftMakes h k now w c
planned_makes h k now w (plans.Make made r) c p is = subst (LeftMakes h k now w) (sym is) p.0
planned_makes h k now w (plans.Repeat r) c p is = absurd is
planned_makes h k now w (plans.Refuse fail is_guarded to_outer) c p is = absurd is
planned_makes h k now w (plans.Ask place) c p is = absurd is

-- ---- receipts of what is made

mapped_from : (f : Stamp → Receipted) (o : Option Stamp) (r : Receipted) → option_map f o ≡ Some r → (s : Stamp) × (o ≡ Some s) × (f s ≡ r)
mapped_from f (Some s) r e = (s, refl, same_Some (f s) r e)
mapped_from f None r e = absurd (none-some r e)

pushed_length : (h : History) (c : Change) → length (h ++ c ∷ []) ≡ suc (length h)
pushed_length h c = omega (arith, length-append h (c ∷ []))

will_change : (h : History) (c : Change) (r : Receipted) → WillHave h c r → r.change ≡ c
will_change h c r e = let from = mapped_from (receipt_of (h ++ c ∷ []) (suc (length h)) c) (stamp_of c) r e in ap (λ (x : Receipted). x.change) (sym from.2)

behind_receipt : (h : History) (now : ℕ) (c : Change) (r : Receipted) → time_of_change c ≡ event_time h now → WillHave h c r → IsReceipt h (h ++ c ∷ []) now r
behind_receipt h now c r time e =
    let from = mapped_from (receipt_of (h ++ c ∷ []) (suc (length h)) c) (stamp_of c) r e in
    let change : r.change ≡ c = ap (λ (x : Receipted). x.change) (sym from.2) in
    let place : r.place ≡ suc (length h) = ap (λ (x : Receipted). x.place) (sym from.2) in
    let there : receipt_at (h ++ c ∷ []) (suc (length h)) ≡ Some r = last_receipt h c from.0 from.1 ∙ ap (λ (x : Receipted). Some x) from.2 in
    record {
      grown = ap (λ (x : Change). h ++ x ∷ []) (sym change);
      time = ap time_of_change change ∙ time;
      place = place ∙ sym (pushed_length h c);
      receipt = subst (λ (n : ℕ). receipt_at (h ++ c ∷ []) n ≡ Some r) (sym (pushed_length h c)) there;
    }

made_receipt : (h g : History) (now : ℕ) (c : Change) (r made : Receipted) → time_of_change c ≡ event_time h now → WillHave h c r → made ≡ r → g ≡ h ++ c ∷ [] → IsReceipt h g now made
made_receipt h g now c r made time e same grown = subst (λ (x : Receipted). IsReceipt h g now x) (sym same) (subst (λ (l : History). IsReceipt h l now r) (sym grown) (behind_receipt h now c r time e))

-- ---- verdicts of what is left

made_left : {P : Type 0} (h : History) (d : Option Change) (k : Checked) (now : ℕ) (w : List ℕ) (c : Change) (r : Receipted) (v : Verdict) (g : History) (e : Option Change) → ∥ Legal h × P ∥₁ → FitsChecked k → now ≤ 250000000000 → length w ≡ 32
    → LeftMakes h k now w c → WillHave h c r → IsMade h d c r v g e → IsLeft k now w h d v g e
made_left h d k now w c r (Done made) g e t fits le long makes will m = (
  makes ∙ ap Makes (sym (ap (λ (x : Receipted). x.change) m.0 ∙ will_change h c r will)),
  made_receipt h g now c r made (left_time h k now w c t fits le long makes) will m.0 m.1,
  m.2,
)
made_left h d k now w c r (Again again place time) g e t fits le long makes will m = absurd m
made_left h d k now w c r (Refused fail place time is_guarded to_outer) g e t fits le long makes will m = absurd m
made_left h d k now w c r (Stale place) g e t fits le long makes will m = absurd m
made_left h d k now w c r DiskFault g e t fits le long makes will m = (m.0, elim m.1 [ inl own ↦ inl (c, makes, own) | inr still ↦ inr still ])
made_left h d k now w c r NoMemory g e t fits le long makes will m = m

failed_left : (h : History) (d : Option Change) (k : Checked) (now : ℕ) (w : List ℕ) (v : Verdict) (g : History) (e : Option Change) → (v ≡ DiskFault) × IsSome d × IsSame h d g e → IsLeft k now w h d v g e
failed_left h d k now w v g e f = subst (λ (x : Verdict). IsLeft k now w h d x g e) (sym f.0) (f.2.0, inr (f.1, f.2.1))

pub followed_left : {P : Type 0} (h : History) (d : Option Change) (k : Checked) (now : ℕ) (w : List ℕ) (plan : Plan) (v : Verdict) (g : History) (e : Option Change) → ∥ Legal h × P ∥₁ → FitsChecked k → now ≤ 250000000000 → length w ≡ 32
    → IsPlan h k now w plan → IsFollowed h d now plan v g e → IsLeft k now w h d v g e
followed_left h d k now w (plans.Make c r) v g e t fits le long p f = made_left h d k now w c r v g e t fits le long p.0 p.1 f
followed_left h d k now w (plans.Repeat r) v g e t fits le long p f = elim f [
  | inl told ↦ subst (λ (x : Verdict). IsLeft k now w h d x g e) (sym told.0) (p.0, p.1, (refl, refl), told.1)
  | inr failed ↦ failed_left h d k now w v g e failed
]
followed_left h d k now w (plans.Refuse fail is_guarded to_outer) v g e t fits le long p f = elim f [
  | inl told ↦ subst (λ (x : Verdict). IsLeft k now w h d x g e) (sym told.0) (p, (refl, refl), told.1)
  | inr failed ↦ failed_left h d k now w v g e failed
]
followed_left h d k now w (plans.Ask place) v g e t fits le long p f = elim f [
  | inl told ↦ subst (λ (x : Verdict). IsLeft k now w h d x g e) (sym told.0) (p, told.1)
  | inr failed ↦ failed_left h d k now w v g e failed
]

pub left_in_time : {P : Type 0} (h : History) (d : Option Change) (k : Checked) (now : ℕ) (w : List ℕ) (v : Verdict) (g : History) (e : Option Change) → ∥ Legal h × P ∥₁ → now ≤ 250000000000 → IsLeft k now w h d v g e → IsInTime v
left_in_time h d k now w (Done r) g e t le f = let bound = event_bound h now t le in omega (arith, f.1.time, bound)
left_in_time h d k now w (Again r place time) g e t le f = let bound = event_bound h now t le in omega (arith, f.2.1, bound)
left_in_time h d k now w (Refused fail place time is_guarded to_outer) g e t le f = let bound = event_bound h now t le in omega (arith, f.1.1, bound)
left_in_time h d k now w (Stale place) g e t le f = tt
left_in_time h d k now w DiskFault g e t le f = tt
left_in_time h d k now w NoMemory g e t le f = tt

-- ---- verdicts of the message

pub begins_self : (h : History) → Begins h h
begins_self h = ([], sym (append-nil h))

begins_both : (a b c : History) → Begins a b → Begins b c → Begins a c
begins_both a b c first second = (first.0 ++ second.0, second.1 ∙ ap (λ (l : History). l ++ second.0) first.1 ∙ append_assoc a first.0 second.0)

pub left_decides : (l : Letter) (looked seen h : History) (d : Option Change) (k : Checked) (now : ℕ) (w : List ℕ) (v : Verdict) (g : History) (e : Option Change) → Begins looked seen → Begins seen h → Carries l (untold k) looked → HashIsTold l k seen
    → IsLeft k now w h d v g e → Decides l k h g now w v
left_decides l looked seen h d k now w (Done r) g e first second carries told f = record {
  before = h;
  begun = begins_self h;
  decided = left_answers l k looked seen h now w (Makes r.change) carries (begins_both looked seen h first second) told second f.0 tt;
  made = f.1;
}
left_decides l looked seen h d k now w (Again r place time) g e first second carries told f =
    let decided = left_answers l k looked seen h now w (Repeats r.place) carries (begins_both looked seen h first second) told second f.0 tt in
    subst (λ (x : History). (decision x l now w ≡ Repeats r.place) × (receipt_at x r.place ≡ Some r) × IsMoment x now place time) (sym f.3.0) (decided, f.1, f.2)
left_decides l looked seen h d k now w (Refused fail place time is_guarded to_outer) g e first second carries told f =
    let to = f.0.0 in
    let begins = begins_both looked seen h first second in
    let decided = left_answers l k looked seen h now w (Refuses fail to) carries begins told second f.0.1 tt in
    let sent : to ≡ carried_to k to.outer (is_some to.guard) = left_sends l k looked h now w fail to carries begins f.0.1 in
    let whole : to ≡ carried_to k to_outer is_guarded = sent ∙ ap (λ (b : Bool). carried_to k b (is_some to.guard)) f.0.2 ∙ ap (λ (b : Bool). carried_to k to_outer b) f.0.3 in
    subst (λ (x : History). (decision x l now w ≡ Refuses fail (carried_to k to_outer is_guarded)) × IsMoment x now place time) (sym f.2.0) (decided ∙ ap (λ (x : To). Refuses fail x) whole, f.1)
left_decides l looked seen h d k now w (Stale place) g e first second carries told f =
    let stale = left_stale l k looked seen h now w place carries (begins_both looked seen h first second) told second f.0 in
    subst (λ (x : History). (decision x (blind l) now w ≡ Asks place) × IsStale x k place) (sym f.1.0) stale
left_decides l looked seen h d k now w DiskFault g e first second carries told f = tt
left_decides l looked seen h d k now w NoMemory g e first second carries told f = tt
