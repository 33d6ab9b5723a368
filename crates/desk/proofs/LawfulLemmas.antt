-- What a desk's lawful history shows.
use Rattle.std.proofs.Common.{◌≡◌, ◌≢◌, ℕ, suc, ◌+◌, ◌-◌, ◌<◌, ◌≤◌, ◌^◌, false, List, [], ◌∷◌, ◌++◌, length, get_or, refl, ◌∙◌, ap, arith, length-append}
use Rattle.std.specs.List.{AllByRecursion}
use Rattle.std.specs.Int.{w32, to_be_bytes}
use Rattle.std.specs.Prelude.{nat_le, nat_lt, ◌||◌, IsTrue, sum_by}
use Rattle.std.proofs.Math.Logic.{∥∥₁_elim}
use Rattle.std.proofs.Props.{props}
use Rattle.std.proofs.lemmas.List.{length-map}
use Rattle.std.proofs.lemmas.List.Sums.{sum_by-cons}
use Rattle.std.proofs.lemmas.Bool.{or_parts, leb-false, ltb-false}
use Rattle.journal_core.specs.Log.{framed, records, log_of}
use Rattle.journal_core.specs.Journal.{is_past_limit}
use Rattle.deal_changes.specs.declared.change.Change.{Change}
use Rattle.deal_changes.specs.declared.change.Change.TheVariants.{Found, Enlist, Dismiss, Grant, Hold, Release, Deny, Turned, Polled, Settled, Revoke, Lapse}
use Rattle.deal_changes.specs.Spelling.{spelling, IsChange, IsWriteable}
use Rattle.deal_changes.specs.Times.{time_of_change}
use Rattle.deal_model.specs.Views.{History, time_of, is_empty, AreTimely}
use Rattle.deal_model.specs.Rules.{size_of, log_size, Allowed, AllowedFrom, Legal}
use Rattle.desk.specs.Images.{magic, spellings}
use Rattle.desk.specs.Calls.{Fits, is_full}

timely_from : (before cs : List Change) → AllowedFrom before cs → AreTimely cs
timely_from before [] h = tt
timely_from before (c ∷ cs) h = (h.0.bounded, timely_from (before ++ c ∷ []) cs h.1)

forms_from : (before cs : List Change) → AllowedFrom before cs → AllByRecursion IsChange cs
forms_from before [] h = tt
forms_from before (c ∷ cs) h = (h.0.form, forms_from (before ++ c ∷ []) cs h.1)

pub forms_out : (h : History) → Legal h → AllByRecursion IsChange h
forms_out h l = forms_from [] h l.1

pub legal_timely : (h : History) → Legal h → AreTimely h
legal_timely h l = timely_from [] h l.1

bounded_from : (before cs : List Change) → length before ≤ 262144 → AllowedFrom before cs → length before + length cs ≤ 262144
bounded_from before [] le h = omega (arith, le)
bounded_from before (c ∷ cs) le h =
    let more : length (before ++ c ∷ []) ≡ length before + 1 = length-append before (c ∷ []) in
    omega (arith, more, bounded_from (before ++ c ∷ []) cs (omega (arith, more, h.0.room)) h.1)

pub legal_bounded : (h : History) → Legal h → length h ≤ 262144
legal_bounded h l = omega (arith, bounded_from [] h (omega arith) l.1)

timely_prop : (h : History) → IsProp (AreTimely h)
timely_prop h = Prim.hlevel props

pub timely_out : {P : Type 0} (h : History) → ∥ Legal h × P ∥₁ → AreTimely h
timely_out h t = ∥∥₁_elim t (timely_prop h) (λ l. timely_from [] h l.0.1)

some_left : (h : History) → h ≢ [] → is_empty h ≡ false
some_left [] some = absurd (some refl)
some_left (c ∷ h) some = refl

empty_prop : (h : History) → IsProp (is_empty h ≡ false)
empty_prop h = Prim.hlevel props

pub some_out : {P : Type 0} (h : History) → ∥ Legal h × P ∥₁ → is_empty h ≡ false
some_out h t = ∥∥₁_elim t (empty_prop h) (λ l. some_left h l.0.0)

pub time_bound : (h : History) → AreTimely h → time_of h ≤ 250000000000
time_bound [] t = omega arith
time_bound (c ∷ []) t = t.0
time_bound (c ∷ d ∷ h) t = time_bound (d ∷ h) t.1

pub writeable : (c : Change) → IsChange c → IsWriteable c
writeable (Found s) h = h.name
writeable (Enlist time list) h = h.1.0
writeable (Dismiss time w) h = tt
writeable (Grant s b w serial leaf) h = (h.0.sender, h.1.subject, h.1.spki, h.1.exts)
writeable (Hold s b w) h = (h.0.sender, h.1.subject, h.1.spki, h.1.exts)
writeable (Release time tid) h = tt
writeable (Deny time tid) h = tt
writeable (Turned s) h = h.sender
writeable (Polled s) h = h.sender
writeable (Settled s accepted) h = h.sender
writeable (Revoke s serial reason) h = h.0.sender
writeable (Lapse time tid) h = tt

-- ---- room

length-framed : (payload : List ℕ) → length (framed payload) ≡ 4 + length payload
unfolding framed
length-framed payload = omega (arith, length-append (to_be_bytes w32 (length payload)) payload)

length-records : (h : History) → length (records (spellings h)) ≡ sum_by size_of h
length-records [] = refl
length-records (c ∷ h) = omega (arith, length-append (framed (spelling c)) (records (spellings h)), length-framed (spelling c), length-records h, sum_by-cons size_of c h)

pub length-log : (h : History) → length (log_of magic (spellings h)) ≡ log_size h
length-log h = omega (arith, length-records h)

pub length-spellings : (h : History) → length (spellings h) ≡ length h
length-spellings h = length-map h spelling

pub is_past : (h : History) (c : Change) → is_past_limit (length (spellings h)) (length (log_of magic (spellings h))) (length (spelling c) + 5) ≡ is_full h c
is_past h c =
    let count = length-spellings h in
    let size = length-log h in
    let grown : length (log_of magic (spellings h)) + (length (spelling c) + 5) ≡ log_size h + size_of c = omega (arith, size) in
    ap (λ (n : ℕ). nat_le 262144 n || nat_lt 1073741824 (length (log_of magic (spellings h)) + (length (spelling c) + 5))) count ∙ ap (λ (n : ℕ). nat_le 262144 (length h) || nat_lt 1073741824 n) grown

-- a change too long for any log is too long for this one
pub too_long : (h : History) (c : Change) → 1073741824 < length (spelling c) → IsTrue (is_full h c)
too_long h c long = grind (arith)

-- what may come next and has room is allowed
pub allowed : (h : History) (c : Change) → Fits h c → is_full h c ≡ false → Allowed h c
allowed h c f room =
    let parts = or_parts (nat_le 262144 (length h)) (nat_lt (2 ^ 30) (log_size h + size_of c)) room in
    record { form = f.form; later = f.later; bounded = f.bounded; room = leb-false 262144 (length h) parts.0; size = ltb-false (2 ^ 30) (log_size h + size_of c) parts.1; opening = f.opening; holds = f.holds }

-- the time of the last change
pub last_time : (h : History) (d : Change) → 1 ≤ length h → time_of h ≡ time_of_change (get_or h (length h - 1) d)
last_time [] d le = absurd (omega arith)
last_time (c ∷ []) d le = refl
last_time (c ∷ e ∷ h) d le = let place : length (c ∷ e ∷ h) - 1 ≡ suc (length (e ∷ h) - 1) = omega arith in rw place (last_time (e ∷ h) d (omega arith))
