-- A day number from 0 on has a date from 1970 on, and with the seconds of its day it is a moment.
use Rattle.std.proofs.Common.{◌≡◌, ℕ, ◌/◌, ◌%◌, ◌≤◌, ◌+ℤ◌, Result, Ok, Err, IsOk, refl, sym, ap, subst, ◌∙◌, arith, ℤ, pos, negsuc, ◌≤ℤ◌, unsigned_abs}
use Rattle.std.proofs.lemmas.Int.{by_lt_z}
use Rattle.jiff_core.specs.declared.civil.date.Date.{Date}
use Rattle.jiff_core.specs.Calendar.{IsCivilDate, IsEpochDay, days_from_civil}
use Rattle.jiff_core.specs.Date.{epoch_day, IsYmd}
use Rattle.jiff_core.proofs.SignedLemmas.{signed_arith}
use Rattle.jiff_core.proofs.CalendarLemmas.{days_from_civil-day_count, day_count-lt_year, day_count-epoch}
use Rattle.jiff_core.proofs.DateLemmas.{civil}
use Rattle.cmp_time.specs.Time.{IsMoment}

-- the number of the first of 1970, from which days are counted
epoch_number : days_from_civil (pos 1970) 1 1 ≡ pos 0
epoch_number = omega (arith, signed_arith, days_from_civil-day_count (pos 1970) 1 1, day_count-epoch)

pub epoch_is : (d : Date) → IsYmd (pos 1970) (pos 1) (pos 1) d → epoch_day d ≡ pos 0
epoch_is d (year, month, day) =
    let m : d.month ≡ 1 = ap unsigned_abs month in
    let n : d.day ≡ 1 = ap unsigned_abs day in
    ap (λ (y : ℤ). days_from_civil y d.month d.day) year ∙ ap (λ (k : ℕ). days_from_civil (pos 1970) k d.day) m ∙ ap (days_from_civil (pos 1970) 1) n ∙ epoch_number

-- a sum with it is the number of days, which the calendar has
pub days_after : (e n : ℤ) (days : ℕ) → e ≡ pos 0 → n ≡ pos days → e +ℤ n ≡ pos days
days_after e n days a b = omega (arith, signed_arith)

pub in_calendar : (e n : ℤ) (days : ℕ) → e ≡ pos 0 → n ≡ pos days → days ≤ 2_932_896 → IsEpochDay (e +ℤ n)
in_calendar e n days a b h = (omega (arith, signed_arith), omega (arith, signed_arith))

pub ok_not_err : {A E : Type 0} (r : Result A E) (e : E) → IsOk r → r ≡ Err e → ⊥
ok_not_err (Ok x) e ok is = let k = is in cc
ok_not_err (Err f) e ok is = let k = ok in cc

-- a date that isn't before the first of 1970 has a year from 1970 on
pub since_epoch : (d : Date) (n : ℕ) → epoch_day d ≡ pos n → pos 1970 ≤ℤ d.year
since_epoch d n e =
    by_lt_z d.year (pos 1970)
    (λ lt. absurd (omega (arith, signed_arith, days_from_civil-day_count, day_count-epoch, day_count-lt_year _ _ _ (pos 1970) 1 1 (civil d) (omega arith) lt)))
    (λ ge. ge)

-- a number from 1970 on is its own absolute value
unsigned_abs_from : (z : ℤ) → pos 1970 ≤ℤ z → pos (unsigned_abs z) ≡ z
unsigned_abs_from (pos n) h = refl
unsigned_abs_from (negsuc n) h = absurd (omega (arith, signed_arith))

-- the date of a second's day, with the time of day that is left, is its moment
pub moment_at : (t : ℕ) (d : Date) (y : ℕ) → epoch_day d ≡ pos (t / 86400) → y ≡ unsigned_abs d.year
    → IsMoment t (record { year = y; month = d.month; day = d.day; hour = t % 86400 / 3600; minute = t % 86400 / 60 % 60; second = t % 86400 % 60 })
moment_at t d y e h =
    let year : pos y ≡ d.year = rw h (unsigned_abs_from d.year (since_epoch d (t / 86400) e)) in
    record {
      days = t / 86400;
      real_date = subst (λ (z : ℤ). IsCivilDate z d.month d.day) (sym year) (civil d);
      real_hour = omega arith;
      real_minute = omega arith;
      real_second = omega arith;
      days_since = subst (λ (z : ℤ). days_from_civil z d.month d.day ≡ pos (t / 86400)) (sym year) e;
      seconds_since = omega arith;
    }

-- and so it is with parts that are the date's
pub moment_from : (t : ℕ) (d : Date) (y m n : ℕ) → epoch_day d ≡ pos (t / 86400) → y ≡ unsigned_abs d.year → m ≡ d.month → n ≡ d.day
    → IsMoment t (record { year = y; month = m; day = n; hour = t % 86400 / 3600; minute = t % 86400 / 60 % 60; second = t % 86400 % 60 })
moment_from t d y m n e h month day =
    subst (λ (k : ℕ). IsMoment t (record { year = y; month = k; day = n; hour = t % 86400 / 3600; minute = t % 86400 / 60 % 60; second = t % 86400 % 60 })) (sym month)
    (subst (λ (k : ℕ). IsMoment t (record { year = y; month = d.month; day = k; hour = t % 86400 / 3600; minute = t % 86400 / 60 % 60; second = t % 86400 % 60 })) (sym day)
    (moment_at t d y e h))
