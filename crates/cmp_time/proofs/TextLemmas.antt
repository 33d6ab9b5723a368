-- A text has one moment, and a second has a year within the range of its text.
use Rattle.std.proofs.Common.{◌≡◌, ℕ, ◌+◌, ◌/◌, ◌%◌, ◌<◌, ◌≤◌, List, refl, subst, arith, inl, inr, pos}
use Rattle.std.proofs.lemmas.Bool.{cases_order}
use Rattle.jiff_core.specs.Calendar.{IsCivilDate, day_count, days_of_years, days_of_months}
use Rattle.jiff_core.proofs.SignedLemmas.{signed_arith}
use Rattle.jiff_core.proofs.CalendarLemmas.{days_from_civil-day_count, day_count-lt_year, day_count-epoch, days_in_month_bounds}
use Rattle.cmp_time.specs.declared.moment.Moment.{Moment}
use Rattle.cmp_time.specs.Time.{IsMoment, IsClockLike, IsGeneralized, IsUtc, last_of, text_in_year, generalized_text, utc_text}

-- two digits stand for one number
two_digits_injective : (a b : ℕ) → a < 100 → b < 100 → 48 + a / 10 ≡ 48 + b / 10 → 48 + a % 10 ≡ 48 + b % 10 → a ≡ b
two_digits_injective a b ha hb tens ones = omega arith

-- a moment's parts behind the year have two digits
pub clock_like : (t : ℕ) (m : Moment) → IsMoment t m → IsClockLike m
clock_like t m h = record {
  month = omega (arith, h.real_date.1.1);
  day = omega (arith, h.real_date.2.1, days_in_month_bounds (pos m.year) m.month);
  hour = omega arith;
  minute = omega arith;
  second = omega arith;
}

abbrev moment : ℕ → ℕ → ℕ → ℕ → ℕ → ℕ → Moment
moment year month day hour minute second = record { year = year; month = month; day = day; hour = hour; minute = minute; second = second }

-- a moment is its parts
same_moment : (t : ℕ) (a b : Moment) → a.year ≡ b.year → a.month ≡ b.month → a.day ≡ b.day → a.hour ≡ b.hour → a.minute ≡ b.minute → a.second ≡ b.second → IsMoment t a → IsMoment t b
same_moment t a b year month day hour minute second h =
    subst (λ (x : ℕ). IsMoment t (moment b.year b.month b.day b.hour b.minute x)) second
    (subst (λ (x : ℕ). IsMoment t (moment b.year b.month b.day b.hour x a.second)) minute
    (subst (λ (x : ℕ). IsMoment t (moment b.year b.month b.day x a.minute a.second)) hour
    (subst (λ (x : ℕ). IsMoment t (moment b.year b.month x a.hour a.minute a.second)) day
    (subst (λ (x : ℕ). IsMoment t (moment b.year x a.day a.hour a.minute a.second)) month
    (subst (λ (x : ℕ). IsMoment t (moment x a.month a.day a.hour a.minute a.second)) year h)))))

-- the text behind the year, with the year, tells the moment
same_text : (t : ℕ) (a b : Moment) → IsClockLike b → a.year ≡ b.year → text_in_year a ≡ text_in_year b → IsMoment t a → IsMoment t b
same_text t a b like year e h =
    let is : IsClockLike a = clock_like t a h in
    same_moment t a b year
    (two_digits_injective _ _ is.month like.month (cc) (cc))
    (two_digits_injective _ _ is.day like.day (cc) (cc))
    (two_digits_injective _ _ is.hour like.hour (cc) (cc))
    (two_digits_injective _ _ is.minute like.minute (cc) (cc))
    (two_digits_injective _ _ is.second like.second (cc) (cc))
    h

-- the days before the first of 2050
days_before_2050 : day_count (pos 2049) 12 31 ≡ 4_401_172
unfolding day_count days_of_years days_of_months
days_before_2050 = refl

-- the last day of 2049
last_is_date : IsCivilDate (pos 2049) 12 31
last_is_date = ((omega (arith, signed_arith), omega (arith, signed_arith)), (omega arith, omega arith), (omega arith, omega arith))

-- the last seconds of 2049 and of 9999
pub last_utc : IsMoment 2_524_607_999 (last_of 2049)
last_utc = record {
  days = 29_219;
  real_date = last_is_date;
  real_hour = omega arith;
  real_minute = omega arith;
  real_second = omega arith;
  days_since = omega (arith, signed_arith, days_from_civil-day_count (pos 2049) 12 31, days_before_2050);
  seconds_since = refl;
}

days_before_10000 : day_count (pos 9999) 12 31 ≡ 7_304_849
unfolding day_count days_of_years days_of_months
days_before_10000 = refl

pub last_generalized : IsMoment 253_402_300_799 (last_of 9999)
last_generalized = record {
  days = 2_932_896;
  real_date = ((omega (arith, signed_arith), omega (arith, signed_arith)), (omega arith, omega arith), (omega arith, omega arith));
  real_hour = omega arith;
  real_minute = omega arith;
  real_second = omega arith;
  days_since = omega (arith, signed_arith, days_from_civil-day_count (pos 9999) 12 31, days_before_10000);
  seconds_since = refl;
}

-- moments are from 1970 on
pub year_from : (t : ℕ) (m : Moment) → IsMoment t m → 1970 ≤ m.year
year_from t m h =
    elim (cases_order m.year 1970) [
      | inr (inl lt) ↦ absurd (omega (arith, signed_arith, h.days_since, days_from_civil-day_count (pos m.year) m.month m.day, day_count-epoch, day_count-lt_year _ _ _ (pos 1970) 1 1 h.real_date (omega arith) (omega (arith, signed_arith))))
      | inl e ↦ omega arith
      | inr (inr gt) ↦ omega arith
    ]

-- and before 2050 where they are not after its last second
pub year_before : (t : ℕ) (m : Moment) → IsMoment t m → t ≤ 2_524_607_999 → m.year < 2050
year_before t m h last =
    elim (cases_order 2049 m.year) [
      | inr (inl lt) ↦ absurd (omega (arith, signed_arith, h.days_since, days_from_civil-day_count (pos m.year) m.month m.day, days_before_2050, day_count-lt_year (pos 2049) 12 31 (pos m.year) m.month m.day last_is_date h.real_date.2.0 (omega (arith, signed_arith))))
      | inl e ↦ omega arith
      | inr (inr gt) ↦ omega arith
    ]

-- a GeneralizedTime that spells a moment is the time of that moment alone
pub generalized_again : (text : List ℕ) (t : ℕ) (m : Moment) → IsClockLike m → m.year < 10_000 → text ≡ generalized_text m → IsGeneralized text t → IsMoment t m
generalized_again text t m like small e (a, moment, spelled) =
    let high : a.year / 100 ≡ m.year / 100 = two_digits_injective _ _ (omega (arith, signed_arith, moment.real_date.0.1)) (omega arith) (cc) (cc) in
    let low : a.year % 100 ≡ m.year % 100 = two_digits_injective _ _ (omega arith) (omega arith) (cc) (cc) in
    same_text t a m like (omega arith) (cc) moment

-- and so is a UTCTime
pub utc_again : (text : List ℕ) (t : ℕ) (m : Moment) → IsClockLike m → 1950 ≤ m.year → m.year < 2050 → text ≡ utc_text m → IsUtc text t → IsMoment t m
utc_again text t m like low high e (a, moment, before, spelled) =
    let within : a.year % 100 ≡ m.year % 100 = two_digits_injective _ _ (omega arith) (omega arith) (cc) (cc) in
    let after : 1970 ≤ a.year = year_from t a moment in
    same_text t a m like (omega arith) (cc) moment
