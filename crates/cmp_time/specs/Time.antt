-- Times to the second in UTC, and their texts (RFC 5280, 4.1.2.5; X.690, 11.7 and 11.8). There are no leap seconds and no
-- times before 1970.
use Rattle.std.specs.Prelude.{◌≡◌, ℕ, ◌+◌, ◌*◌, ◌/◌, ◌%◌, ◌<◌, ◌++◌, List, [], ◌∷◌, pos}
use Rattle.jiff_core.specs.Calendar.{IsCivilDate, days_from_civil}
use Rattle.cmp_time.specs.declared.moment.Moment.{Moment}
use Rattle.cmp_time.specs.Digits.{two_digits}

-- The date and the time of day, so many seconds after 1 January 1970 began: a date of the proleptic Gregorian calendar,
-- and days of 86,400 seconds.
pub record IsMoment (t : ℕ) (m : Moment) : Type 0 where
  pub days : ℕ
  pub real_date : IsCivilDate (pos m.year) m.month m.day
  pub real_hour : m.hour < 24
  pub real_minute : m.minute < 60
  pub real_second : m.second < 60
  pub days_since : days_from_civil (pos m.year) m.month m.day ≡ pos days
  pub seconds_since : t ≡ days * 86_400 + (m.hour * 3600 + m.minute * 60 + m.second)

-- the last second of a year
abbrev pub last_of : ℕ → Moment
last_of year = record { year = year; month = 12; day = 31; hour = 23; minute = 59; second = 59 }

-- the text behind the year: MMDDhhmmssZ
abbrev pub text_in_year : Moment → List ℕ
text_in_year m = two_digits m.month ++ (two_digits m.day ++ (two_digits m.hour ++ (two_digits m.minute ++ (two_digits m.second ++ 90 ∷ []))))

-- YYYYMMDDhhmmssZ (RFC 5280, 4.1.2.5.2)
abbrev pub generalized_text : Moment → List ℕ
generalized_text m = two_digits (m.year / 100) ++ (two_digits (m.year % 100) ++ text_in_year m)

-- YYMMDDhhmmssZ (RFC 5280, 4.1.2.5.1)
abbrev pub utc_text : Moment → List ℕ
utc_text m = two_digits (m.year % 100) ++ text_in_year m

-- The text is the GeneralizedTime of this second.
abbrev pub IsGeneralized : List ℕ → ℕ → Type 0
IsGeneralized text t = (m : Moment) × IsMoment t m × (text ≡ generalized_text m)

-- The text is the UTCTime of this second. It has times before 2050 alone: a year below 50 is 20YY, and one from 50 on is
-- 19YY.
abbrev pub IsUtc : List ℕ → ℕ → Type 0
IsUtc text t = (m : Moment) × IsMoment t m × (m.year < 2050) × (text ≡ utc_text m)

-- The parts behind the year have two digits each, as the calendar's and the clock's have.
pub record IsClockLike (m : Moment) : Type 0 where
  pub month : m.month < 100
  pub day : m.day < 100
  pub hour : m.hour < 100
  pub minute : m.minute < 100
  pub second : m.second < 100
