-- The texts of times, each a function of its second (RFC 5280, 4.1.2.5), and the validity of a certificate. Days are counted by
-- the calendar of jiff_core. Both texts are those of cmp_time.
use Rattle.std.specs.Prelude.{ℕ, zero, suc, ◌+◌, ◌/◌, ◌%◌, ◌++◌, Bool, nat_le, List, if◌then◌else◌, pos}
use Rattle.jiff_core.specs.Calendar.{day_count}
use Rattle.der_base.specs.Element.{element}
use Rattle.cmp_time.specs.declared.moment.Moment.{Moment}
use Rattle.cmp_time.specs.Time.{utc_text, generalized_text}
use Rattle.x509_cert.specs.Validity.{time_tag}

-- the greatest number from 1 to a bound that passes a test, or 0 where none does
abbrev pub last_where : (ℕ → Bool) → ℕ → ℕ
last_where test zero = 0
last_where test (suc n) = if test (suc n) then suc n else last_where test n

-- the day of a second: days begin at midnight, and have 86,400 seconds
abbrev pub day_of : ℕ → ℕ
day_of t = day_count (pos 1970) 1 1 + t / 86_400

-- a date is not later than the day of this second
abbrev pub has_come : ℕ → ℕ → ℕ → ℕ → Bool
has_come t year month day = nat_le (day_count (pos year) month day) (day_of t)

-- the last year that has begun, its last month that has begun, and the last day of that month that has
unfoldable pub year_of : ℕ → ℕ
year_of t = last_where (λ year. has_come t year 1 1) 9999

unfoldable pub month_of : ℕ → ℕ
month_of t = last_where (λ month. has_come t (year_of t) month 1) 12

unfoldable pub date_of : ℕ → ℕ
date_of t = last_where (λ day. has_come t (year_of t) (month_of t) day) 31

-- the date and the time of day of a second after 1970 began, through the year 9999
abbrev pub moment_of : ℕ → Moment
moment_of t = record {
  year = year_of t;
  month = month_of t;
  day = date_of t;
  hour = t % 86_400 / 3600;
  minute = t % 86_400 / 60 % 60;
  second = t % 60;
}

-- YYYYMMDDhhmmssZ
abbrev pub generalized_of : ℕ → List ℕ
generalized_of t = generalized_text (moment_of t)

-- the text of a time in a certificate: YYMMDDhhmmssZ through 2049, and YYYYMMDDhhmmssZ later
abbrev pub time_text : ℕ → List ℕ
time_text t = if nat_le t 2_524_607_999 then utc_text (moment_of t) else generalized_of t

abbrev pub time_octets : ℕ → List ℕ
time_octets t = element (time_tag t) (time_text t)

-- what stands in the SEQUENCE of a validity: the first second and the last one
abbrev pub validity_octets : ℕ → ℕ → List ℕ
validity_octets from to = time_octets from ++ time_octets to
