-- The text of a second is the one that the calendar gives it.
use Rattle.std.proofs.Common.{◌≡◌, ℕ, zero, suc, ◌/◌, ◌%◌, ◌<◌, ◌≤◌, ◌++◌, Bool, true, false, cond, List, sym, ap, subst, ◌∙◌, arith, inl, inr, pos}
use Rattle.std.specs.Prelude.{nat_le}
use Rattle.std.proofs.lemmas.Bool.{cases_order}
use Rattle.std.proofs.lemmas.Bool.Decides.{nat_tests}
use Rattle.jiff_core.specs.Calendar.{IsCivilDate, day_count}
use Rattle.jiff_core.proofs.SignedLemmas.{signed_arith}
use Rattle.jiff_core.proofs.CalendarLemmas.{days_from_civil-day_count, day_count-epoch, day_count-lt_year, day_count-lt_month, day_count-day, day_count-day_of_year, days_in_month_bounds}
use Rattle.der_base.specs.Element.{element}
use Rattle.der_base.specs.Reading.{part}
use Rattle.asn_types.specs.Time.{IsTime}
use Rattle.cmp_time.specs.declared.moment.Moment.{Moment}
use Rattle.cmp_time.specs.Time.{IsMoment, IsGeneralized, IsUtc, utc_text}
use Rattle.cmp_time.proofs.TextLemmas.{year_from}
use Rattle.x509_cert.specs.Cert.{tbs_octets}
use Rattle.x509_cert.specs.Plan.{planned, IsPlanned}
use Rattle.x509_cert.specs.Validity.{IsTimeText, IsValidity, time_tag}
use Rattle.x509_cert.specs.declared.plan.CertPlan.{CertPlan}
use Rattle.cert_maker.specs.Moments.{last_where, day_of, has_come, year_of, month_of, date_of, moment_of, generalized_of, time_text, validity_octets}
use Rattle.cert_maker.specs.Certificates.{plan_octets}

-- what passes, with nothing behind it that does, is the last
pub last_is : (test : ℕ → Bool) (n bound : ℕ) → 1 ≤ n → n ≤ bound → test n ≡ true → ((k : ℕ) → n < k → k ≤ bound → test k ≡ false) → last_where test bound ≡ n
last_is test n zero low high passes fails = absurd (omega arith)
last_is test n (suc b) low high passes fails =
    elim (cases_order n (suc b)) [
      | inl e ↦ let last : test (suc b) ≡ true = subst (λ (k : ℕ). test k ≡ true) e passes in rw last (sym e)
      | inr (inl lt) ↦ let none : test (suc b) ≡ false = fails (suc b) lt (omega arith) in rw none (last_is test n b low (omega arith) passes (λ k more most. fails k more (omega arith)))
      | inr (inr gt) ↦ absurd (omega arith)
    ]

-- the count of a moment's day
day_is : (t : ℕ) (m : Moment) → IsMoment t m → day_count (pos m.year) m.month m.day ≡ day_of t
day_is t m h =
    let days : t / 86_400 ≡ h.days = omega arith in
    omega (arith, signed_arith, h.days_since, days_from_civil-day_count (pos m.year) m.month m.day, day_count-epoch)

come : (t year month day : ℕ) → day_count (pos year) month day ≤ day_of t → has_come t year month day ≡ true
come t year month day h = grind (arith, nat_tests)

not_come : (t year month day : ℕ) → day_of t < day_count (pos year) month day → has_come t year month day ≡ false
not_come t year month day h = grind (arith, nat_tests)

year_is : (t : ℕ) (m : Moment) → IsMoment t m → year_of t ≡ m.year
unfolding year_of
year_is t m h =
    let day = day_is t m h in
    let date : IsCivilDate (pos m.year) m.month m.day = h.real_date in
    last_is (λ year. has_come t year 1 1) m.year 9999 (omega (arith, year_from t m h)) (omega (arith, signed_arith, date.0.1))
    (come t m.year 1 1 (omega (arith, day, day_count-day_of_year (pos m.year) m.month m.day date.2.0)))
    (λ k later bound. not_come t k 1 1 (omega (arith, day, day_count-lt_year (pos m.year) m.month m.day (pos k) 1 1 date (omega arith) (omega (arith, signed_arith)))))

month_is : (t : ℕ) (m : Moment) → IsMoment t m → month_of t ≡ m.month
unfolding month_of
month_is t m h =
    let day = day_is t m h in
    let date : IsCivilDate (pos m.year) m.month m.day = h.real_date in
    rw (year_is t m h) (
    last_is (λ month. has_come t m.year month 1) m.month 12 date.1.0 date.1.1
    (come t m.year m.month 1 (omega (arith, day, day_count-day (pos m.year) m.month m.day 1 date.2.0 (omega arith))))
    (λ k later bound. not_come t m.year k 1 (omega (arith, day, day_count-lt_month (pos m.year) m.month m.day k 1 date (omega arith) later)))
    )

date_is : (t : ℕ) (m : Moment) → IsMoment t m → date_of t ≡ m.day
unfolding date_of
date_is t m h =
    let day = day_is t m h in
    let date : IsCivilDate (pos m.year) m.month m.day = h.real_date in
    rw (year_is t m h, month_is t m h) (
    last_is (λ day. has_come t m.year m.month day) m.day 31 date.2.0 (omega (arith, date.2.1, days_in_month_bounds (pos m.year) m.month))
    (come t m.year m.month m.day (omega (arith, day)))
    (λ k later bound. not_come t m.year m.month k (omega (arith, day, day_count-day (pos m.year) m.month m.day k date.2.0 (omega arith))))
    )

hour_is : (t : ℕ) (m : Moment) → IsMoment t m → t % 86_400 / 3600 ≡ m.hour
hour_is t m h = omega (arith, h.seconds_since, h.real_hour, h.real_minute, h.real_second)

minute_is : (t : ℕ) (m : Moment) → IsMoment t m → t % 86_400 / 60 % 60 ≡ m.minute
minute_is t m h = omega (arith, h.seconds_since, h.real_hour, h.real_minute, h.real_second)

second_is : (t : ℕ) (m : Moment) → IsMoment t m → t % 60 ≡ m.second
second_is t m h = omega (arith, h.seconds_since, h.real_hour, h.real_minute, h.real_second)

pub generalized_is : (t : ℕ) (text : List ℕ) → IsGeneralized text t → text ≡ generalized_of t
generalized_is t text (m, h, spelled) =
    rw (year_is t m h, month_is t m h, date_is t m h, hour_is t m h, minute_is t m h, second_is t m h) spelled

pub utc_is : (t : ℕ) (text : List ℕ) → IsUtc text t → text ≡ utc_text (moment_of t)
utc_is t text (m, h, early, spelled) =
    rw (year_is t m h, month_is t m h, date_is t m h, hour_is t m h, minute_is t m h, second_is t m h) spelled

-- a text of the one form or the other, by the test
text_by : (t : ℕ) (text : List ℕ) (b : Bool) → IsTime (part (cond b 0x17 0x18) text) t → text ≡ cond b (utc_text (moment_of t)) (generalized_of t)
text_by t text true (inl u) = utc_is t text u.1
text_by t text true (inr g) = absurd (omega (arith, g.0))
text_by t text false (inl u) = absurd (omega (arith, u.0))
text_by t text false (inr g) = generalized_is t text g.1

pub text_is : (t : ℕ) (text : List ℕ) → IsTimeText t text → text ≡ time_text t
text_is t text h = text_by t text (nat_le t 2_524_607_999) h

pub validity_is : (content : List ℕ) (from to : ℕ) → IsValidity content from to → content ≡ validity_octets from to
validity_is content from to h =
    h.parts ∙ ap (λ (l : List ℕ). element (time_tag from) l ++ element (time_tag to) h.last) (text_is from h.first h.begins)
    ∙ ap (λ (l : List ℕ). element (time_tag from) (time_text from) ++ element (time_tag to) l) (text_is to h.last h.ends)

-- what is written of a plan is a function of it
pub planned_octets : (p : CertPlan) (octets : List ℕ) → IsPlanned p octets → octets ≡ plan_octets p
unfolding plan_octets
planned_octets p octets h = h.spelled ∙ ap (λ (l : List ℕ). tbs_octets (planned p l)) (validity_is h.validity p.not_before p.not_after h.dated)
