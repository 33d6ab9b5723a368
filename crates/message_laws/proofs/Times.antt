-- A text is the time of one second.
use Rattle.std.proofs.Common.{◌≡◌, ℕ, ◌+◌, ◌*◌, ◌/◌, ◌%◌, List, Option, Some, None, refl, sym, ap, subst, ◌∙◌, arith, pos}
use Rattle.cmp_time.specs.declared.moment.Moment.{Moment}
use Rattle.cmp_time.specs.Time.{IsMoment, generalized_text}
use Rattle.pki_header.specs.Time.{IsTimeOf}
use Rattle.message_laws.specs.One.{TextIsOneTime}

-- two digits stand for one number
digits_are_one : (a b : ℕ) → 48 + a / 10 ≡ 48 + b / 10 → 48 + a % 10 ≡ 48 + b % 10 → a ≡ b
digits_are_one a b tens ones = omega arith

year_is_one : (a b : ℕ) → a / 100 ≡ b / 100 → a % 100 ≡ b % 100 → a ≡ b
year_is_one a b high low = omega arith

of_parts : ℕ → ℕ → ℕ → ℕ → ℕ → ℕ → Moment
of_parts year month day hour minute second = record { year = year; month = month; day = day; hour = hour; minute = minute; second = second }

same_parts : (y m d h n s year month day hour minute second : ℕ) → y ≡ year → m ≡ month → d ≡ day → h ≡ hour → n ≡ minute → s ≡ second → of_parts y m d h n s ≡ of_parts year month day hour minute second
same_parts y m d h n s year month day hour minute second a b c e f g = cc

moment_is : (a b : Moment) → a.year ≡ b.year → a.month ≡ b.month → a.day ≡ b.day → a.hour ≡ b.hour → a.minute ≡ b.minute → a.second ≡ b.second → a ≡ b
unfolding of_parts
moment_is a b year month day hour minute second = same_parts a.year a.month a.day a.hour a.minute a.second b.year b.month b.day b.hour b.minute b.second year month day hour minute second

-- a text spells one moment
moments_are_one : (a b : Moment) → generalized_text a ≡ generalized_text b → a ≡ b
moments_are_one a b e =
    moment_is a b
    (year_is_one a.year b.year (digits_are_one (a.year / 100) (b.year / 100) (cc) (cc)) (digits_are_one (a.year % 100) (b.year % 100) (cc) (cc)))
    (digits_are_one a.month b.month (cc) (cc))
    (digits_are_one a.day b.day (cc) (cc))
    (digits_are_one a.hour b.hour (cc) (cc))
    (digits_are_one a.minute b.minute (cc) (cc))
    (digits_are_one a.second b.second (cc) (cc))

-- a moment is that of one second
same_days : (c d : ℕ) → pos c ≡ pos d → c ≡ d
same_days c d e = cc

seconds_are_one : (s t : ℕ) (m : Moment) → IsMoment s m → IsMoment t m → s ≡ t
seconds_are_one s t m a b =
    let days : a.days ≡ b.days = same_days a.days b.days (sym a.days_since ∙ b.days_since) in
    a.seconds_since ∙ ap (λ (n : ℕ). n * 86_400 + (m.hour * 3600 + m.minute * 60 + m.second)) days ∙ sym b.seconds_since

pub text_is_one_time : TextIsOneTime
text_is_one_time text s t (m, is_m, spells_m) (n, is_n, spells_n) =
    seconds_are_one s t n (subst (IsMoment s) (moments_are_one m n (sym spells_m ∙ spells_n)) is_m) is_n

-- and where it may be left out
pub time_is_one : (text : Option (List ℕ)) (s t : Option ℕ) → IsTimeOf text s → IsTimeOf text t → s ≡ t
time_is_one None None None a b = refl
time_is_one None None (Some t) a b = absurd b
time_is_one None (Some s) t a b = absurd a
time_is_one (Some text) None t a b = absurd a
time_is_one (Some text) (Some s) None a b = absurd b
time_is_one (Some text) (Some s) (Some t) a b = ap Some (text_is_one_time text s t a b)
