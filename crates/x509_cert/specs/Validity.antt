-- The validity of a certificate (RFC 5280, 4.1.2.5).
use Rattle.std.specs.Prelude.{◌≡◌, ℕ, ◌++◌, nat_le, if◌then◌else◌, List}
use Rattle.der_base.specs.Element.{element}
use Rattle.der_base.specs.Reading.{part}
use Rattle.asn_types.specs.Time.{IsTime}

-- The tag of a time: that of UTCTime through the last second of 2049, and that of GeneralizedTime later.
abbrev pub time_tag : ℕ → ℕ
time_tag t = if nat_le t 2_524_607_999 then 0x17 else 0x18

-- The text, under the tag that the second has, is its time.
abbrev pub IsTimeText : ℕ → List ℕ → Type 0
IsTimeText t text = IsTime (part (time_tag t) text) t

-- Validity: the first second and the last one, each in the form that its year has
pub record IsValidity (content : List ℕ) (from to : ℕ) : Type 0 where
  pub first : List ℕ
  pub last : List ℕ
  pub begins : IsTimeText from first
  pub ends : IsTimeText to last
  pub parts : content ≡ element (time_tag from) first ++ element (time_tag to) last
