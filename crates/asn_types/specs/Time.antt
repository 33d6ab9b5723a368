-- The times of certificates (RFC 5280, 4.1.2.5).
use Rattle.std.specs.Prelude.{◌≡◌, ℕ, ◌⊎◌}
use Rattle.der_base.specs.Reading.{Part}
use Rattle.cmp_time.specs.Time.{IsUtc, IsGeneralized}

-- Time: the element is the UTCTime or the GeneralizedTime of this second
abbrev pub IsTime : Part → ℕ → Type 0
IsTime p t = ((p.tag ≡ 0x17) × IsUtc p.content t) ⊎ ((p.tag ≡ 0x18) × IsGeneralized p.content t)
