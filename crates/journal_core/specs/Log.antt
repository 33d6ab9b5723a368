-- The log: an octet 1, seven octets of magic, and for each payload an octet 1, its length and its octets.
-- The octet 1 before the magic and before each length is a gate: what stands behind a gate counts only where it is 1.
use Rattle.std.specs.Prelude.{◌≡◌, ◌≢◌, ◌⊎◌, ℕ, ◌<◌, ◌^◌, ◌&&◌, ◌==◌, Bool, false, nat_le, List, [], ◌∷◌, ◌++◌, length, take, drop}
use Rattle.std.specs.List.{AllByRecursion}
use Rattle.std.specs.Int.{w32, to_be_bytes}

-- a payload behind its length, in four octets with the highest first
unfoldable pub framed : List ℕ → List ℕ
framed payload = to_be_bytes w32 (length payload) ++ payload

-- the payloads, each behind an open gate
abbrev pub records : List (List ℕ) → List ℕ
records [] = []
records (payload ∷ payloads) = 1 ∷ (framed payload ++ records payloads)

-- the log of these payloads
abbrev pub log_of : List ℕ → List (List ℕ) → List ℕ
log_of magic payloads = 1 ∷ (magic ++ records payloads)

-- the image goes on behind these octets with a closed gate
pub record ClosedAfter (front image : List ℕ) : Type 0 where
  pub gate : ℕ
  pub rest : List ℕ
  pub shut : gate ≢ 1
  pub parts : image ≡ front ++ gate ∷ rest

-- the payloads' lengths can be written in four octets
abbrev pub AreSmall : List (List ℕ) → Type 0
AreSmall payloads = AllByRecursion (λ (x : List ℕ). length x < 2 ^ 32) payloads

-- the image is the log of these payloads, and goes on with a closed gate
pub record Recovers (magic image : List ℕ) (payloads : List (List ℕ)) : Type 0 where
  pub small : AreSmall payloads
  pub closed : ClosedAfter (log_of magic payloads) image

-- the image recovers to these payloads, without this one behind them or with it
abbrev pub IsBeforeOrAfter : List ℕ → List (List ℕ) → List ℕ → List ℕ → Type 0
IsBeforeOrAfter magic payloads payload image = Recovers magic image payloads ⊎ Recovers magic image (payloads ++ payload ∷ [])

-- the image recovers to these payloads, and not to them with this one behind them
abbrev pub IsWithout : List ℕ → List (List ℕ) → List ℕ → List ℕ → Type 0
IsWithout magic payloads payload image = Recovers magic image payloads × (Recovers magic image (payloads ++ payload ∷ []) → ⊥)

-- the first octet is 1
abbrev pub is_open : List ℕ → Bool
is_open [] = false
is_open (gate ∷ rest) = gate == 1

-- a disk of this content is founded: nine octets at least, the first of them 1
abbrev pub is_founded : List ℕ → Bool
is_founded image = nat_le 9 (length image) && is_open image

-- a whole record and a gate behind it
pub record IsWhole (octets : List ℕ) : Type 0 where
  pub payload : List ℕ
  pub gate : ℕ
  pub more : List ℕ
  pub fits : length payload < 2 ^ 32
  pub parts : octets ≡ framed payload ++ gate ∷ more

-- behind a log an open gate stands at this offset, whose record doesn't lie whole in the image with a gate behind it
pub record IsBroken (magic image : List ℕ) (at : ℕ) : Type 0 where
  pub payloads : List (List ℕ)
  pub rest : List ℕ
  pub small : AreSmall payloads
  pub parts : image ≡ log_of magic payloads ++ 1 ∷ rest
  pub offset : at ≡ length (log_of magic payloads)
  pub broken : IsWhole rest → ⊥

-- the magic is another, or a record is broken
abbrev pub IsDamaged : List ℕ → List ℕ → ℕ → Type 0
IsDamaged magic image at = ((at ≡ 1) × (take 7 (drop 1 image) ≢ magic)) ⊎ IsBroken magic image at
