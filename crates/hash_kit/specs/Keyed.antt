-- What the kept states of a key hold. No public clause reads these words.
use Rattle.std.specs.Prelude.{ℕ, List, map, bit_xor}
use Rattle.hash_kit.specs.Hmac.{pad}
use Rattle.hash_kit.specs.declared.keyed.Keyed.{Keyed}
use Rattle.sha2.specs.Hashers.{Holds256}

-- a block, each octet of it combined with this one
abbrev pub padded : ℕ → List ℕ → List ℕ
padded octet block = map (λ b. bit_xor b octet) block

-- both states have taken the key's block with its pad, and nothing more
pub record HasKey (keyed : Keyed) (key : List ℕ) : Type 0 where
  pub inner : Holds256 keyed.inner (pad 0x36 key)
  pub outer : Holds256 keyed.outer (pad 0x5C key)
