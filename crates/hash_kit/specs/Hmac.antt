-- HMAC with SHA-256 (RFC 2104, section 2), on lists of octets: B is 64, L is 32, and H is SHA-256.
-- Truncated output (section 5) is left out.
use Rattle.std.specs.Prelude.{ℕ, List, ◌++◌, ◌-◌, length, map, replicate, bit_xor, nat_lt, if◌then◌else◌}
use Rattle.sha2.specs.Sha256.{sha256}

-- the key, or its digest where it has more octets than a block
abbrev pub short_key : List ℕ → List ℕ
short_key key = if nat_lt 64 (length key) then sha256 key else key

-- the key in a block of 64 octets, filled with zeros
abbrev pub key_block : List ℕ → List ℕ
key_block key = short_key key ++ replicate (64 - length (short_key key)) 0

-- K XOR opad, or K XOR ipad: the key's block, each octet combined with the pad's octet
unfoldable pub pad : ℕ → List ℕ → List ℕ
pad octet key = map (λ b. bit_xor b octet) (key_block key)

-- H(K XOR opad, H(K XOR ipad, text))
abbrev pub hmac : List ℕ → List ℕ → List ℕ
hmac key text = sha256 (pad 0x5C key ++ sha256 (pad 0x36 key ++ text))
