-- The MAC of PBMAC1 (RFC 8018, 7.1) with PBKDF2 and HMAC-SHA-256.
use Rattle.std.specs.Prelude.{◌≡◌, ℕ, List}
use Rattle.hash_kit.specs.Hmac.{hmac}
use Rattle.hash_kit.specs.Pbkdf2.{pbkdf2}
use Rattle.pbmac.specs.declared.params.MacParams.{MacParams}

-- HMAC of the text under the key that PBKDF2 derives from the secret
abbrev pub mac_of : List ℕ → MacParams → List ℕ → List ℕ
mac_of secret p text = hmac (pbkdf2 secret p.salt p.rounds) text

-- The MAC is that of the text, all its octets.
abbrev pub MacOk : List ℕ → MacParams → List ℕ → List ℕ → Type 0
MacOk secret p text mac = mac ≡ mac_of secret p text
