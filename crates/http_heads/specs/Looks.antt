-- What the octets that came so far hold, whatever follows them.
use Rattle.std.specs.Prelude.{◌≡◌, ℕ, ◌≤◌, ◌<◌, List, ◌++◌, length, drop, None}
use Rattle.httparse.specs.Grammar.{RequestHead, HasNoRequest}
use Rattle.http_heads.specs.declared.look.Asked.{Asked}
use Rattle.http_heads.specs.declared.look.Look.{Look}
use Rattle.http_heads.specs.declared.look.Look.TheVariants.{More, Refused, Served}
use Rattle.http_heads.specs.Heads.{IsHead, why_not, body_length, asks_end}
use Rattle.http_heads.specs.Requests.{IsRejected}

-- a head that is served, how long it is, and what it asks for
pub record IsServedHead (bytes : List ℕ) (a : Asked) : Type 0 where
  pub head : RequestHead
  pub begins : IsHead bytes head (drop a.head bytes)
  pub within : a.head ≤ length bytes
  pub served : why_not head ≡ None
  pub body : a.body ≡ body_length head
  pub asks : a.asks ≡ asks_end head

-- a head that is served, a request that is turned away, or no head yet, for which there is room
abbrev pub IsLook : List ℕ → Look → Type 0
IsLook bytes (Served a) = IsServedHead bytes a
IsLook bytes (Refused status) = (more : List ℕ) → IsRejected (bytes ++ more) status
IsLook bytes More = HasNoRequest bytes × (length bytes < 8192)
