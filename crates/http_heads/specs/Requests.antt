-- The requests of a stream (RFC 9112, 9.3), each with the octets of its body, and how they end.
use Rattle.std.specs.Prelude.{◌≡◌, ◌≢◌, ◌⊎◌, ℕ, ◌<◌, suc, Bool, true, false, List, [], ◌∷◌, ◌++◌, length, ◌==◌, if◌then◌else◌, Option, Some, None, MatchOption}
use Rattle.httparse.specs.Grammar.{RequestHead}
use Rattle.cmp_links.specs.declared.end.EndCause.{EndCause}
use Rattle.cmp_links.specs.declared.end.EndCause.TheVariants.{Closed, Asked, Rejected, Limit, ReadFault, WriteFault, Unanswered, NoMemory}
use Rattle.http_heads.specs.Heads.{IsHead, HasNoHead, why_not, body_length, asks_end}

-- what a request brings: its body, and whether it asks for the end of the session
pub record Posted : Type 0 where
  pub body : List ℕ
  pub asks : Bool

-- the octets are a request that is served, and then rest
pub record IsRequest (bytes : List ℕ) (r : Posted) (rest : List ℕ) : Type 0 where
  pub head : RequestHead
  pub behind : List ℕ
  pub begins : IsHead bytes head behind
  pub served : why_not head ≡ None
  pub content : behind ≡ r.body ++ rest
  pub whole : length r.body ≡ body_length head
  pub end_asked : r.asks ≡ asks_end head

-- the octets begin with a head whose request is turned away, or whose body is cut off (400)
pub record IsTurnedAway (bytes : List ℕ) (status : ℕ) : Type 0 where
  pub head : RequestHead
  pub behind : List ℕ
  pub begins : IsHead bytes head behind
  pub why : (why_not head ≡ Some status) ⊎ ((why_not head ≡ None) × (length behind < body_length head) × (status ≡ 400))

-- the octets are some, and begin with no request that is served: no head (400), or one that is turned away
abbrev pub IsRejected : List ℕ → ℕ → Type 0
IsRejected bytes status = ((bytes ≢ []) × HasNoHead bytes × (status ≡ 400)) ⊎ IsTurnedAway bytes status

-- how a session ends after a request of this number, where it does: it asked for it, or it was the thousandth
abbrev pub ending_after : ℕ → Bool → Option EndCause
ending_after number true = Some Asked
ending_after number false = if number == 1000 then Some Limit else None

-- how a session ends at octets behind which no request is served
abbrev pub IsLastly : List ℕ → EndCause → Type 0
IsLastly bytes Closed = bytes ≡ []
IsLastly bytes (Rejected status) = IsRejected bytes status
IsLastly bytes Asked = ⊥
IsLastly bytes Limit = ⊥
IsLastly bytes ReadFault = ⊥
IsLastly bytes WriteFault = ⊥
IsLastly bytes Unanswered = ⊥
IsLastly bytes NoMemory = ⊥

-- all requests of the octets, before which there were n, and how they end
abbrev pub AreRequests : ℕ → List ℕ → List Posted → EndCause → Type 0
AreRequests n bytes [] cause = IsLastly bytes cause
AreRequests n bytes (r ∷ rs) cause =
    (rest : List ℕ) × IsRequest bytes r rest
    × MatchOption (ending_after (suc n) r.asks) (AreRequests (suc n) rest rs cause) (λ c. (rs ≡ []) × (cause ≡ c))

-- the first requests of the octets, before which there were n, and what is behind them
abbrev pub AreFirst : ℕ → List ℕ → List Posted → List ℕ → Type 0
AreFirst n bytes [] rest = rest ≡ bytes
AreFirst n bytes (r ∷ rs) rest =
    (mid : List ℕ) × IsRequest bytes r mid × (rs ≢ [] → ending_after (suc n) r.asks ≡ None) × AreFirst (suc n) mid rs rest

-- these are the first of those
abbrev pub AreTheFirstOf : List Posted → List Posted → Type 0
AreTheFirstOf xs ys = (more : List Posted) × (ys ≡ xs ++ more)
