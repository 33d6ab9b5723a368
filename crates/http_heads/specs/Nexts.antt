-- What comes next.
use Rattle.std.specs.Prelude.{◌≡◌, ℕ, Bool, List, [], Option, IsSomeAnd, take, drop}
use Rattle.http_heads.specs.declared.next.Next.{Next}
use Rattle.http_heads.specs.declared.next.Next.TheVariants.{Request, Ended, Reject, ReadFault, NoMemory}
use Rattle.http_heads.specs.declared.look.Asked.{Asked}
use Rattle.http_heads.specs.Requests.{Posted, IsRequest, IsRejected}

-- a request and how it asks for the end
abbrev pub posted : List ℕ → Bool → Posted
posted body asks = record { body = body; asks = asks }

-- these octets hold this next, and then the rest: a request, their end, or what is turned away; the two others say nothing of them
abbrev pub IsNext : List ℕ → Option (List ℕ) → Next → Type 0
IsNext all rest (Request body asks) = IsSomeAnd rest (λ bytes. IsRequest all (posted body asks) bytes)
IsNext all rest Ended = all ≡ []
IsNext all rest (Reject status) = IsRejected all status
IsNext all rest ReadFault = Unit {0}
IsNext all rest NoMemory = Unit {0}

-- the body is taken from the front, where there is memory
abbrev pub IsTaken : List ℕ → List ℕ → Asked → Next → Type 0
IsTaken old new asked (Request body asks) = (body ≡ take asked.body old) × (new ≡ drop asked.body old) × (asks ≡ asked.asks)
IsTaken old new asked NoMemory = Unit {0}
IsTaken old new asked Ended = ⊥
IsTaken old new asked (Reject status) = ⊥
IsTaken old new asked ReadFault = ⊥
