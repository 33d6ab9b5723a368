-- A session so far: the requests that were answered, behind which another may come.
use Rattle.std.specs.Prelude.{◌≡◌, ℕ, suc, List, [], ◌∷◌, length, map, Option, None, IfSome, IsSomeAnd}
use Rattle.std.specs.Io.KnownBytes.{Appends}
use Rattle.cmp_ports.specs.declared.note.Answered.{Answered}
use Rattle.http_heads.specs.Requests.{Posted, IsRequest, ending_after}
use Rattle.http_wire.specs.Sessions.{Exchange, posted_of, note_of, texts, AllAnswered}
use Rattle.http_wire.specs.Steps.{Moment}

-- requests at the front of the octets, none of which ends the session
abbrev pub AreOpen : ℕ → List ℕ → List Posted → List ℕ → Type 0
AreOpen n bytes [] rest = rest ≡ bytes
AreOpen n bytes (r ∷ rs) rest = (mid : List ℕ) × IsRequest bytes r mid × (ending_after (suc n) r.asks ≡ None) × AreOpen (suc n) mid rs rest

-- where they are told
abbrev pub Fronts : Option (List ℕ) → Option (List ℕ) → List Posted → Type 0
Fronts all coming rs = IfSome all (λ bytes. IsSomeAnd coming (λ rest. AreOpen 0 bytes rs rest))

-- the next request is of this number
pub record IsOpen {A : Type 0} (answers : A → List ℕ → Answered → List ℕ → A → Type 0) (number : ℕ) (first now : Moment A) : Type 0 where
  pub exchanges : List Exchange
  pub count : number ≡ suc (length exchanges)
  pub noted : now.notes ≡ map note_of exchanges
  pub answered : AllAnswered answers first.state exchanges now.state
  pub asked : Fronts first.coming now.coming (map posted_of exchanges)
  pub written : Appends first.written now.written (texts 0 exchanges)
  pub well : now.faults ≡ first.faults
