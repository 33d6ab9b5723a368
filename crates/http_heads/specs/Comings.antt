-- What comes from a stream.
use Rattle.std.specs.Prelude.{◌≡◌, ℕ, List, [], Option, Some, None, IfSome}
use Rattle.std.specs.Io.KnownBytes.{Keeps, prepend_known}
use Rattle.http_heads.specs.declared.read.Came.{Came}
use Rattle.http_heads.specs.declared.read.Came.TheVariants.{Head, Nothing, Turned}
use Rattle.http_heads.specs.Looks.{IsServedHead}
use Rattle.http_heads.specs.Requests.{IsRejected}

-- all octets of a stream, those it gave and those it has left, where they are told
abbrev pub input : Option (List ℕ) → Option (List ℕ) → Option (List ℕ)
input None left = None
input (Some gave) left = prepend_known gave left

-- a head that is served stands at the front of what there is; or what all octets are, where they are told
abbrev pub HasCome : Option (List ℕ) → List ℕ → Option (List ℕ) → Came → Type 0
HasCome all buffer rest (Head a) = IsServedHead buffer a × Keeps all rest
HasCome all buffer rest (Turned status) = IfSome all (λ bytes. IsRejected bytes status)
HasCome all buffer rest Nothing = IfSome all (λ bytes. bytes ≡ [])
