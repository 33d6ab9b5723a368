-- What a stream holds after a read, and what a look at its front says of all of it.
use Rattle.std.specs.Prelude.{◌≡◌, ℕ, List, [], ◌∷◌, ◌++◌, Option, Some, None, IfSome}
use Rattle.std.proofs.Common.{refl, sym, ap, subst, ◌∙◌, append_assoc}
use Rattle.std.specs.Io.KnownBytes.{Appends, Consumes, Keeps, IsAtEnd, prepend_known}
use Rattle.http_heads.specs.declared.read.Came.{Came}
use Rattle.http_heads.specs.declared.read.Came.TheVariants.{Head, Nothing, Turned}
use Rattle.http_heads.specs.Comings.{HasCome, input}
use Rattle.http_heads.specs.Requests.{IsRejected}

-- a piece goes from what is left to the end of what came
pub known_more : (octets piece more : List ℕ) (old new : Option (List ℕ)) → Consumes old new piece → more ≡ octets ++ piece
    → Keeps (prepend_known octets old) (prepend_known more new)
known_more octets piece more None new gone is = tt
known_more octets piece more (Some xs) None gone is = absurd gone
known_more octets piece more (Some xs) (Some ys) gone is =
    ap (λ (l : List ℕ). l ++ ys) is ∙ append_assoc octets piece ys ∙ ap (λ (l : List ℕ). octets ++ l) (sym gone)

-- and of what it gave
pub input_more : (gave_old gave_new left_old left_new : Option (List ℕ)) (piece : List ℕ) → Appends gave_old gave_new piece → Consumes left_old left_new piece
    → Keeps (input gave_old left_old) (input gave_new left_new)
input_more None gave_new left_old left_new piece gave gone = tt
input_more (Some g) None left_old left_new piece gave gone = absurd gave
input_more (Some g) (Some h) left_old left_new piece gave gone = known_more g piece h left_old left_new gone gave

-- nothing moved
pub input_kept : (gave_old gave_new left_old left_new : Option (List ℕ)) → Keeps gave_old gave_new → Keeps left_old left_new
    → Keeps (input gave_old left_old) (input gave_new left_new)
input_kept None gave_new left_old left_new gave kept = tt
input_kept (Some g) None left_old left_new gave kept = absurd gave
input_kept (Some g) (Some h) None left_new gave kept = tt
input_kept (Some g) (Some h) (Some xs) None gave kept = absurd kept
input_kept (Some g) (Some h) (Some xs) (Some ys) gave kept = rw (gave, kept) refl

-- what holds of the octets that are known now holds of those that were known
pub if_kept : (old new : Option (List ℕ)) (P : List ℕ → Type 0) → Keeps old new → IfSome new P → IfSome old P
if_kept None new P same holds = tt
if_kept (Some xs) None P same holds = absurd same
if_kept (Some xs) (Some ys) P same holds = subst P same holds

-- what holds whatever follows holds of all
pub if_whatever : (octets : List ℕ) (left : Option (List ℕ)) (P : List ℕ → Type 0) → ((more : List ℕ) → P (octets ++ more)) → IfSome (prepend_known octets left) P
if_whatever octets None P holds = tt
if_whatever octets (Some xs) P holds = holds xs

-- at the end nothing follows
pub append_none : (xs : List ℕ) → xs ++ [] ≡ xs
append_none [] = refl
append_none (x ∷ xs) = ap (λ (l : List ℕ). x ∷ l) (append_none xs)

pub if_at_end : (octets : List ℕ) (left : Option (List ℕ)) (P : List ℕ → Type 0) → IsAtEnd left → P octets → IfSome (prepend_known octets left) P
if_at_end octets None P end holds = tt
if_at_end octets (Some xs) P end holds = rw (end, append_none octets) holds

-- what came at the end came of all
pub come_at_end : (all rest left : Option (List ℕ)) (octets : List ℕ) (came : Came) → Keeps all (prepend_known octets left) → IsAtEnd left → rest ≡ prepend_known octets left
    → HasCome (Some octets) octets (Some octets) came → HasCome all octets rest came
come_at_end all rest left octets (Head a) kept end is holds = (holds.0, rw is kept)
come_at_end all rest left octets (Turned status) kept end is holds =
    if_kept all (prepend_known octets left) (λ (b : List ℕ). IsRejected b status) kept (if_at_end octets left (λ (b : List ℕ). IsRejected b status) end holds)
come_at_end all rest left octets Nothing kept end is holds =
    if_kept all (prepend_known octets left) (λ (b : List ℕ). b ≡ []) kept (if_at_end octets left (λ (b : List ℕ). b ≡ []) end holds)
