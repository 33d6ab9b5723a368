-- The head of a request (RFC 9112, 2 to 5), and why a request isn't served: by its path, its method and its fields (RFC 9110; RFC 9811).
use Rattle.std.specs.Prelude.{ℕ, ◌≤◌, Bool, true, false, ◌&&◌, ◌||◌, not, List, [], ◌∷◌, ◌++◌, length, take, drop, map, codes, bytes_eq, nat_le, nat_lt, ◌==◌, if◌then◌else◌, Option, Some, None}
use Rattle.std.specs.List.{list_all, list_any}
use Rattle.std.specs.Char.{is_ascii_digit}
use Rattle.std.specs.Str.{str_eq_ignore_ascii_case}
use Rattle.std.specs.Str.Parse.{digits_value}
use Rattle.httparse.specs.Grammar.{RequestHead, ReadsRequest, print_request}
use Rattle.httparse.specs.Spans.{name_and_value}

-- a head of at most 8,192 octets and 32 fields, and then rest
pub record IsHead (bytes : List ℕ) (h : RequestHead) (rest : List ℕ) : Type 0 where
  pub reads : ReadsRequest bytes h rest
  pub short : length (print_request h) ≤ 8192
  pub few : length h.fields ≤ 32

-- no head is there
abbrev pub HasNoHead : List ℕ → Type 0
HasNoHead bytes = (h : RequestHead) (rest : List ℕ) → IsHead bytes h rest → ⊥

-- the names and the values of the fields
abbrev pub parts_of : RequestHead → List (List ℕ × List ℕ)
parts_of h = map name_and_value h.fields

-- the values of the fields of this name, in their order; names differ by more than their case (RFC 9110, 5.1)
abbrev pub values : List ℕ → List (List ℕ × List ℕ) → List (List ℕ)
values name [] = []
values name (p ∷ parts) = if str_eq_ignore_ascii_case p.0 name then p.1 ∷ values name parts else values name parts

-- there is one
abbrev pub has : List (List ℕ) → Bool
has [] = false
has (v ∷ vs) = true

-- what may follow the path: its end, a slash or a question mark
abbrev pub is_path_end : List ℕ → Bool
is_path_end [] = true
is_path_end (c ∷ rest) = (c == 47) || (c == 63)

-- the target is the path of the service (RFC 9811, 3)
abbrev pub is_path : List ℕ → Bool
is_path target = bytes_eq (take 16 target) (codes "/.well-known/cmp") && is_path_end (drop 16 target)

-- one value, of 1 to 10 digits
abbrev pub is_number : List ℕ → Bool
is_number v = nat_le 1 (length v) && nat_le (length v) 10 && list_all is_ascii_digit v

abbrev pub is_lone_number : List (List ℕ) → Bool
is_lone_number [] = false
is_lone_number (v ∷ []) = is_number v
is_lone_number (v ∷ w ∷ vs) = false

-- the number that the first value spells
abbrev pub length_of : List (List ℕ) → ℕ
length_of [] = 0
length_of (v ∷ vs) = digits_value 10 v

-- the octets before a semicolon
abbrev pub before_semicolon : List ℕ → List ℕ
before_semicolon [] = []
before_semicolon (c ∷ rest) = if c == 59 then [] else c ∷ before_semicolon rest

-- the first value names the type of a PKIMessage, whatever parameters follow (RFC 9811, 3)
abbrev pub is_type : List (List ℕ) → Bool
is_type [] = false
is_type (v ∷ vs) = str_eq_ignore_ascii_case (before_semicolon v) (codes "application/pkixcmp")

-- a status (RFC 9110, 15.5) and whether its cause is there
pub record Row : Type 0 where
  pub status : ℕ
  pub applies : Bool

-- the status of the first row that applies
abbrev pub first_of : List Row → Option ℕ
first_of [] = None
first_of (r ∷ rows) = if r.applies then Some r.status else first_of rows

abbrev pub row : ℕ → Bool → Row
row status applies = record { status = status; applies = applies }

-- by path and method: Not Found, Method Not Allowed
abbrev pub target_rows : List ℕ → List ℕ → List Row
target_rows method target = row 404 (not (is_path target)) ∷ row 405 (not (bytes_eq method (codes "POST"))) ∷ []

-- the lengths that are told
abbrev pub lengths : List (List ℕ × List ℕ) → List (List ℕ)
lengths parts = values (codes "content-length") parts

-- by the fields: Length Required, Bad Request, Content Too Large, Unsupported Media Type
abbrev pub field_rows : List (List ℕ × List ℕ) → List Row
field_rows parts =
    row 411 (has (values (codes "transfer-encoding") parts) || not (has (lengths parts)))
    ∷ row 400 (not (is_lone_number (lengths parts)))
    ∷ row 413 (nat_lt 131072 (length_of (lengths parts)))
    ∷ row 415 (not (is_type (values (codes "content-type") parts)))
    ∷ []

-- the status with which a request of this head is turned away, where it is
abbrev pub why_not : RequestHead → Option ℕ
why_not h = first_of (target_rows h.method h.target ++ field_rows (parts_of h))

-- how many octets the body has
abbrev pub body_length : RequestHead → ℕ
body_length h = length_of (lengths (parts_of h))

-- the request asks for the end of the session: HTTP/1.0, or a field Connection that is close (RFC 9112, 9.3)
abbrev pub asks_end : RequestHead → Bool
asks_end h = (h.minor == 0) || list_any (λ v. str_eq_ignore_ascii_case v (codes "close")) (values (codes "connection") (parts_of h))
