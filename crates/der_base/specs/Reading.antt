-- What reading an element from the front of octets gives, and its faults in their order.
use Rattle.std.specs.Prelude.{◌≡◌, ℕ, ◌+◌, ◌-◌, ◌*◌, ◌%◌, ◌^◌, Bool, true, false, not, ◌&&◌, ◌==◌, nat_lt, if◌then◌else◌, List, [], ◌∷◌, length, fold, take, drop, Result, Ok, Err}
use Rattle.der_base.specs.Element.{element, length_octets}
use Rattle.der_base.specs.declared.element.Element.{Element}
use Rattle.der_base.specs.declared.fault.DerFault.{DerFault}
use Rattle.der_base.specs.declared.fault.DerFault.TheVariants.{Short, BadTag, BadLength, Trailing}

-- an element, as lists
pub record Part : Type 0 where
  pub tag : ℕ
  pub content : List ℕ
  pub whole : List ℕ

-- the element of a tag and a content, in its one spelling
abbrev pub part : ℕ → List ℕ → Part
part tag content = record { tag = tag; content = content; whole = element tag content }

-- what an element that was read shows
abbrev pub part_of : Element → Part
part_of e = record { tag = e.tag; content = e.content.now; whole = e.whole.now }

-- the number that octets stand for, the highest first
unfoldable pub big_endian : List ℕ → ℕ
big_endian octets = fold (λ n b. n * 256 + b) 0 octets

-- how many octets follow the first one of a length
unfoldable pub more_of : ℕ → ℕ
more_of first = if nat_lt 128 first && nat_lt first 133 then first - 128 else 0

-- the number that a length stands for, by its first octet and the others
unfoldable pub stands_for : ℕ → List ℕ → ℕ
stands_for first more = if nat_lt first 128 then first else big_endian more

-- the number that the length at the front stands for, as far as its octets are there
abbrev pub size_of : ℕ → List ℕ → ℕ
size_of first rest = stands_for first (take (more_of first) rest)

-- Octets begin with others.
abbrev pub begins_with : List ℕ → List ℕ → Bool
begins_with octets [] = true
begins_with [] (b ∷ bs) = false
begins_with (a ∷ more) (b ∷ bs) = (a == b) && begins_with more bs

-- The octets end before the element at their front does.
unfoldable pub is_short : List ℕ → Bool
is_short [] = true
is_short (tag ∷ []) = true
is_short (tag ∷ first ∷ rest) = nat_lt (length rest) (more_of first + size_of first rest)

-- The tag at the front takes more than one octet: its low five bits are all ones (X.690, 8.1.2.4).
unfoldable pub is_bad_tag : List ℕ → Bool
is_bad_tag [] = false
is_bad_tag (tag ∷ rest) = tag % 32 == 31

-- The length at the front is indefinite, in more than four octets, or not spelled in the fewest (X.690, 10.1).
unfoldable pub is_bad_length : List ℕ → Bool
is_bad_length [] = false
is_bad_length (tag ∷ []) = false
is_bad_length (tag ∷ first ∷ rest) = not (nat_lt (size_of first rest) (2 ^ 32) && begins_with (first ∷ rest) (length_octets (size_of first rest)))

-- the element behind the tag and the first octet of a length, and what follows it
abbrev pub split_at : ℕ → ℕ → List ℕ → Part × List ℕ
split_at tag first rest = (part tag (take (size_of first rest) (drop (more_of first) rest)), drop (more_of first + size_of first rest) rest)

-- the element at the front, and what follows it
unfoldable pub element_at : List ℕ → Result (Part × List ℕ) DerFault
element_at [] = Err Short
element_at (tag ∷ []) = Err Short
element_at (tag ∷ first ∷ rest) =
    if is_short (tag ∷ first ∷ rest) then Err Short
    else (if is_bad_tag (tag ∷ first ∷ rest) then Err BadTag
    else (if is_bad_length (tag ∷ first ∷ rest) then Err BadLength
    else Ok (split_at tag first rest)))

-- the element that was read, where nothing is over
abbrev pub sole_of : Result (Part × List ℕ) DerFault → Result Part DerFault
sole_of (Ok r) = if length r.1 == 0 then Ok r.0 else Err Trailing
sole_of (Err f) = Err f

-- the one element that the octets are
unfoldable pub whole_at : List ℕ → Result Part DerFault
whole_at bytes = sole_of (element_at bytes)

-- What a function returned, seen by view, is what reading gives.
abbrev pub Reads : {X Y : Type 0} → (X → Y) → Result X DerFault → Result Y DerFault → Type 0
Reads view (Ok x) read = read ≡ Ok (view x)
Reads view (Err e) read = read ≡ Err e
