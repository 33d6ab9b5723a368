-- A content is shorter than its element.
use Rattle.std.proofs.Common.{ℕ, ◌+◌, ◌<◌, ◌≤◌, ◌++◌, List, length, arith}
use Rattle.std.proofs.lemmas.List.{length-append}
use Rattle.std.proofs.lemmas.Bool.Decides.{nat_tests}
use Rattle.der_base.specs.Element.{element, length_octets}

pub length_element_lt : (tag : ℕ) (content : List ℕ) → length content < length (element tag content)
unfolding element
length_element_lt tag content = omega (arith, length-append (length_octets (length content)) content)

-- the first and the second of two rows are not longer than both
pub front_le : (a b : List ℕ) → length a ≤ length (a ++ b)
front_le a b = omega (arith, length-append a b)

pub back_le : (a b : List ℕ) → length b ≤ length (a ++ b)
back_le a b = omega (arith, length-append a b)

pub ruleset lengths = (length_element_lt, front_le, back_le, length-append)

-- an element is at most six octets longer than its content
length_octets_le : (n : ℕ) → length (length_octets n) ≤ 5
unfolding length_octets
length_octets_le n = grind (arith, nat_tests)

pub length_element_le : (tag : ℕ) (content : List ℕ) → length (element tag content) ≤ length content + 6
unfolding element
length_element_le tag content = omega (arith, length-append (length_octets (length content)) content, length_octets_le (length content))

pub ruleset short = (length_element_le, length-append)
