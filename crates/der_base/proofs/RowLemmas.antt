-- The items of octets are what reading gives, one behind the other.
use Rattle.std.proofs.Common.{◌≡◌, ℕ, ◌<◌, ◌≤◌, ◌++◌, zero, suc, List, [], ◌∷◌, length, map, Result, Ok, Err, refl, sym, ap, subst, ◌∙◌, arith}
use Rattle.std.proofs.lemmas.List.{length-append}
use Rattle.der_base.specs.Element.{element, length_octets, IsElement}
use Rattle.der_base.specs.Reading.{Part, part, element_at}
use Rattle.der_base.specs.Row.{IsRow, first_item, items_within, items_of, RowIsRead}
use Rattle.der_base.specs.declared.fault.DerFault.{DerFault}
use Rattle.der_base.proofs.ElementLemmas.{element_takes, element_reads, made}

length-element : (tag : ℕ) (content : List ℕ) → 0 < length (element tag content)
unfolding element
length-element tag content = omega (arith, length-append (length_octets (length content)) content)

pub rest_is_less : (bytes : List ℕ) (p : Part) (rest : List ℕ) → element_at bytes ≡ Ok (p, rest) → length rest < length bytes
rest_is_less bytes p rest e =
    let t = element_takes bytes p rest e in
    omega (arith, ap length t.parts, length-append p.whole rest, ap length t.element_is.spelled, length-element p.tag p.content)

enough_by : (n m : ℕ) (bytes : List ℕ) (r : Result (Part × List ℕ) DerFault) → element_at bytes ≡ r → length bytes ≤ suc n → length bytes ≤ suc m → ((rest : List ℕ) → length rest ≤ n → length rest ≤ m → items_within n rest ≡ items_within m rest) → first_item r (items_within n) ≡ first_item r (items_within m)
enough_by n m bytes (Ok (p, rest)) e h k again = let less = rest_is_less bytes p rest e in ap (λ (l : List (Result Part DerFault)). Ok p ∷ l) (again rest (omega arith) (omega arith))
enough_by n m bytes (Err f) e h k again = refl

pub enough : (n m : ℕ) (bytes : List ℕ) → length bytes ≤ n → length bytes ≤ m → items_within n bytes ≡ items_within m bytes
unfolding items_within
enough zero zero bytes h k = refl
enough zero (suc m) [] h k = refl
enough zero (suc m) (b ∷ bytes) h k = absurd (omega (arith, h))
enough (suc n) zero [] h k = refl
enough (suc n) zero (b ∷ bytes) h k = absurd (omega (arith, k))
enough (suc n) (suc m) [] h k = refl
enough (suc n) (suc m) (b ∷ bytes) h k = enough_by n m (b ∷ bytes) (element_at (b ∷ bytes)) refl h k (enough n m)

pub items-none : items_of [] ≡ []
unfolding items_of items_within
items-none = refl

pub items-read : (bytes : List ℕ) (p : Part) (rest : List ℕ) → element_at bytes ≡ Ok (p, rest) → items_of bytes ≡ Ok p ∷ items_of rest
unfolding items_of items_within element_at
items-read [] p rest e = absurd (let h = e in cc)
items-read (b ∷ bytes) p rest e =
    let less = rest_is_less (b ∷ bytes) p rest e in
    ap (λ (r : Result (Part × List ℕ) DerFault). first_item r (items_within (length bytes))) e
    ∙ ap (λ (l : List (Result Part DerFault)). Ok p ∷ l) (enough (length bytes) (length rest) rest (omega (arith, less)) (omega arith))

pub items-fault : (b : ℕ) (bytes : List ℕ) (f : DerFault) → element_at (b ∷ bytes) ≡ Err f → items_of (b ∷ bytes) ≡ Err f ∷ []
unfolding items_of items_within
items-fault b bytes f e = ap (λ (r : Result (Part × List ℕ) DerFault). first_item r (items_within (length bytes))) e

row_none : (bytes : List ℕ) (r : Result (Part × List ℕ) DerFault) → element_at bytes ≡ r → items_of bytes ≡ [] → bytes ≡ []
row_none [] r e h = refl
row_none (b ∷ bytes) (Ok (p, rest)) e h = absurd (let i = items-read (b ∷ bytes) p rest e in cc)
row_none (b ∷ bytes) (Err f) e h = absurd (let i = items-fault b bytes f e in cc)

row_some : (bytes : List ℕ) (r : Result (Part × List ℕ) DerFault) (q : Part) (qs : List Part) → element_at bytes ≡ r → items_of bytes ≡ Ok q ∷ map Ok qs → ((rest : List ℕ) → items_of rest ≡ map Ok qs → IsRow rest qs) → IsRow bytes (q ∷ qs)
row_some [] r q qs e h again = absurd (let i = items-none in cc)
row_some (b ∷ bytes) (Ok (p, rest)) q qs e h again =
    let i = items-read (b ∷ bytes) p rest e in
    let same : p ≡ q = cc in
    let others : items_of rest ≡ map Ok qs = cc in
    let t = element_takes (b ∷ bytes) p rest e in
    (rest, t.parts ∙ ap (λ (x : Part). x.whole ++ rest) same, subst (λ (x : Part). IsElement x.whole x.tag x.content) same t.element_is, again rest others)
row_some (b ∷ bytes) (Err f) q qs e h again = absurd (let i = items-fault b bytes f e in cc)

row_reads : (bytes : List ℕ) (qs : List Part) → items_of bytes ≡ map Ok qs → IsRow bytes qs
row_reads bytes [] h = row_none bytes (element_at bytes) refl h
row_reads bytes (q ∷ qs) h = row_some bytes (element_at bytes) q qs refl h (λ rest i. row_reads rest qs i)

reads_row : (bytes : List ℕ) (qs : List Part) → IsRow bytes qs → items_of bytes ≡ map Ok qs
reads_row bytes [] h = rw h items-none
reads_row bytes (q ∷ qs) (rest, parts, is, row) =
    let e = element_reads bytes q.whole q.content rest q.tag is parts in
    let same : part q.tag q.content ≡ q = sym (made q is.spelled) in
    items-read bytes (part q.tag q.content) rest e ∙ ap (λ (p : Part). Ok p ∷ items_of rest) same ∙ ap (λ (l : List (Result Part DerFault)). Ok q ∷ l) (reads_row rest qs row)

pub row_is_read : RowIsRead
row_is_read content parts = (row_reads content parts, reads_row content parts)

pub nothing_left : (bytes : List ℕ) → length bytes ≡ 0 → items_of bytes ≡ []
nothing_left [] h = items-none
nothing_left (b ∷ bytes) h = absurd (omega (arith, h))

pub items-fault_at : (bytes : List ℕ) (f : DerFault) → 0 < length bytes → element_at bytes ≡ Err f → items_of bytes ≡ Err f ∷ items_of []
items-fault_at [] f h e = absurd (omega (arith, h))
items-fault_at (b ∷ bytes) f h e = items-fault b bytes f e ∙ ap (λ (l : List (Result Part DerFault)). Err f ∷ l) (sym items-none)
