-- An element is read exactly where it is spelled, and its faults come in their order.
use Rattle.std.proofs.Common.{◌≡◌, ◌≢◌, ℕ, ◌+◌, ◌-◌, ◌%◌, ◌^◌, ◌<◌, ◌≤◌, ◌++◌, Bool, true, false, not, ltb, cond, List, [], ◌∷◌, length, get_or, take, drop, Result, Ok, Err, IsTrue, ◌↔◌, refl, sym, ap, append_assoc, subst, ◌∙◌, arith, ltb-false, ltb-true}
use Rattle.std.proofs.lemmas.Bool.{eqb-false}
use Rattle.std.proofs.lemmas.Grind.{common_steps}
use Rattle.std.proofs.lemmas.Bool.Decides.{nat_tests}
use Rattle.std.proofs.lemmas.List.{length-take, length-drop, length-append, take-append-drop, drop-drop, take_at, drop_at}
use Rattle.der_base.proofs.LengthLemmas.{own, IsOwn, length_octets-cut, begins_with-own, and_parts}
use Rattle.der_base.specs.Element.{element, length_octets, IsElement, HasOneSpelling, BeginsNoOther}
use Rattle.der_base.specs.Reading.{Part, part, more_of, stands_for, begins_with, is_short, is_bad_tag, is_bad_length, split_at, element_at}
use Rattle.der_base.specs.declared.fault.DerFault.{DerFault}
use Rattle.der_base.specs.declared.fault.DerFault.TheVariants.{Short, BadTag, BadLength, Trailing}

-- what follows the first two octets of a slice
abbrev pub behind_two : List ℕ → List ℕ
behind_two bytes = take (length bytes - 2) (drop 2 bytes)

pub two_in_front : (bytes : List ℕ) → 2 ≤ length bytes → bytes ≡ get_or bytes 0 0 ∷ get_or bytes 1 0 ∷ behind_two bytes
two_in_front [] h = absurd (omega (arith, h))
two_in_front (a ∷ []) h = absurd (omega (arith, h))
two_in_front (a ∷ b ∷ rest) h = grind (arith, common_steps)

-- the number that the length behind the tag stands for
abbrev size_at : ℕ → List ℕ → ℕ
size_at first rest = stands_for first (take (more_of first) rest)

pub reads_short : (tag first : ℕ) (rest : List ℕ) (n : ℕ) → n ≡ size_at first rest → length rest < more_of first + n → element_at (tag ∷ first ∷ rest) ≡ Err Short
unfolding element_at is_short
reads_short tag first rest n e h = grind (arith, nat_tests)

pub reads_bad_tag : (tag first : ℕ) (rest : List ℕ) (n : ℕ) → n ≡ size_at first rest → more_of first + n ≤ length rest → tag % 32 ≡ 31 → element_at (tag ∷ first ∷ rest) ≡ Err BadTag
unfolding element_at is_short is_bad_tag
reads_bad_tag tag first rest n e h t = grind (arith, nat_tests)

pub reads_bad_length : (tag first : ℕ) (rest : List ℕ) (n : ℕ) → n ≡ size_at first rest → more_of first + n ≤ length rest → tag % 32 ≢ 31 → begins_with (first ∷ rest) (length_octets n) ≡ false → element_at (tag ∷ first ∷ rest) ≡ Err BadLength
unfolding element_at is_short is_bad_tag is_bad_length
reads_bad_length tag first rest n e h t b = grind (arith, nat_tests)

pub reads : (tag first : ℕ) (rest : List ℕ) (n : ℕ) → n ≡ size_at first rest → more_of first + n ≤ length rest → tag % 32 ≢ 31 → n < 2 ^ 32 → begins_with (first ∷ rest) (length_octets n) ≡ true → element_at (tag ∷ first ∷ rest) ≡ Ok (part tag (take n (drop (more_of first) rest)), drop (more_of first + n) rest)
unfolding element_at is_short is_bad_tag is_bad_length
reads tag first rest n e h t b o = grind (arith, nat_tests)

tail_there : (rest : List ℕ) (more n : ℕ) → (take more rest ++ take n (drop more rest)) ++ drop (more + n) rest ≡ rest
tail_there rest more n =
    append_assoc (take more rest) (take n (drop more rest)) (drop (more + n) rest)
    ∙ ap (λ l. take more rest ++ l) (ap (λ l. take n (drop more rest) ++ l) (sym (drop-drop n more rest)) ∙ take-append-drop n (drop more rest))
    ∙ take-append-drop more rest

-- the spelling of what stands behind the tag and its length
pub spelled_there : (tag first : ℕ) (rest : List ℕ) (n : ℕ) → more_of first + n ≤ length rest → n < 2 ^ 32 → begins_with (first ∷ rest) (length_octets n) ≡ true → element tag (take n (drop (more_of first) rest)) ++ drop (more_of first + n) rest ≡ tag ∷ first ∷ rest
unfolding element
spelled_there tag first rest n h b o =
    let counted : length (take n (drop (more_of first) rest)) ≡ n = simp (length-take, length-drop) (omega arith) in
    let octets = length_octets-cut first rest n b o in
    rw (counted, octets) (ap (λ l. tag ∷ first ∷ l) (tail_there rest (more_of first) n))

counted_there : (a b l : List ℕ) (n : ℕ) → a ++ b ≡ l → length b + n ≡ length l → length a ≡ n
counted_there a b l n e h = omega (arith, h, ap length e, length-append a b)

-- the octets that are taken for it
pub taken_there : (tag first : ℕ) (rest : List ℕ) (n : ℕ) → more_of first + n ≤ length rest → n < 2 ^ 32 → begins_with (first ∷ rest) (length_octets n) ≡ true → take (2 + more_of first + n) (tag ∷ first ∷ rest) ≡ element tag (take n (drop (more_of first) rest))
taken_there tag first rest n h b o =
    let e = spelled_there tag first rest n h b o in
    let whole = element tag (take n (drop (more_of first) rest)) in
    let after = drop (more_of first + n) rest in
    let counted : length whole ≡ 2 + more_of first + n = counted_there whole after (tag ∷ first ∷ rest) (2 + more_of first + n) e (simp length-drop (omega arith)) in
    subst (λ (l : List ℕ). take (2 + more_of first + n) l ≡ whole) e (take_at whole after (2 + more_of first + n) counted)

-- what is read
abbrev read_as : ℕ → List ℕ → List ℕ → Result (Part × List ℕ) DerFault
read_as tag content rest = Ok (part tag content, rest)

same_read : (tag : ℕ) (c d x y : List ℕ) → c ≡ d → x ≡ y → read_as tag c x ≡ read_as tag d y
same_read tag c d x y e f = cc

abbrev whole_as : ℕ → List ℕ → List ℕ → List ℕ → Result (Part × List ℕ) DerFault
whole_as tag content whole rest = Ok (record { tag = tag; content = content; whole = whole }, rest)

same_whole : (tag : ℕ) (c d w v x y : List ℕ) → c ≡ d → w ≡ v → x ≡ y → whole_as tag c w x ≡ whole_as tag d v y
same_whole tag c d w v x y e f g = cc

again_by : (tag : ℕ) (content rest : List ℕ) (n head : ℕ) (tail : List ℕ) → n ≡ length content → n < 2 ^ 32 → tag % 32 ≢ 31 → IsOwn n head tail → element_at (tag ∷ head ∷ (tail ++ (content ++ rest))) ≡ Ok (part tag content, rest)
again_by tag content rest n head tail e h t o =
    let behind = tail ++ (content ++ rest) in
    let count : take (more_of head) behind ≡ tail = take_at tail (content ++ rest) (more_of head) (sym o.counted) in
    let dropped : drop (more_of head) behind ≡ content ++ rest = drop_at tail (content ++ rest) (more_of head) (sym o.counted) in
    let number : n ≡ stands_for head (take (more_of head) behind) = rw count (sym o.number) in
    let enough : more_of head + n ≤ length behind = omega (arith, length-append tail (content ++ rest), length-append content rest, o.counted, e) in
    let begins : begins_with (head ∷ behind) (length_octets n) ≡ true = rw o.parts (begins_with-own (head ∷ tail) (content ++ rest)) in
    let inner : take n (drop (more_of head) behind) ≡ content = rw dropped (take_at content rest n (sym e)) in
    let after : drop (more_of head + n) behind ≡ rest = sym (drop-drop n (more_of head) behind) ∙ ap (drop n) dropped ∙ drop_at content rest n (sym e) in
    reads tag head behind n number enough t h begins ∙ same_read tag _ content _ rest inner after

again_from : (tag : ℕ) (content rest : List ℕ) → tag % 32 ≢ 31 → length content < 2 ^ 32 → ((head : ℕ) × ((tail : List ℕ) × IsOwn (length content) head tail)) → element_at (element tag content ++ rest) ≡ Ok (part tag content, rest)
unfolding element
again_from tag content rest t h o =
    let spelled : (length_octets (length content) ++ content) ++ rest ≡ o.0 ∷ (o.1.0 ++ (content ++ rest)) = rw o.1.1.parts (ap (λ l. o.0 ∷ l) (append_assoc o.1.0 content rest)) in
    rw spelled (again_by tag content rest (length content) o.0 o.1.0 refl h t o.1.1)

-- the octets, cut behind the two first and the other octets of the length
pub record IsBehind (bytes : List ℕ) (more n : ℕ) (count after : List ℕ) : Type 0 where
  pub two : 2 ≤ length bytes
  pub more_is : more ≡ more_of (get_or bytes 1 0)
  pub enough : more ≤ length (behind_two bytes)
  pub count_is : count ≡ take more (behind_two bytes)
  pub after_is : after ≡ drop more (behind_two bytes)
  pub number : n ≡ stands_for (get_or bytes 1 0) count

-- the same, for the parts by name
record IsParted (bytes : List ℕ) (tag first : ℕ) (rest : List ℕ) (n : ℕ) (count after : List ℕ) : Type 0 where
  bytes_are : bytes ≡ tag ∷ first ∷ rest
  number : n ≡ size_at first rest
  after_is : after ≡ drop (more_of first) rest
  rest_is : count ++ after ≡ rest
  counted : length after + more_of first ≡ length rest

parted : (bytes : List ℕ) (more n : ℕ) (count after : List ℕ) → IsBehind bytes more n count after → IsParted bytes (get_or bytes 0 0) (get_or bytes 1 0) (behind_two bytes) n count after
parted bytes more n count after h =
    let rest = behind_two bytes in
    record {
      bytes_are = two_in_front bytes h.two;
      number = rw (← h.more_is, ← h.count_is) h.number;
      after_is = rw (← h.more_is) h.after_is;
      rest_is = rw (h.count_is, h.after_is) (take-append-drop more rest);
      counted = omega (arith, ap length h.after_is, length-drop more rest, h.enough, h.more_is);
    }

pub short_behind : (bytes : List ℕ) (more n : ℕ) (count after : List ℕ) → IsBehind bytes more n count after → length after < n → element_at bytes ≡ Err Short
short_behind bytes more n count after h s =
    let p = parted bytes more n count after h in
    ap element_at p.bytes_are ∙ reads_short _ _ _ n p.number (omega (arith, p.counted))

pub bad_tag_behind : (bytes : List ℕ) (more n : ℕ) (count after : List ℕ) → IsBehind bytes more n count after → n ≤ length after → get_or bytes 0 0 % 32 ≡ 31 → element_at bytes ≡ Err BadTag
bad_tag_behind bytes more n count after h s t =
    let p = parted bytes more n count after h in
    ap element_at p.bytes_are ∙ reads_bad_tag _ _ _ n p.number (omega (arith, p.counted)) t

pub bad_length_behind : (bytes : List ℕ) (more n : ℕ) (count after : List ℕ) → IsBehind bytes more n count after → n ≤ length after → get_or bytes 0 0 % 32 ≢ 31 → ((x : List ℕ) → begins_with (get_or bytes 1 0 ∷ (count ++ x)) (length_octets n) ≡ false) → element_at bytes ≡ Err BadLength
bad_length_behind bytes more n count after h s t b =
    let p = parted bytes more n count after h in
    let begins : begins_with (get_or bytes 1 0 ∷ behind_two bytes) (length_octets n) ≡ false = subst (λ (l : List ℕ). begins_with (get_or bytes 1 0 ∷ l) (length_octets n) ≡ false) p.rest_is (b after) in
    ap element_at p.bytes_are ∙ reads_bad_length _ _ _ n p.number (omega (arith, p.counted)) t begins

pub read_behind : (bytes : List ℕ) (more n : ℕ) (count after : List ℕ) → IsBehind bytes more n count after → n ≤ length after → get_or bytes 0 0 % 32 ≢ 31 → n < 2 ^ 32 → ((x : List ℕ) → begins_with (get_or bytes 1 0 ∷ (count ++ x)) (length_octets n) ≡ true) → (content whole rest : List ℕ) → content ≡ take n after → whole ≡ take (2 + more + n) bytes → rest ≡ drop n after → element_at bytes ≡ Ok (record { tag = get_or bytes 0 0; content = content; whole = whole }, rest)
read_behind bytes more n count after h s t o b content whole rest content_is whole_is rest_is =
    let tag = get_or bytes 0 0 in
    let first = get_or bytes 1 0 in
    let behind = behind_two bytes in
    let p = parted bytes more n count after h in
    let enough : more_of first + n ≤ length behind = omega (arith, p.counted) in
    let begins : begins_with (first ∷ behind) (length_octets n) ≡ true = subst (λ (l : List ℕ). begins_with (first ∷ l) (length_octets n) ≡ true) p.rest_is (b after) in
    let there : content ≡ take n (drop (more_of first) behind) = content_is ∙ ap (take n) p.after_is in
    let over : rest ≡ drop (more_of first + n) behind = rest_is ∙ ap (drop n) p.after_is ∙ drop-drop n (more_of first) behind in
    let taken : whole ≡ element tag (take n (drop (more_of first) behind)) = whole_is ∙ ap (λ (k : ℕ). take (2 + k + n) bytes) h.more_is ∙ ap (take (2 + more_of first + n)) p.bytes_are ∙ taken_there tag first behind n enough o begins in
    ap element_at p.bytes_are ∙ reads tag first behind n p.number enough t o begins ∙ same_whole tag (take n (drop (more_of first) behind)) content (element tag (take n (drop (more_of first) behind))) whole (drop (more_of first + n) behind) rest (sym there) (sym taken) (sym over)

-- What is spelled is read.
pub element_again : (tag : ℕ) (content rest : List ℕ) → tag % 32 ≢ 31 → length content < 2 ^ 32 → element_at (element tag content ++ rest) ≡ Ok (part tag content, rest)
element_again tag content rest t h = again_from tag content rest t h (own (length content) h)

-- what the three tests choose
abbrev chosen : Bool → Bool → Bool → Part × List ℕ → Result (Part × List ℕ) DerFault
chosen short bad_tag bad_length read = cond short (Err Short) (cond bad_tag (Err BadTag) (cond bad_length (Err BadLength) (Ok read)))

tests_choose : (bytes : List ℕ) → (read : Part × List ℕ) × (element_at bytes ≡ chosen (is_short bytes) (is_bad_tag bytes) (is_bad_length bytes) read)
unfolding element_at is_short
tests_choose [] = ((part 0 [], []), refl)
tests_choose (tag ∷ []) = ((part 0 [], []), refl)
tests_choose (tag ∷ first ∷ rest) = (_, refl)

-- when each fault comes
pub record Tells (bytes : List ℕ) : Type 0 where
  pub short : (element_at bytes ≡ Err Short) ↔ IsTrue (is_short bytes)
  pub bad_tag : (element_at bytes ≡ Err BadTag) ↔ ((is_short bytes ≡ false) × IsTrue (is_bad_tag bytes))
  pub bad_length : (element_at bytes ≡ Err BadLength) ↔ ((is_short bytes ≡ false) × (is_bad_tag bytes ≡ false) × IsTrue (is_bad_length bytes))
  pub trailing : element_at bytes ≢ Err Trailing

short_by : (s t l : Bool) (x : Part × List ℕ) (r : Result (Part × List ℕ) DerFault) → r ≡ chosen s t l x → (r ≡ Err Short) ↔ IsTrue s
short_by true t l x r e = (λ _. refl, λ _. e)
short_by false true l x r e = (λ h. cc, λ h. cc)
short_by false false true x r e = (λ h. cc, λ h. cc)
short_by false false false x r e = (λ h. cc, λ h. cc)

bad_tag_by : (s t l : Bool) (x : Part × List ℕ) (r : Result (Part × List ℕ) DerFault) → r ≡ chosen s t l x → (r ≡ Err BadTag) ↔ ((s ≡ false) × IsTrue t)
bad_tag_by true t l x r e = (λ h. cc, λ h. let a = h.0 in cc)
bad_tag_by false true l x r e = (λ _. (refl, refl), λ _. e)
bad_tag_by false false true x r e = (λ h. cc, λ h. let a = h.1 in cc)
bad_tag_by false false false x r e = (λ h. cc, λ h. let a = h.1 in cc)

bad_length_by : (s t l : Bool) (x : Part × List ℕ) (r : Result (Part × List ℕ) DerFault) → r ≡ chosen s t l x → (r ≡ Err BadLength) ↔ ((s ≡ false) × (t ≡ false) × IsTrue l)
bad_length_by true t l x r e = (λ h. cc, λ h. let a = h.0 in cc)
bad_length_by false true l x r e = (λ h. cc, λ h. let a = h.1 in cc)
bad_length_by false false true x r e = (λ _. (refl, refl, refl), λ _. e)
bad_length_by false false false x r e = (λ h. cc, λ h. let a = h.2 in cc)

trailing_by : (s t l : Bool) (x : Part × List ℕ) (r : Result (Part × List ℕ) DerFault) → r ≡ chosen s t l x → r ≢ Err Trailing
trailing_by true t l x r e h = cc
trailing_by false true l x r e h = cc
trailing_by false false true x r e h = cc
trailing_by false false false x r e h = cc

pub element_tells : (bytes : List ℕ) → Tells bytes
element_tells bytes = let x = tests_choose bytes in
    record {
      short = short_by (is_short bytes) (is_bad_tag bytes) (is_bad_length bytes) x.0 _ x.1;
      bad_tag = bad_tag_by (is_short bytes) (is_bad_tag bytes) (is_bad_length bytes) x.0 _ x.1;
      bad_length = bad_length_by (is_short bytes) (is_bad_tag bytes) (is_bad_length bytes) x.0 _ x.1;
      trailing = trailing_by (is_short bytes) (is_bad_tag bytes) (is_bad_length bytes) x.0 _ x.1;
    }

-- What is read is an element, and stands at the front.
pub record IsTaken (bytes : List ℕ) (p : Part) (rest : List ℕ) : Type 0 where
  pub element_is : IsElement p.whole p.tag p.content
  pub parts : bytes ≡ p.whole ++ rest
  pub part_is : p ≡ part p.tag p.content

not_true : (a : Bool) → not a ≡ false → a ≡ true
not_true true h = refl
not_true false h = cc

pub made : (p : Part) → p.whole ≡ element p.tag p.content → p ≡ part p.tag p.content
made p e = ap (λ (w : List ℕ). let q : Part = record { tag = p.tag; content = p.content; whole = w } in q) e

taken_by : (tag first : ℕ) (rest : List ℕ) (n : ℕ) (p : Part) (r : List ℕ) → more_of first + n ≤ length rest → tag % 32 ≢ 31 → n < 2 ^ 32 → begins_with (first ∷ rest) (length_octets n) ≡ true → p ≡ part tag (take n (drop (more_of first) rest)) → r ≡ drop (more_of first + n) rest → IsTaken (tag ∷ first ∷ rest) p r
taken_by tag first rest n p r h t o b e f =
    let counted : length (take n (drop (more_of first) rest)) ≡ n = simp (length-take, length-drop) (omega arith) in
    let there = spelled_there tag first rest n h o b in
    let tag_is : p.tag ≡ tag = ap (λ (q : Part). q.tag) e in
    let content_is : p.content ≡ take n (drop (more_of first) rest) = ap (λ (q : Part). q.content) e in
    let whole_is : p.whole ≡ element tag (take n (drop (more_of first) rest)) = ap (λ (q : Part). q.whole) e in
    let own_whole : p.whole ≡ element p.tag p.content = rw (tag_is, content_is) whole_is in
    record {
      element_is = record { low_tag = rw tag_is t; counted = rw (content_is, counted) o; spelled = own_whole };
      parts = rw (whole_is, f) (sym there);
      part_is = made p own_whole;
    }

takes_by : (tag first : ℕ) (rest : List ℕ) (p : Part) (r : List ℕ) (s t l : Bool) → is_short (tag ∷ first ∷ rest) ≡ s → is_bad_tag (tag ∷ first ∷ rest) ≡ t → is_bad_length (tag ∷ first ∷ rest) ≡ l → chosen s t l (split_at tag first rest) ≡ Ok (p, r) → IsTaken (tag ∷ first ∷ rest) p r
unfolding is_short is_bad_tag is_bad_length
takes_by tag first rest p r true t l es et el e = absurd (let h = e in cc)
takes_by tag first rest p r false true l es et el e = absurd (let h = e in cc)
takes_by tag first rest p r false false true es et el e = absurd (let h = e in cc)
takes_by tag first rest p r false false false es et el e =
    let n = size_at first rest in
    let enough : more_of first + n ≤ length rest = omega (arith, ltb-false (length rest) (more_of first + n) es) in
    let low : tag % 32 ≢ 31 = λ h. eqb-false (tag % 32) 31 et h in
    let both = and_parts (ltb n (2 ^ 32)) (begins_with (first ∷ rest) (length_octets n)) (not_true _ el) in
    let small : n < 2 ^ 32 = ltb-true n (2 ^ 32) both.0 in
    let pair : split_at tag first rest ≡ (p, r) = cc in
    taken_by tag first rest n p r enough low small both.1 (sym (ap (λ (q : Part × List ℕ). q.0) pair)) (sym (ap (λ (q : Part × List ℕ). q.1) pair))

pub element_takes : (bytes : List ℕ) (p : Part) (r : List ℕ) → element_at bytes ≡ Ok (p, r) → IsTaken bytes p r
unfolding element_at
element_takes [] p r e = absurd (let h = e in cc)
element_takes (tag ∷ []) p r e = absurd (let h = e in cc)
element_takes (tag ∷ first ∷ rest) p r e = takes_by tag first rest p r (is_short (tag ∷ first ∷ rest)) (is_bad_tag (tag ∷ first ∷ rest)) (is_bad_length (tag ∷ first ∷ rest)) refl refl refl e

-- What is an element is read.
pub element_reads : (bytes whole content rest : List ℕ) (tag : ℕ) → IsElement whole tag content → bytes ≡ whole ++ rest → element_at bytes ≡ Ok (part tag content, rest)
element_reads bytes whole content rest tag is e = rw (e, is.spelled) (element_again tag content rest is.low_tag is.counted)

pub one_spelling : HasOneSpelling
one_spelling a b tag content x y = x.spelled ∙ sym y.spelled

abbrev pair_as : ℕ → List ℕ → List ℕ → Part × List ℕ
pair_as tag content rest = (part tag content, rest)

same_element : (a b x y : List ℕ) (s t : ℕ) (c d : List ℕ) → IsElement a s c → IsElement b t d → read_as s c x ≡ read_as t d y → (a ≡ b) × (s ≡ t) × (c ≡ d)
same_element a b x y s t c d h i e =
    let pair : pair_as s c x ≡ pair_as t d y = cc in
    let tags : s ≡ t = ap (λ (q : Part × List ℕ). q.0.tag) pair in
    let contents : c ≡ d = ap (λ (q : Part × List ℕ). q.0.content) pair in
    (h.spelled ∙ ap (λ (n : ℕ). element n c) tags ∙ ap (element t) contents ∙ sym i.spelled, tags, contents)

pub begins_no_other : BeginsNoOther
begins_no_other a b x y s t c d h i e =
    let one = element_reads (a ++ x) a c x s h refl in
    let two = element_reads (a ++ x) b d y t i e in
    same_element a b x y s t c d h i (sym one ∙ two)
