-- The elements of a validity are those that are read.
use Rattle.std.proofs.Common.{◌≡◌, ◌≢◌, ℕ, ◌%◌, ◌<◌, ◌++◌, Bool, true, false, cond, List, [], length, Result, Ok, Err, inl, inr, refl, sym, ap, subst, ◌∙◌, arith}
use Rattle.std.specs.Prelude.{nat_le}
use Rattle.std.proofs.lemmas.List.{length-append}
use Rattle.der_base.specs.Element.{element, IsElement}
use Rattle.der_base.specs.Reading.{Part, part}
use Rattle.der_base.specs.declared.fault.DerFault.{DerFault}
use Rattle.asn_fields.specs.declared.fault.BadForm.{BadForm}
use Rattle.cmp_time.specs.Time.{IsUtc, IsGeneralized}
use Rattle.asn_types.specs.Time.{IsTime}
use Rattle.asn_types.proofs.LengthLemmas.{length_element_le}
use Rattle.x509_cert.specs.Validity.{IsTimeText, IsValidity, time_tag}

-- a time of this tag
pub time_under : (tag t : ℕ) (text whole : List ℕ) → tag ≡ time_tag t → IsTimeText t text → IsTime (record { tag = tag; content = text; whole = whole }) t
time_under tag t text whole e h = subst (λ (n : ℕ). IsTime (record { tag = n; content = text; whole = whole }) t) (sym e) h

low_by : (b : Bool) → cond b 0x17 0x18 % 32 ≢ 31
low_by true = omega arith
low_by false = omega arith

pub time_low : (t : ℕ) → time_tag t % 32 ≢ 31
time_low t = low_by (nat_le t 2_524_607_999)

pub utc_length : (t : ℕ) (text : List ℕ) → IsUtc text t → length text ≡ 13
utc_length t text (m, moment, early, spelled) = ap (λ (l : List ℕ). length l) spelled

pub generalized_length : (t : ℕ) (text : List ℕ) → IsGeneralized text t → length text ≡ 15
generalized_length t text (m, moment, spelled) = ap (λ (l : List ℕ). length l) spelled

pub time_short : (t : ℕ) (text : List ℕ) → IsTimeText t text → length text < 16
time_short t text (inl u) = omega (arith, utc_length t text u.1)
time_short t text (inr g) = omega (arith, generalized_length t text g.1)

pub time_element : (t : ℕ) (text : List ℕ) → IsTimeText t text → IsElement (element (time_tag t) text) (time_tag t) text
time_element t text h = record { low_tag = time_low t; counted = omega (arith, time_short t text h); spelled = refl }

abbrev ok_pair : Part × List ℕ → Result (Part × List ℕ) DerFault
ok_pair p = Ok p

abbrev first_read : Part → List ℕ → Result (Part × List ℕ) DerFault
first_read p rest = Ok (p, rest)

abbrev last_read : Part → Result Part DerFault
last_read p = Ok p

pair_is : (p q : Part × List ℕ) → ok_pair p ≡ ok_pair q → p ≡ q
pair_is p q e = cc

first_is : (a b : Part) (x y : List ℕ) → first_read a x ≡ first_read b y → (a ≡ b) × (x ≡ y)
first_is a b x y e =
    let both = pair_is (a, x) (b, y) e in
    (ap (λ (z : Part × List ℕ). z.0) both, ap (λ (z : Part × List ℕ). z.1) both)

last_is : (a b : Part) → last_read a ≡ last_read b → a ≡ b
last_is a b e = cc

text_is : (t : ℕ) (text : List ℕ) (p : Part) → IsTimeText t text → part (time_tag t) text ≡ p → (p.tag ≡ time_tag t) × IsTimeText t p.content
text_is t text p h e = (sym (ap (λ (q : Part). q.tag) e), subst (λ (l : List ℕ). IsTimeText t l) (ap (λ (q : Part). q.content) e) h)

-- what was read of a validity has the tags and the texts of its times
pub dates_are : (content : List ℕ) (from to : ℕ) (h : IsValidity content from to) (first last : Part) (rest : List ℕ)
    → first_read (part (time_tag from) h.first) (element (time_tag to) h.last) ≡ first_read first rest
    → (IsElement rest (time_tag to) h.last → last_read (part (time_tag to) h.last) ≡ last_read last)
    → ((first.tag ≡ time_tag from) × IsTimeText from first.content) × ((last.tag ≡ time_tag to) × IsTimeText to last.content)
dates_are content from to h first last rest e k =
    let one = first_is (part (time_tag from) h.first) first (element (time_tag to) h.last) rest e in
    let two = last_is (part (time_tag to) h.last) last (k (subst (λ (l : List ℕ). IsElement l (time_tag to) h.last) one.1 (time_element to h.last h.ends))) in
    (text_is from h.first first h.begins one.0, text_is to h.last last h.ends two)

-- the two times that were read
abbrev ok_times : ℕ × ℕ → Result (ℕ × ℕ) BadForm
ok_times p = Ok p

abbrev no_times : BadForm → Result (ℕ × ℕ) BadForm
no_times f = Err f

pub same_times : (p q : ℕ × ℕ) → ok_times p ≡ ok_times q → p ≡ q
same_times p q e = cc

pub times_none : (f : BadForm) (q : ℕ × ℕ) → no_times f ≡ ok_times q → ⊥
times_none f q e = cc

-- two times behind nothing are a validity
pub validity_written : (w0 w1 w2 : List ℕ) (from to : ℕ) → w0 ≡ []
    → (text : List ℕ) × IsTimeText from text × (w1 ≡ w0 ++ element (time_tag from) text)
    → (text : List ℕ) × IsTimeText to text × (w2 ≡ w1 ++ element (time_tag to) text)
    → IsValidity w2 from to × (length w2 < 64)
validity_written w0 w1 w2 from to empty (a, begins, one) (b, ends, two) =
    let front : w1 ≡ element (time_tag from) a = one ∙ ap (λ (l : List ℕ). l ++ element (time_tag from) a) empty in
    let all : w2 ≡ element (time_tag from) a ++ element (time_tag to) b = two ∙ ap (λ (l : List ℕ). l ++ element (time_tag to) b) front in (
      record { first = a; last = b; begins = begins; ends = ends; parts = all },
      omega (
        arith,
        ap (λ (l : List ℕ). length l) all,
        length-append (element (time_tag from) a) (element (time_tag to) b),
        length_element_le (time_tag from) a,
        length_element_le (time_tag to) b,
        time_short from a begins,
        time_short to b ends,
      ),
    )
