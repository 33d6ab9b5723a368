-- The content of a count is read exactly where it stands for one within the limits.
use Rattle.std.proofs.Common.{◌≡◌, ℕ, ◌+◌, ◌*◌, ◌<◌, ◌≤◌, ◌&&◌, Bool, true, false, cond, eqb, List, [], ◌∷◌, get_or, Option, Some, None, Ok, Err, IsTrue, refl, sym, ◌∙◌, arith}
use Rattle.std.specs.Prelude.{nat_le, nat_lt, fold}
use Rattle.std.proofs.lemmas.Bool.Decides.{nat_tests}
use Rattle.der_base.specs.Reading.{part, big_endian}
use Rattle.der_base.specs.Values.{is_integer, value_of}
use Rattle.der_base.specs.declared.fault.DerFault.TheVariants.{BadTag, BadLength}
use Rattle.asn_fields.specs.Fields.{ok_of}
use Rattle.asn_fields.proofs.FieldLemmas.{passed, none_some, some_same}
use Rattle.pbmac.specs.Params.{accepted, rounds_of}
use Rattle.pbmac_grammar.specs.Pbmac1.{IsCount}

-- both tests of a pair that passed
pub both : (a b : Bool) → (a && b) ≡ true → (a ≡ true) × (b ≡ true)
both true true e = (refl, refl)
both true false e = cc
both false b e = cc

pub both_true : (a b : Bool) → a ≡ true → b ≡ true → (a && b) ≡ true
both_true true true p q = refl
both_true true false p q = cc
both_true false b p q = cc

-- a reading behind a test
pub chosen : {X : Type 0} (b : Bool) (r : Option X) (y : X) → cond b r None ≡ Some y → (b ≡ true) × (r ≡ Some y)
chosen true r y e = (refl, e)
chosen false r y e = absurd (none_some y e)

-- what a value that was read went through
pub ok_by : {X : Type 0} (P : Type 0) → (s t : Bool) (v x : X) → ok_of (cond s (cond t (Ok v) (Err BadLength)) (Err BadTag)) ≡ Some x → (s ≡ true → t ≡ true → v ≡ x → P) → P
ok_by P true true v x e go = go refl refl (some_same v x e)
ok_by P true false v x e go = absurd (none_some x e)
ok_by P false t v x e go = absurd (none_some x e)

pub value_again : {X : Type 0} (tag : ℕ) (form : List ℕ → Bool) (value : List ℕ → X) (content : List ℕ) → form content ≡ true → value_of tag form value (part tag content) ≡ Ok (value content)
value_again tag form value content h = let test : eqb tag tag ≡ true = grind (arith, nat_tests) in rw (test, h) refl

-- what an accepted count passed
record IsWithin (n m : ℕ) : Type 0 where
  least : 1 ≤ n
  most : n ≤ 200000
  same : n ≡ m

accepted_takes : (n m : ℕ) → accepted n ≡ Some m → IsWithin n m
accepted_takes n m e =
    passed (IsWithin n m) (nat_le 1 n && nat_le n 200000) n m e (λ tests same.
    let l = both (nat_le 1 n) (nat_le n 200000) tests in
    record { least = grind (arith, nat_tests, l.0); most = grind (arith, nat_tests, l.1); same = same })

accepted_again : (n : ℕ) → 1 ≤ n → n ≤ 200000 → accepted n ≡ Some n
accepted_again n l m =
    let a : nat_le 1 n ≡ true = grind (arith, nat_tests) in
    let b : nat_le n 200000 ≡ true = grind (arith, nat_tests) in
    rw (a, b) refl

one_form : (a : ℕ) → big_endian (a ∷ []) ≡ a
unfolding big_endian
one_form a = omega arith

two_form : (a b : ℕ) → big_endian (a ∷ b ∷ []) ≡ a * 256 + b
unfolding big_endian
two_form a b = omega arith

three_form : (a b c : ℕ) → big_endian (a ∷ b ∷ c ∷ []) ≡ (a * 256 + b) * 256 + c
unfolding big_endian
three_form a b c = omega arith

-- the first nine bits are not all 0
form_takes : (a b : ℕ) (more : List ℕ) → IsTrue (is_integer (a ∷ b ∷ more)) → a < 128 → 128 ≤ a * 256 + b
form_takes a b more h p = grind (arith, nat_tests)

-- a count that was read from a content whose first octet is below 128
count_by : (content : List ℕ) (a m n : ℕ) → get_or content 0 0 ≡ a → big_endian content ≡ m → IsTrue (is_integer content) → cond (nat_lt a 128) (accepted m) None ≡ Some n → IsCount content n
count_by content a m n first value form e =
    let c = chosen (nat_lt a 128) (accepted m) n e in
    let w = accepted_takes m n c.1 in
    let low : a < 128 = grind (arith, nat_tests, c.0) in
    record { form = form; positive = omega (arith, first, low); value = value ∙ w.same; least = omega (arith, w.least, w.same); most = omega (arith, w.most, w.same) }

pub count_takes : (content : List ℕ) (n : ℕ) → IsTrue (is_integer content) → rounds_of content ≡ Some n → IsCount content n
unfolding rounds_of
count_takes [] n form e = absurd (none_some n e)
count_takes (a ∷ []) n form e = count_by (a ∷ []) a a n refl (one_form a) form e
count_takes (a ∷ b ∷ []) n form e = count_by (a ∷ b ∷ []) a (a * 256 + b) n refl (two_form a b) form e
count_takes (a ∷ b ∷ c ∷ []) n form e = count_by (a ∷ b ∷ c ∷ []) a ((a * 256 + b) * 256 + c) n refl (three_form a b c) form e
count_takes (a ∷ b ∷ c ∷ d ∷ more) n form e = absurd (none_some n e)

-- octets behind others make no number smaller
fold_grows : (n : ℕ) (xs : List ℕ) → n ≤ fold (λ m b. m * 256 + b) n xs
fold_grows n [] = omega arith
fold_grows n (x ∷ xs) = omega (arith, fold_grows (n * 256 + x) xs)

four_form : (a b c d : ℕ) (more : List ℕ) → 128 ≤ a * 256 + b → 200000 < big_endian (a ∷ b ∷ c ∷ d ∷ more)
unfolding big_endian
four_form a b c d more h = omega (arith, fold_grows ((((0 * 256 + a) * 256 + b) * 256 + c) * 256 + d) more)

counted_again : (a m n : ℕ) → a < 128 → m ≡ n → 1 ≤ n → n ≤ 200000 → cond (nat_lt a 128) (accepted m) None ≡ Some n
counted_again a m n low same l h =
    let test : nat_lt a 128 ≡ true = grind (arith, nat_tests) in
    rw (test, same) (accepted_again n l h)

pub count_again : (content : List ℕ) (n : ℕ) → IsCount content n → rounds_of content ≡ Some n
unfolding rounds_of
count_again [] n h = let f = h.form in cc
count_again (a ∷ []) n h = counted_again a a n h.positive (sym (one_form a) ∙ h.value) h.least h.most
count_again (a ∷ b ∷ []) n h = counted_again a (a * 256 + b) n h.positive (sym (two_form a b) ∙ h.value) h.least h.most
count_again (a ∷ b ∷ c ∷ []) n h = counted_again a ((a * 256 + b) * 256 + c) n h.positive (sym (three_form a b c) ∙ h.value) h.least h.most
count_again (a ∷ b ∷ c ∷ d ∷ more) n h =
    absurd (omega (arith, four_form a b c d more (form_takes a b (c ∷ d ∷ more) h.form h.positive), h.value, h.most))
