-- A form: what is read is spelled so, and what is spelled so is read. Forms of parts make forms of what has these parts.
use Rattle.std.proofs.Common.{◌≡◌, ℕ, suc, ◌+◌, ◌^◌, ◌<◌, ◌≤◌, Bool, true, false, cond, ltb, List, [], ◌∷◌, ◌++◌, length, get_or, take, drop, Option, Some, None, refl, sym, ap, subst, ◌∙◌, append_assoc, arith, inl, inr, IsTrue}
use Rattle.std.specs.Int.{Width, w16, w32, w64, byte_len, from_be_bytes, to_be_bytes}
use Rattle.std.proofs.lemmas.Bool.{cases_lt, ltb-false, le-ltb}
use Rattle.std.proofs.lemmas.List.{take_at, drop_at, take-append-drop, length-append, length-take, get_or-drop, get_or-take, get_or_past}
use Rattle.std.proofs.lemmas.Option.{some_pair_parts}
use Rattle.std.proofs.lemmas.Nat.{be_bytes_2, be_bytes_4, be_bytes_8, from_be_bytes-to_be_bytes_2, from_be_bytes-to_be_bytes_4, from_be_bytes-to_be_bytes_8}
use Rattle.deal_changes.specs.Reading.{Read, ◌>>=◌, octet_at, octets_at, number_at, coded_at}

abbrev pub IsBytes : List ℕ → Type 0
IsBytes bytes = (i : ℕ) → get_or bytes i 0 < 256

IsBytes-drop : (n : ℕ) (bytes : List ℕ) → IsBytes bytes → IsBytes (drop n bytes)
IsBytes-drop n bytes h i = rw get_or-drop (h (n + i))

IsBytes-take : (n : ℕ) (bytes : List ℕ) → IsBytes bytes → IsBytes (take n bytes)
IsBytes-take n bytes h i =
    elim (cases_lt i n) [
      | inl lt ↦ rw (get_or-take n bytes i 0 lt) (h i)
      | inr le ↦ rw (get_or_past (take n bytes) i 0 (omega (arith, length-take n bytes))) (omega arith)
    ]

pub IsBytes-rest : (b : ℕ) (bytes : List ℕ) → IsBytes (b ∷ bytes) → IsBytes bytes
IsBytes-rest b bytes h i = h (suc i)

-- the value of a step that did not fail
pub bind_some : {A B : Type 0} (r : Option A) (f : A → Option B) (y : B) → (r >>= f) ≡ Some y → (x : A) × (r ≡ Some x) × (f x ≡ Some y)
bind_some (Some x) f y e = (x, refl, e)
bind_some None f y e = absurd cc

-- either arm of a test
pub if_some : {Z : Type 0} (P : Type 0) (b : Bool) (x y : Option Z) (z : Z) → (b ≡ true → x ≡ Some z → P) → (b ≡ false → y ≡ Some z → P) → cond b x y ≡ Some z → P
if_some P true x y z holds fails e = holds refl e
if_some P false x y z holds fails e = fails refl e

pub none_some : {A : Type 0} (P : Type 0) (x : A) → None ≡ Some x → P
none_some P x e = absurd cc

abbrev pub got : {A B : Type 0} → A → B → Option (A × B)
got a b = Some (a, b)

pub got_pair : {A B : Type 0} (a x : A) (b y : B) → got a b ≡ got x y → (a ≡ x) × (b ≡ y)
got_pair a x b y e = some_pair_parts a x b y e

pub same_some : {A : Type 0} (x y : A) → Some x ≡ Some y → x ≡ y
same_some x y e = cc

-- what a reader took from the front
pub record Took (bytes text rest : List ℕ) : Type 0 where
  pub parts : bytes ≡ text ++ rest
  pub rest_fits : IsBytes rest

pub took_both : (a x b y c : List ℕ) → Took a x b → Took b y c → Took a (x ++ y) c
took_both a x b y c p q = record { parts = p.parts ∙ ap (λ (t : List ℕ). x ++ t) q.parts ∙ sym (append_assoc x y c); rest_fits = q.rest_fits }

abbrev pub Nothing : {X : Type 0} → X → Type 0
Nothing x = Unit {0}

-- a form of which something is known before
pub record IsRest {X : Type 0} (read : List ℕ → Read X) (spell : X → List ℕ) (Fits Known : X → Type 0) : Type 0 where
  pub takes : (bytes : List ℕ) (x : X) (rest : List ℕ) → IsBytes bytes → read bytes ≡ got x rest → Took bytes (spell x) rest × Fits x × Known x
  pub again : (x : X) (rest : List ℕ) → Fits x → Known x → read (spell x ++ rest) ≡ got x rest

abbrev pub IsForm : {X : Type 0} → (List ℕ → Read X) → (X → List ℕ) → (X → Type 0) → Type 0
IsForm read spell Fits = IsRest read spell Fits Nothing

-- ---- ways to make forms

-- the same form under another name of what fits
pub fitting : {X : Type 0} (read : List ℕ → Read X) (spell : X → List ℕ) (F G Known : X → Type 0) → ((x : X) → F x → G x) → ((x : X) → G x → F x) → IsRest read spell F Known → IsRest read spell G Known
fitting read spell F G Known there back form = record {
  takes = λ bytes x rest fits e. let t = form.takes bytes x rest fits e in (t.0, there x t.1, t.2);
  again = λ x rest fits known. form.again x rest (back x fits) known;
}

-- a part, and then the rest of a value that has it
pub seq : {X Y : Type 0} (proj : Y → X) (r : List ℕ → Read X) (s : X → List ℕ) (F : X → Type 0) (f : X × List ℕ → Read Y) (t : Y → List ℕ) (G Known : Y → Type 0)
    → IsForm r s F → ((x : X) → IsRest (λ b. f (x, b)) t G (λ y. Known y × (proj y ≡ x)))
    → IsRest (λ b. r b >>= f) (λ y. s (proj y) ++ t y) (λ y. F (proj y) × G y) Known
seq {X} {Y} proj r s F f t G Known one two = record {
  takes = λ bytes y rest fits e.
      let a = bind_some (r bytes) f (y, rest) e in
      let t0 = one.takes bytes a.0.0 a.0.1 fits a.1 in
      let t1 = (two a.0.0).takes a.0.1 y rest t0.0.rest_fits a.2 in
      let both = took_both bytes (s a.0.0) a.0.1 (t y) rest t0.0 t1.0 in
      let is : a.0.0 ≡ proj y = sym t1.2.1 in
      (subst (λ (x : X). Took bytes (s x ++ t y) rest) is both, (subst F is t0.1, t1.1), t1.2.0);
  again = λ y rest fits known.
      let grouped : (s (proj y) ++ t y) ++ rest ≡ s (proj y) ++ (t y ++ rest) = append_assoc (s (proj y)) (t y) rest in
      let first : r ((s (proj y) ++ t y) ++ rest) ≡ got (proj y) (t y ++ rest) = ap r grouped ∙ one.again (proj y) (t y ++ rest) fits.0 tt in
      rw first ((two (proj y)).again y rest fits.1 (known, refl));
}

-- the last part of a value
pub last : {Z Y : Type 0} (proj : Y → Z) (make : Z → Y) (r : List ℕ → Read Z) (s : Z → List ℕ) (F : Z → Type 0) (Known : Y → Type 0)
    → IsForm r s F → ((z : Z) → Known (make z) × (proj (make z) ≡ z)) → ((y : Y) → Known y → make (proj y) ≡ y)
    → IsRest (λ b. r b >>= λ z. Some (make z.0, z.1)) (λ y. s (proj y)) (λ y. F (proj y)) Known
last {Z} {Y} proj make r s F Known one made makes = record {
  takes = λ bytes y rest fits e.
      let a = bind_some (r bytes) (λ z. Some (make z.0, z.1)) (y, rest) e in
      let t0 = one.takes bytes a.0.0 a.0.1 fits a.1 in
      let p = got_pair (make a.0.0) y a.0.1 rest a.2 in
      let m = made a.0.0 in
      let whole : Took bytes (s (proj (make a.0.0))) a.0.1 × F (proj (make a.0.0)) × Known (make a.0.0) = rw m.1 (t0.0, t0.1, m.0) in
      let moved : Took bytes (s (proj y)) a.0.1 × F (proj y) × Known y = subst (λ (v : Y). Took bytes (s (proj v)) a.0.1 × F (proj v) × Known v) p.0 whole in
      subst (λ (q : List ℕ). Took bytes (s (proj y)) q × F (proj y) × Known y) p.1 moved;
  again = λ y rest fits known.
      let first : r (s (proj y) ++ rest) ≡ got (proj y) rest = one.again (proj y) rest fits tt in
      rw (first, makes y known) refl;
}

-- a value that passes a test
pub passing : {X : Type 0} (test : X → Bool) (read : List ℕ → Read X) (spell : X → List ℕ) (F Known : X → Type 0) → IsRest read spell F Known
    → IsRest (λ b. read b >>= λ x. cond (test x.0) (Some x) None) spell (λ x. F x × IsTrue (test x)) Known
passing {X} test read spell F Known form = record {
  takes = λ bytes y rest fits e.
      let a = bind_some (read bytes) (λ x. cond (test x.0) (Some x) None) (y, rest) e in
      if_some (Took bytes (spell y) rest × (F y × IsTrue (test y)) × Known y) (test a.0.0) (Some a.0) None (y, rest)
      (λ passed q.
      let p = got_pair a.0.0 y a.0.1 rest q in
      let t0 = form.takes bytes a.0.0 a.0.1 fits a.1 in
      let moved : Took bytes (spell y) a.0.1 × (F y × IsTrue (test y)) × Known y = subst (λ (v : X). Took bytes (spell v) a.0.1 × (F v × IsTrue (test v)) × Known v) p.0 (t0.0, (t0.1, passed), t0.2) in
      subst (λ (q : List ℕ). Took bytes (spell y) q × (F y × IsTrue (test y)) × Known y) p.1 moved)
      (λ failed q. none_some _ _ q) a.2;
  again = λ x rest fits known. rw (form.again x rest fits.0 known, fits.1) refl;
}

-- a value that doesn't pass a test
pub failing : {X : Type 0} (test : X → Bool) (read : List ℕ → Read X) (spell : X → List ℕ) (F Known : X → Type 0) → IsRest read spell F Known
    → IsRest (λ b. read b >>= λ x. cond (test x.0) None (Some x)) spell (λ x. F x × (test x ≡ false)) Known
failing {X} test read spell F Known form = record {
  takes = λ bytes y rest fits e.
      let a = bind_some (read bytes) (λ x. cond (test x.0) None (Some x)) (y, rest) e in
      if_some (Took bytes (spell y) rest × (F y × (test y ≡ false)) × Known y) (test a.0.0) None (Some a.0) (y, rest)
      (λ passed q. none_some _ _ q)
      (λ failed q.
      let p = got_pair a.0.0 y a.0.1 rest q in
      let t0 = form.takes bytes a.0.0 a.0.1 fits a.1 in
      let moved : Took bytes (spell y) a.0.1 × (F y × (test y ≡ false)) × Known y = subst (λ (v : X). Took bytes (spell v) a.0.1 × (F v × (test v ≡ false)) × Known v) p.0 (t0.0, (t0.1, failed), t0.2) in
      subst (λ (q : List ℕ). Took bytes (spell y) q × (F y × (test y ≡ false)) × Known y) p.1 moved) a.2;
  again = λ x rest fits known. rw (form.again x rest fits.0 known, fits.1) refl;
}

-- ---- the smallest forms

octet_takes : (bytes : List ℕ) (b : ℕ) (rest : List ℕ) → IsBytes bytes → octet_at bytes ≡ got b rest → Took bytes (b ∷ []) rest × (b < 2 ^ 8) × Nothing b
octet_takes [] b rest fits e = none_some _ _ e
octet_takes (n ∷ bytes) b rest fits e =
    let p = got_pair n b bytes rest e in
    (record { parts = rw (p.0, p.1) refl; rest_fits = rw (← p.1) (IsBytes-rest n bytes fits) }, rw (← p.0) (fits 0), tt)

pub octet_form : IsForm octet_at (λ b. b ∷ []) (λ b. b < 2 ^ 8)
octet_form = record { takes = octet_takes; again = λ b rest fits known. refl }

-- so many octets
pub octets_rest : (n : ℕ) → IsRest (octets_at n) (λ o. o) Nothing (λ o. length o ≡ n)
octets_rest n = record {
  takes = λ bytes y rest fits e.
      if_some (Took bytes y rest × Nothing y × (length y ≡ n)) (ltb (length bytes) n) None (got (take n bytes) (drop n bytes)) (y, rest)
      (λ less q. none_some _ _ q)
      (λ more q.
      let p = got_pair (take n bytes) y (drop n bytes) rest q in
      let long : n ≤ length bytes = ltb-false _ _ more in
      (record { parts = rw (← p.0, ← p.1) (sym (take-append-drop n bytes)); rest_fits = rw (← p.1) (IsBytes-drop n bytes fits) }, tt, rw (← p.0) (omega (arith, length-take n bytes)))) e;
  again = λ y rest fits known.
      let long : ltb (length (y ++ rest)) n ≡ false = le-ltb _ _ (omega (arith, length-append y rest, known)) in
      rw (long, take_at y rest n known, drop_at y rest n known) refl;
}

pub octets_form : (n : ℕ) → IsForm (octets_at n) (λ o. o) (λ o. length o ≡ n)
octets_form n = record {
  takes = λ bytes y rest fits e. let t = (octets_rest n).takes bytes y rest fits e in (t.0, t.2, tt);
  again = λ y rest fits known. (octets_rest n).again y rest tt fits;
}

record IsWide (w : Width) (limit : ℕ) : Type 0 where
  len : (n : ℕ) → length (to_be_bytes w n) ≡ byte_len w
  back : (bytes : List ℕ) → length bytes ≡ byte_len w → IsBytes bytes → to_be_bytes w (from_be_bytes w bytes) ≡ bytes
  onward : (n : ℕ) → n < limit → from_be_bytes w (to_be_bytes w n) ≡ n
  below : (bytes : List ℕ) → IsBytes bytes → from_be_bytes w bytes < limit

wide16 : IsWide w16 (2 ^ 16)
wide16 = record {
  len = λ n. refl;
  back = λ bytes len fits. be_bytes_2 bytes _ len fits refl;
  onward = λ n lt. from_be_bytes-to_be_bytes_2 n lt;
  below = λ bytes fits. omega (arith, fits 0, fits 1);
}

wide32 : IsWide w32 (2 ^ 32)
wide32 = record {
  len = λ n. refl;
  back = λ bytes len fits. be_bytes_4 bytes _ len fits refl;
  onward = λ n lt. from_be_bytes-to_be_bytes_4 n lt;
  below = λ bytes fits. omega (arith, fits 0, fits 1, fits 2, fits 3);
}

wide64 : IsWide w64 (2 ^ 64)
wide64 = record {
  len = λ n. refl;
  back = λ bytes len fits. be_bytes_8 bytes _ len fits refl;
  onward = λ n lt. from_be_bytes-to_be_bytes_8 n lt;
  below = λ bytes fits. omega (arith, fits 0, fits 1, fits 2, fits 3, fits 4, fits 5, fits 6, fits 7);
}

number_form : (w : Width) (limit : ℕ) → IsWide w limit → IsForm (number_at w) (to_be_bytes w) (λ n. n < limit)
number_form w limit wide = record {
  takes = λ bytes n rest fits e.
      if_some (Took bytes (to_be_bytes w n) rest × (n < limit) × Nothing n) (ltb (length bytes) (byte_len w)) None (got (from_be_bytes w (take (byte_len w) bytes)) (drop (byte_len w) bytes)) (n, rest)
      (λ less q. none_some _ _ q)
      (λ more q.
      let p = got_pair (from_be_bytes w (take (byte_len w) bytes)) n (drop (byte_len w) bytes) rest q in
      let long : byte_len w ≤ length bytes = ltb-false _ _ more in
      let front : to_be_bytes w n ≡ take (byte_len w) bytes = rw (← p.0) (wide.back (take (byte_len w) bytes) (omega (arith, length-take (byte_len w) bytes)) (IsBytes-take (byte_len w) bytes fits)) in
      (record { parts = rw (front, ← p.1) (sym (take-append-drop (byte_len w) bytes)); rest_fits = rw (← p.1) (IsBytes-drop (byte_len w) bytes fits) }, rw (← p.0) (wide.below (take (byte_len w) bytes) (IsBytes-take (byte_len w) bytes fits)), tt)) e;
  again = λ n rest lt known.
      let len = wide.len n in
      let long : ltb (length (to_be_bytes w n ++ rest)) (byte_len w) ≡ false = le-ltb _ _ (omega (arith, length-append (to_be_bytes w n) rest)) in
      rw (long, take_at (to_be_bytes w n) rest (byte_len w) len, drop_at (to_be_bytes w n) rest (byte_len w) len, wide.onward n lt) refl;
}

pub form16 : IsForm (number_at w16) (to_be_bytes w16) (λ n. n < 2 ^ 16)
form16 = number_form w16 (2 ^ 16) wide16

pub form32 : IsForm (number_at w32) (to_be_bytes w32) (λ n. n < 2 ^ 32)
form32 = number_form w32 (2 ^ 32) wide32

pub form64 : IsForm (number_at w64) (to_be_bytes w64) (λ n. n < 2 ^ 64)
form64 = number_form w64 (2 ^ 64) wide64

-- an octet that stands for something
pub coded_form : {X : Type 0} (of : ℕ → Option X) (code : X → ℕ) (F : X → Type 0) → ((n : ℕ) (x : X) → of n ≡ Some x → (n ≡ code x) × F x) → ((x : X) → F x → of (code x) ≡ Some x)
    → IsForm (coded_at of) (λ x. code x ∷ []) F
coded_form {X} of code F back onward = record {
  takes = λ bytes x rest fits e.
      let a = bind_some (octet_at bytes) (λ c. of c.0 >>= λ y. Some (y, c.1)) (x, rest) e in
      let b = bind_some (of a.0.0) (λ y. Some (y, a.0.1)) (x, rest) a.2 in
      let p = got_pair b.0 x a.0.1 rest b.2 in
      let t0 = octet_takes bytes a.0.0 a.0.1 fits a.1 in
      let q = back a.0.0 b.0 b.1 in
      let whole : Took bytes (code b.0 ∷ []) a.0.1 × F b.0 × Nothing b.0 = rw (← q.0) (t0.0, q.1, tt) in
      let moved : Took bytes (code x ∷ []) a.0.1 × F x × Nothing x = subst (λ (v : X). Took bytes (code v ∷ []) a.0.1 × F v × Nothing v) p.0 whole in
      subst (λ (r : List ℕ). Took bytes (code x ∷ []) r × F x × Nothing x) p.1 moved;
  again = λ x rest fits known. rw (onward x fits) refl;
}
