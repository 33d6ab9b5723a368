-- What reading values and fields takes, and that it reads what is spelled.
use Rattle.std.proofs.Common.{◌≡◌, ℕ, ◌^◌, ◌<◌, ◌++◌, Bool, true, false, cond, eqb, List, [], ◌∷◌, length, Option, Some, None, Result, Ok, Err, IsTrue, append-nil, eqb-true, eq-eqb, refl, sym, ap, subst, ◌∙◌, arith}
use Rattle.std.specs.Prelude.{unwrap_or}
use Rattle.std.proofs.lemmas.Bool.Decides.{nat_tests}
use Rattle.der_base.specs.Element.{element, IsElement}
use Rattle.der_base.specs.Reading.{Part, part, element_at, sole_of, whole_at}
use Rattle.der_base.specs.Values.{BitString, is_oid, oid_at, value_of, is_bits, bits_of, bits_at, boolean_of, is_boolean, boolean_at}
use Rattle.der_base.specs.declared.fault.DerFault.{DerFault}
use Rattle.der_base.specs.declared.fault.DerFault.TheVariants.{BadTag, BadLength}
use Rattle.der_base.proofs.ElementLemmas.{element_takes, element_reads}
use Rattle.asn_fields.specs.Fields.{ok_of, field_at}
use Rattle.asn_fields.proofs.FieldLemmas.{IsTagged, bound, passed, field_takes, field_again, some_same}
use Rattle.asn_types.specs.Algorithm.{IfAny, any_at, oid_field_at}
use Rattle.asn_types.specs.Key.{plain_bits_at}

tests_take : {T : Type 0} (a b : Bool) (v x : T) → ok_of (cond a (cond b (Ok v) (Err BadLength)) (Err BadTag)) ≡ Some x → (a ≡ true) × (b ≡ true) × (v ≡ x)
tests_take true true v x e = (refl, refl, some_same v x e)
tests_take true false v x e = cc
tests_take false b v x e = cc

tests_again : {T : Type 0} (a b : Bool) (v : T) → a ≡ true → b ≡ true → ok_of (cond a (cond b (Ok v) (Err BadLength)) (Err BadTag)) ≡ Some v
tests_again true true v h k = refl
tests_again true false v h k = cc
tests_again false b v h k = cc

-- a value is read of an element with its tag, in its form
pub value_takes : {T : Type 0} (tag : ℕ) (form : List ℕ → Bool) (value : List ℕ → T) (p : Part) (x : T) → ok_of (value_of tag form value p) ≡ Some x → (p.tag ≡ tag) × IsTrue (form p.content) × (value p.content ≡ x)
value_takes tag form value p x e = let t = tests_take (eqb p.tag tag) (form p.content) (value p.content) x e in (eqb-true _ _ t.0, t.1, t.2)

pub value_again : {T : Type 0} (tag : ℕ) (form : List ℕ → Bool) (value : List ℕ → T) (content : List ℕ) → IsTrue (form content) → ok_of (value_of tag form value (part tag content)) ≡ Some (value content)
value_again tag form value content h = tests_again (eqb tag tag) (form content) (value content) (eq-eqb tag tag refl) h

pub oid_takes : (p : Part) (oid : List ℕ) → ok_of (oid_at p) ≡ Some oid → IsTrue (is_oid p.content) × (p.content ≡ oid)
unfolding oid_at
oid_takes p oid e = let t = value_takes 6 is_oid (λ (content : List ℕ). content) p oid e in (t.1, t.2)

pub oid_again : (content : List ℕ) → IsTrue (is_oid content) → ok_of (oid_at (part 6 content)) ≡ Some content
unfolding oid_at
oid_again content h = value_again 6 is_oid (λ (content : List ℕ). content) content h

-- an object identifier stands at the front
pub record IsOidFront (bytes oid rest : List ℕ) : Type 0 where
  pub identifier : IsTrue (is_oid oid)
  pub counted : length oid < 2 ^ 32
  pub parts : bytes ≡ element 6 oid ++ rest

oid_front : (bytes oid rest o : List ℕ) (p : Part) (more : List ℕ) → IsTagged 6 bytes p more → IsTrue (is_oid p.content) → p.content ≡ o → o ≡ oid → more ≡ rest → IsOidFront bytes oid rest
oid_front bytes oid rest o p more t h c e k = record {
  identifier = subst (λ (l : List ℕ). IsTrue (is_oid l)) (c ∙ e) h;
  counted = subst (λ (l : List ℕ). length l < 2 ^ 32) (c ∙ e) t.element_is.counted;
  parts = cc (t.parts, t.element_is.spelled);
}

pub oid_field_takes : (bytes oid rest : List ℕ) → oid_field_at bytes ≡ Some (oid, rest) → IsOidFront bytes oid rest
unfolding oid_field_at
oid_field_takes bytes oid rest e =
    bound (IsOidFront bytes oid rest) (field_at 6 bytes) _ (oid, rest) e (λ f read e1.
    bound (IsOidFront bytes oid rest) (ok_of (oid_at f.0)) _ (oid, rest) e1 (λ o got e2.
    let v = oid_takes f.0 o got in
    let same = some_same (o, f.1) (oid, rest) e2 in
    oid_front bytes oid rest o f.0 f.1 (field_takes 6 bytes f.0 f.1 read) v.0 v.1 (ap (λ (x : List ℕ × List ℕ). x.0) same) (ap (λ (x : List ℕ × List ℕ). x.1) same)))

pub oid_field_again : (oid rest : List ℕ) → IsTrue (is_oid oid) → length oid < 2 ^ 32 → oid_field_at (element 6 oid ++ rest) ≡ Some (oid, rest)
unfolding oid_field_at
oid_field_again oid rest h k = rw (field_again 6 oid rest (omega arith) k, oid_again oid h) refl

-- the one element of any form
sole_of_takes : (r : Result (Part × List ℕ) DerFault) (p : Part) → sole_of r ≡ Ok p → r ≡ Ok (p, [])
sole_of_takes (Ok (q, [])) p e = let same : q ≡ p = cc in rw same refl
sole_of_takes (Ok (q, next ∷ rest)) p e = let test : eqb (length (next ∷ rest)) 0 ≡ false = grind (arith, nat_tests) in let h = rw test at e in cc
sole_of_takes (Err f) p e = cc

abbrev made_ok : {X : Type 0} → X → Result X DerFault
made_ok x = Ok x

pub ok_is : {X : Type 0} (r : Result X DerFault) (x : X) → ok_of r ≡ Some x → r ≡ Ok x
ok_is {X} (Ok y) x e = ap (made_ok {X = X}) (some_same y x e)
ok_is (Err f) x e = cc

pub whole_takes : (bytes : List ℕ) (p : Part) → ok_of (whole_at bytes) ≡ Some p → IsElement bytes p.tag p.content × (p.whole ≡ bytes) × (p ≡ part p.tag p.content)
unfolding whole_at
whole_takes bytes p e =
    let t = element_takes bytes p [] (sole_of_takes (element_at bytes) p (ok_is (sole_of (element_at bytes)) p e)) in
    let all : bytes ≡ p.whole = t.parts ∙ append-nil p.whole in
    (subst (λ (l : List ℕ). IsElement l p.tag p.content) (sym all) t.element_is, sym all, t.part_is)

pub whole_again : (bytes : List ℕ) (tag : ℕ) (content : List ℕ) → IsElement bytes tag content → ok_of (whole_at bytes) ≡ Some (part tag content)
unfolding whole_at
whole_again bytes tag content is = ap (λ (r : Result (Part × List ℕ) DerFault). ok_of (sole_of r)) (element_reads bytes bytes content [] tag is (sym (append-nil bytes)))

any_of : (bytes : List ℕ) (o : Option (List ℕ)) (p : Part) → ok_of (whole_at bytes) ≡ Some p → Some p.whole ≡ o → IfAny o × (bytes ≡ unwrap_or o [])
any_of bytes None p e h = cc
any_of bytes (Some octets) p e h =
    let t = whole_takes bytes p e in
    let same : p.whole ≡ octets = some_same p.whole octets h in
    let all : bytes ≡ octets = sym t.1 ∙ same in
    (record { tag = p.tag; content = p.content; alone = subst (λ (l : List ℕ). IsElement l p.tag p.content) all t.0 }, all)

pub any_takes : (bytes : List ℕ) (o : Option (List ℕ)) → any_at bytes ≡ Some o → IfAny o × (bytes ≡ unwrap_or o [])
unfolding any_at
any_takes [] None e = (tt, refl)
any_takes [] (Some octets) e = cc
any_takes (b ∷ bytes) o e =
    bound (IfAny o × (b ∷ bytes ≡ unwrap_or o [])) (ok_of (whole_at (b ∷ bytes))) (λ (p : Part). Some (Some p.whole)) o e (λ p read e1.
    any_of (b ∷ bytes) o p read (some_same (Some p.whole) o e1))

any_there : (octets : List ℕ) (tag : ℕ) (content : List ℕ) → IsElement octets tag content → any_at octets ≡ Some (Some octets)
unfolding any_at element
any_there [] tag content is = let e = is.spelled in cc
any_there (b ∷ bytes) tag content is = rw (whole_again (b ∷ bytes) tag content is) (ap (λ (l : List ℕ). Some (Some l)) (sym is.spelled))

pub any_again : (o : Option (List ℕ)) → IfAny o → any_at (unwrap_or o []) ≡ Some o
unfolding any_at
any_again None h = refl
any_again (Some octets) h = any_there octets h.tag h.content h.alone

-- a BIT STRING with no unused bits
is_bits_plain : (octets : List ℕ) → IsTrue (is_bits (0 ∷ octets))
is_bits_plain [] = refl
is_bits_plain (b ∷ more) = grind arith

plain_of : (content octets : List ℕ) (b : BitString) → IsTrue (is_bits content) → bits_of content ≡ b → cond (eqb b.unused 0) (Some b.octets) None ≡ Some octets → content ≡ 0 ∷ octets
plain_of [] octets b h e k = cc
plain_of (unused ∷ rest) octets b h e k =
    passed (unused ∷ rest ≡ 0 ∷ octets) (eqb b.unused 0) b.octets octets k (λ t same.
    let u : unused ≡ 0 = ap (λ (x : BitString). x.unused) e ∙ eqb-true b.unused 0 t in
    let o : rest ≡ octets = ap (λ (x : BitString). x.octets) e ∙ same in
    rw (u, o) refl)

pub plain_bits_takes : (p : Part) (octets : List ℕ) → plain_bits_at p ≡ Some octets → (p.tag ≡ 3) × (p.content ≡ 0 ∷ octets)
unfolding plain_bits_at bits_at
plain_bits_takes p octets e =
    bound ((p.tag ≡ 3) × (p.content ≡ 0 ∷ octets)) (ok_of (value_of 3 is_bits bits_of p)) (λ (b : BitString). cond (eqb b.unused 0) (Some b.octets) None) octets e (λ b got k.
    let v = value_takes 3 is_bits bits_of p b got in (v.0, plain_of p.content octets b v.1 v.2 k))

pub plain_bits_again : (octets : List ℕ) → plain_bits_at (part 3 (0 ∷ octets)) ≡ Some octets
unfolding plain_bits_at bits_at
plain_bits_again octets = rw (value_again 3 is_bits bits_of (0 ∷ octets) (is_bits_plain octets)) refl

-- a TRUE
true_content : (content : List ℕ) → IsTrue (is_boolean content) → boolean_of content ≡ true → content ≡ 255 ∷ []
true_content [] h e = cc
true_content (b ∷ []) h e = ap (λ (x : ℕ). x ∷ []) (eqb-true b 255 e)
true_content (b ∷ c ∷ more) h e = cc

pub true_takes : (p : Part) (b : Bool) → ok_of (boolean_at p) ≡ Some b → b ≡ true → (p.tag ≡ 1) × (p.content ≡ 255 ∷ [])
unfolding boolean_at
true_takes p b e t = let v = value_takes 1 is_boolean boolean_of p b e in (v.0, true_content p.content v.1 (v.2 ∙ t))

pub true_again : ok_of (boolean_at (part 1 (255 ∷ []))) ≡ Some true
unfolding boolean_at
true_again = refl
