-- The parameters of PBMAC1 are read exactly where they are spelled.
use Rattle.std.proofs.Common.{◌≡◌, ℕ, ◌≤◌, ◌++◌, ◌&&◌, ◌⊎◌, Bool, true, false, cond, eqb, List, [], ◌∷◌, length, Option, Some, None, Result, append-nil, refl, sym, ap, subst, inl, inr, ◌∙◌, arith}
use Rattle.std.specs.Prelude.{nat_le}
use Rattle.std.specs.Str.{bytes_eq}
use Rattle.std.proofs.lemmas.Bool.Decides.{nat_tests}
use Rattle.der_base.specs.Element.{element, IsElement}
use Rattle.der_base.specs.Reading.{Part, part}
use Rattle.der_base.specs.Values.{is_integer, integer_at}
use Rattle.der_base.specs.declared.fault.DerFault.{DerFault}
use Rattle.asn_fields.specs.Fields.{◌>>=◌, ok_of, field_at, sole_at, optional_at}
use Rattle.asn_fields.specs.Forms.{Above}
use Rattle.asn_fields.proofs.FieldLemmas.{none_some, some_same, bound, passed, field_takes, field_reads, sole_takes, sole_reads, optional_above}
use Rattle.asn_types.specs.Algorithm.{Algorithm, algorithm_content}
use Rattle.pbmac.specs.Algorithm.{alg_inside}
use Rattle.pbmac.specs.Params.{pbmac1, pbkdf2_oid, rounds_of, behind_length, key_length_at, salt_at, count_at, sole_hmac_at, kdf_inside, inside_whole, inside_params, scheme_inside, params_at}
use Rattle.pbmac.specs.declared.params.MacParams.{MacParams}
use Rattle.pbmac_grammar.specs.Pbmac1.{IsHmac, IsCount, IsKdfContent, IsKdf, IsPbmac1, ParamsAreSpelled, ParamsAreOne}
use Rattle.pbmac_grammar.proofs.CountLemmas.{both, chosen, ok_by, value_again, count_takes, count_again}
use Rattle.pbmac_grammar.proofs.PieceLemmas.{same_octets, octets_same, alg_stands, alg_again, hmac_takes, hmac_again}

abbrev mac_params : List ℕ → ℕ → MacParams
mac_params salt rounds = record { salt = salt; rounds = rounds }

-- a salt, and what follows it
record IsSalt (bytes salt rest : List ℕ) : Type 0 where
  octets : List ℕ
  parts : bytes ≡ octets ++ rest
  element_is : IsElement octets 4 salt
  least : 8 ≤ length salt
  most : length salt ≤ 64

salt_takes : (bytes : List ℕ) (r : List ℕ × List ℕ) → salt_at bytes ≡ Some r → IsSalt bytes r.0 r.1
unfolding salt_at
salt_takes bytes r e =
    bound (IsSalt bytes r.0 r.1) (field_at 4 bytes) _ r e (λ f read e1.
    passed (IsSalt bytes r.0 r.1) (nat_le 8 (length f.0.content) && nat_le (length f.0.content) 64) (f.0.content, f.1) r e1 (λ tests same.
    let l = both (nat_le 8 (length f.0.content)) (nat_le (length f.0.content) 64) tests in
    let t = field_takes 4 bytes f.0 f.1 read in
    let is : IsSalt bytes f.0.content f.1 = record { octets = f.0.whole; parts = t.parts; element_is = t.element_is; least = grind (arith, nat_tests, l.0); most = grind (arith, nat_tests, l.1) } in
    subst (λ (q : List ℕ × List ℕ). IsSalt bytes q.0 q.1) same is))

salt_again : (octets salt rest : List ℕ) → IsElement octets 4 salt → 8 ≤ length salt → length salt ≤ 64 → salt_at (octets ++ rest) ≡ Some (salt, rest)
unfolding salt_at
salt_again octets salt rest is least most =
    let a : nat_le 8 (length salt) ≡ true = grind (arith, nat_tests) in
    let b : nat_le (length salt) 64 ≡ true = grind (arith, nat_tests) in
    rw (field_reads 4 (octets ++ rest) octets salt rest is refl, a, b) refl

-- a count of rounds, and what follows it
record IsCounted (bytes : List ℕ) (n : ℕ) (rest : List ℕ) : Type 0 where
  octets : List ℕ
  content : List ℕ
  parts : bytes ≡ octets ++ rest
  element_is : IsElement octets 2 content
  is_count : IsCount content n

counted_takes : (bytes : List ℕ) (r : ℕ × List ℕ) → count_at bytes ≡ Some r → IsCounted bytes r.0 r.1
unfolding count_at integer_at
counted_takes bytes r e =
    bound (IsCounted bytes r.0 r.1) (field_at 2 bytes) _ r e (λ f read e1.
    bound (IsCounted bytes r.0 r.1) (ok_of (integer_at f.0)) _ r e1 (λ number ok e2.
    bound (IsCounted bytes r.0 r.1) (rounds_of number) _ r e2 (λ n rounds last.
    ok_by (IsCounted bytes r.0 r.1) (eqb f.0.tag 2) (is_integer f.0.content) f.0.content number ok (λ s form value.
    let t = field_takes 2 bytes f.0 f.1 read in
    let is : IsCounted bytes n f.1 = record { octets = f.0.whole; content = f.0.content; parts = t.parts; element_is = t.element_is; is_count = count_takes f.0.content n form (ap rounds_of value ∙ rounds) } in
    subst (λ (q : ℕ × List ℕ). IsCounted bytes q.0 q.1) (some_same (n, f.1) r last) is))))

counted_again : (octets content rest : List ℕ) (n : ℕ) → IsElement octets 2 content → IsCount content n → count_at (octets ++ rest) ≡ Some (n, rest)
unfolding count_at integer_at
counted_again octets content rest n is h =
    ap (λ (r : Option (Part × List ℕ)). r >>= λ f. (ok_of (integer_at f.0) >>= λ number. (rounds_of number >>= λ rounds. Some (rounds, f.1)))) (field_reads 2 (octets ++ rest) octets content rest is refl)
    ∙ ap (λ (r : Result (List ℕ) DerFault). ok_of r >>= λ number. (rounds_of number >>= λ rounds. Some (rounds, rest))) (value_again 2 is_integer (λ (l : List ℕ). l) content h.form)
    ∙ ap (λ (r : Option ℕ). r >>= λ rounds. Some (rounds, rest)) (count_again content n h)

-- the length of the key, where it is written
record IsKeyed (bytes rest : List ℕ) : Type 0 where
  octets : List ℕ
  parts : bytes ≡ octets ++ rest
  is_length : (octets ≡ []) ⊎ IsElement octets 2 (32 ∷ [])

keyed_of : (bytes whole content behind rest : List ℕ) → IsElement whole 2 content → bytes ≡ whole ++ behind → content ≡ 32 ∷ [] → behind ≡ rest → IsKeyed bytes rest
keyed_of bytes whole content behind rest is parts long same = record {
  octets = whole;
  parts = subst (λ (l : List ℕ). bytes ≡ whole ++ l) same parts;
  is_length = inr (subst (λ (l : List ℕ). IsElement whole 2 l) long is);
}

key_by : (b : Bool) (bytes rest : List ℕ) → (cond b (field_at 2 bytes >>= λ f. Some (Some f.0, f.1)) (Some (None, bytes)) >>= behind_length) ≡ Some rest → IsKeyed bytes rest
key_by true bytes rest e =
    bound (IsKeyed bytes rest) (field_at 2 bytes >>= λ f. Some (Some f.0, f.1)) behind_length rest e (λ q read e1.
    bound (IsKeyed bytes rest) (field_at 2 bytes) (λ (f : Part × List ℕ). Some (Some f.0, f.1)) q read (λ f there same.
    let here : behind_length (Some f.0, f.1) ≡ Some rest = ap behind_length (some_same (Some f.0, f.1) q same) ∙ e1 in
    passed (IsKeyed bytes rest) (bytes_eq f.0.content (32 ∷ [])) f.1 rest here (λ long behind.
    let t = field_takes 2 bytes f.0 f.1 there in
    keyed_of bytes f.0.whole f.0.content f.1 rest t.element_is t.parts (same_octets f.0.content (32 ∷ []) long) behind)))
key_by false bytes rest e = record { octets = []; parts = some_same bytes rest e; is_length = inl refl }

key_takes : (bytes rest : List ℕ) → key_length_at bytes ≡ Some rest → IsKeyed bytes rest
unfolding key_length_at optional_at
key_takes [] rest e = record { octets = []; parts = some_same [] rest e; is_length = inl refl }
key_takes (first ∷ more) rest e = key_by (eqb first 2) (first ∷ more) rest e

key_there : (bytes more : List ℕ) (f : Part × List ℕ) → bytes ≡ 2 ∷ more → field_at 2 bytes ≡ Some f → optional_at 2 bytes ≡ Some (Some f.0, f.1)
unfolding optional_at
key_there [] more f e h = cc
key_there (first ∷ rest) more f e h =
    let same : first ≡ 2 = cc in
    let test : eqb first 2 ≡ true = grind (arith, nat_tests) in
    rw (test, h) refl

-- an element begins with its tag
begins : (octets : List ℕ) (tag : ℕ) (content : List ℕ) → IsElement octets tag content → (more : List ℕ) × (octets ≡ tag ∷ more)
unfolding element
begins octets tag content is = (_, is.spelled)

above_two : (prf content : List ℕ) → IsElement prf 0x30 content → Above 2 prf
above_two prf content is = let b = begins prf 0x30 content is in subst (Above 2) (sym b.1) (omega arith)

key_again : (key prf content : List ℕ) → IsElement prf 0x30 content → (key ≡ []) ⊎ IsElement key 2 (32 ∷ []) → key_length_at (key ++ prf) ≡ Some prf
unfolding key_length_at
key_again key prf content is (inl e) = rw e (ap (λ (r : Option (Option Part × List ℕ)). r >>= behind_length) (optional_above 2 prf (above_two prf content is)))
key_again key prf content is (inr k) =
    let b = begins key 2 (32 ∷ []) k in
    ap (λ (r : Option (Option Part × List ℕ)). r >>= behind_length)
    (key_there (key ++ prf) (b.0 ++ prf) (part 2 (32 ∷ []), prf) (ap (λ (l : List ℕ). l ++ prf) b.1) (field_reads 2 (key ++ prf) key (32 ∷ []) prf k refl))

-- the parameters of PBKDF2
kdf_parts : (content so r1 co r2 ko r3 : List ℕ) → content ≡ so ++ r1 → r1 ≡ co ++ r2 → r2 ≡ ko ++ r3 → content ≡ so ++ (co ++ (ko ++ r3))
kdf_parts content so r1 co r2 ko r3 a b c = rw (a, b, c) refl

kdf_takes : (content : List ℕ) (m : MacParams) → kdf_inside content ≡ Some m → IsKdfContent content m.salt m.rounds
unfolding kdf_inside
kdf_takes content m e =
    bound (IsKdfContent content m.salt m.rounds) (salt_at content) _ m e (λ salt q1 e1.
    bound (IsKdfContent content m.salt m.rounds) (count_at salt.1) _ m e1 (λ count q2 e2.
    bound (IsKdfContent content m.salt m.rounds) (key_length_at count.1) _ m e2 (λ rest q3 e3.
    bound (IsKdfContent content m.salt m.rounds) (sole_hmac_at rest) _ m e3 (λ prf q4 last.
    let s = salt_takes content salt q1 in
    let c = counted_takes salt.1 count q2 in
    let k = key_takes count.1 rest q3 in
    let is : IsKdfContent content salt.0 count.0 = record {
      salt_element = s.octets;
      count_element = c.octets;
      count = c.content;
      key_length = k.octets;
      prf = rest;
      parts = kdf_parts content s.octets salt.1 c.octets count.1 k.octets rest s.parts c.parts k.parts;
      is_salt = s.element_is;
      salt_least = s.least;
      salt_most = s.most;
      count_is = c.element_is;
      is_count = c.is_count;
      is_key_length = k.is_length;
      is_prf = hmac_takes rest prf q4;
    } in
    subst (λ (x : MacParams). IsKdfContent content x.salt x.rounds) (some_same (mac_params salt.0 count.0) m last) is))))

kdf_again : (content salt : List ℕ) (rounds : ℕ) → IsKdfContent content salt rounds → kdf_inside content ≡ Some (mac_params salt rounds)
unfolding kdf_inside
kdf_again content salt rounds h =
    rw (
      h.parts,
      salt_again h.salt_element salt (h.count_element ++ (h.key_length ++ h.prf)) h.is_salt h.salt_least h.salt_most,
      counted_again h.count_element h.count (h.key_length ++ h.prf) rounds h.count_is h.is_count,
      key_again h.key_length h.prf (algorithm_content h.is_prf.algorithm) h.is_prf.is_algorithm.alone h.is_key_length,
      hmac_again h.prf h.is_prf,
    ) refl

-- parameters inside the SEQUENCE of an algorithm
record IsInside (inner : List ℕ → Option MacParams) (oid : List ℕ) (a : Algorithm) (m : MacParams) : Type 0 where
  params : List ℕ
  content : List ℕ
  named : a.oid ≡ oid
  given : a.params ≡ Some params
  is_sequence : IsElement params 0x30 content
  inner_gives : inner content ≡ Some m

whole_takes : (inner : List ℕ → Option MacParams) (oid : List ℕ) (a : Algorithm) (m : MacParams) (o : Option (List ℕ)) → a.oid ≡ oid → a.params ≡ o → inside_whole inner o ≡ Some m → IsInside inner oid a m
whole_takes inner oid a m None named given e = absurd (none_some m e)
whole_takes inner oid a m (Some params) named given e =
    bound (IsInside inner oid a m) (sole_at 0x30 params) (λ (s : Part). inner s.content) m e (λ s read last.
    let t = sole_takes 0x30 params s read in
    record {
      params = params;
      content = s.content;
      named = named;
      given = given;
      is_sequence = subst (λ (l : List ℕ). IsElement l 0x30 s.content) (sym (t.parts ∙ append-nil s.whole)) t.element_is;
      inner_gives = last;
    })

inside_takes : (inner : List ℕ → Option MacParams) (oid : List ℕ) (a : Algorithm) (m : MacParams) → inside_params inner oid a ≡ Some m → IsInside inner oid a m
inside_takes inner oid a m e =
    let c = chosen (bytes_eq a.oid oid) (inside_whole inner a.params) m e in
    whole_takes inner oid a m a.params (same_octets a.oid oid c.0) refl c.1

inside_again : (inner : List ℕ → Option MacParams) (oid : List ℕ) (a : Algorithm) (m : MacParams) (params content : List ℕ) → a.oid ≡ oid → a.params ≡ Some params → IsElement params 0x30 content → inner content ≡ Some m → inside_params inner oid a ≡ Some m
inside_again inner oid a m params content named given is e =
    rw (octets_same a.oid oid named, given, sole_reads 0x30 params content is) e

-- the parameters of PBMAC1
record IsScheme (content salt : List ℕ) (rounds : ℕ) : Type 0 where
  kdf : List ℕ
  mac : List ℕ
  parts : content ≡ kdf ++ mac
  is_kdf : IsKdf kdf salt rounds
  is_mac : IsHmac mac

scheme_takes : (content : List ℕ) (m : MacParams) → scheme_inside content ≡ Some m → IsScheme content m.salt m.rounds
unfolding scheme_inside
scheme_takes content m e =
    bound (IsScheme content m.salt m.rounds) (field_at 0x30 content) _ m e (λ kdf q1 e1.
    bound (IsScheme content m.salt m.rounds) (alg_inside kdf.0.content) _ m e1 (λ a q2 e2.
    bound (IsScheme content m.salt m.rounds) (sole_hmac_at kdf.1) _ m e2 (λ mac q3 last.
    let t = field_takes 0x30 content kdf.0 kdf.1 q1 in
    let i = inside_takes kdf_inside pbkdf2_oid a m last in
    record {
      kdf = kdf.0.whole;
      mac = kdf.1;
      parts = t.parts;
      is_kdf = record {
        algorithm = a;
        params = i.params;
        content = i.content;
        is_algorithm = alg_stands kdf.0.whole kdf.0.content a t.element_is q2;
        named = i.named;
        given = i.given;
        is_sequence = i.is_sequence;
        is_content = kdf_takes i.content m i.inner_gives;
      };
      is_mac = hmac_takes kdf.1 mac q3;
    })))

scheme_again : (kdf mac salt : List ℕ) (rounds : ℕ) → IsKdf kdf salt rounds → IsHmac mac → scheme_inside (kdf ++ mac) ≡ Some (mac_params salt rounds)
unfolding scheme_inside
scheme_again kdf mac salt rounds k h =
    rw (
      field_reads 0x30 (kdf ++ mac) kdf (algorithm_content k.algorithm) mac k.is_algorithm.alone refl,
      alg_again k.algorithm k.is_algorithm.fits,
      hmac_again mac h,
    )
    (inside_again kdf_inside pbkdf2_oid k.algorithm (mac_params salt rounds) k.params k.content k.named k.given k.is_sequence (kdf_again k.content salt rounds k.is_content))

params_takes : (a : Algorithm) (m : MacParams) → params_at a ≡ Some m → IsPbmac1 a m.salt m.rounds
unfolding params_at
params_takes a m e =
    let i = inside_takes scheme_inside pbmac1 a m e in
    let s = scheme_takes i.content m i.inner_gives in
    record { params = i.params; content = i.content; kdf = s.kdf; mac = s.mac; named = i.named; given = i.given; is_sequence = i.is_sequence; parts = s.parts; is_kdf = s.is_kdf; is_mac = s.is_mac }

params_again : (a : Algorithm) (salt : List ℕ) (rounds : ℕ) → IsPbmac1 a salt rounds → params_at a ≡ Some (mac_params salt rounds)
unfolding params_at
params_again a salt rounds h =
    let inner : scheme_inside h.content ≡ Some (mac_params salt rounds) = ap scheme_inside h.parts ∙ scheme_again h.kdf h.mac salt rounds h.is_kdf h.is_mac in
    inside_again scheme_inside pbmac1 a (mac_params salt rounds) h.params h.content h.named h.given h.is_sequence inner

pub params_are_spelled : ParamsAreSpelled
params_are_spelled a p = (params_takes a p, λ h. params_again a p.salt p.rounds h)

pub params_are_one : ParamsAreOne
params_are_one a salt other rounds count h i =
    let same = some_same (mac_params salt rounds) (mac_params other count) (sym (params_again a salt rounds h) ∙ params_again a other count i) in
    (ap (λ (m : MacParams). m.salt) same, ap (λ (m : MacParams). m.rounds) same)
