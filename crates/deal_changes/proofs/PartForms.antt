-- The form of each part of a change.
use Rattle.std.proofs.Common.{◌≡◌, ℕ, zero, suc, ◌^◌, ◌<◌, ◌≤◌, Bool, true, false, cond, ltb, eqb, List, [], ◌∷◌, ◌++◌, length, Option, Some, None, refl, ap, subst, ◌∙◌, arith, IsTrue}
use Rattle.std.specs.Prelude.{IfSome}
use Rattle.std.specs.Int.{w16, w32, w64}
use Rattle.std.proofs.lemmas.Bool.{ltb-false, le-ltb, eqb-true, eq-eqb, ltb-true, lt-ltb}
use Rattle.std.proofs.lemmas.Bool.Decides.{nat_tests}
use Rattle.deal_changes.specs.declared.change.Kind.{Kind}
use Rattle.deal_changes.specs.declared.change.Kind.TheVariants.{Mac, Lms}
use Rattle.deal_changes.specs.declared.change.Who.{Who}
use Rattle.deal_changes.specs.declared.change.Who.TheVariants.{Listed, Cert}
use Rattle.deal_changes.specs.declared.change.Body4.{Body4}
use Rattle.deal_changes.specs.declared.change.Body4.TheVariants.{Ir, Cr, P10cr, Kur}
use Rattle.deal_changes.specs.Spki.{is_spki, is_ca_name}
use Rattle.deal_changes.specs.Spelling as text
use Rattle.deal_changes.specs.Spelling.{u16, u32, u64, IsBlob, IsShort, IsTid, IsWho, IsListed, IsStamp, IsWish, AreSettings, IsCredential, AreCredentials}
use Rattle.deal_changes.specs.Reading.{Read, ◌>>=◌, octet_at, octets_at, number_at, coded_at, short_at, tid_at, key_id_at, blob_at, spki_at, name_at, leaf_at, kind_of, body_of, outcome_of, flags_of, rights_of, listed_at, sender_at, who_at, dismissed_at}
use Rattle.deal_changes.proofs.Forms.{IsBytes, IsBytes-rest, bind_some, if_some, none_some, got, got_pair, Took, Nothing, IsRest, IsForm, fitting, seq, passing, failing, octet_form, octets_rest, form16, form32, form64, coded_form}

-- ---- numbers

pub u16_form : IsForm (number_at w16) u16 (λ n. n < 2 ^ 16)
unfolding u16
u16_form = form16

pub u32_form : IsForm (number_at w32) u32 (λ n. n < 2 ^ 32)
unfolding u32
u32_form = form32

pub u64_form : IsForm (number_at w64) u64 (λ n. n < 2 ^ 64)
unfolding u64
u64_form = form64

-- ---- octets behind their number

short_rest : (n : ℕ) → IsRest (λ b. cond (ltb 64 n) None (octets_at n b)) (λ o. o) IsShort (λ o. Nothing o × (length o ≡ n))
short_rest n = record {
  takes = λ bytes y rest fits e.
      if_some (Took bytes y rest × IsShort y × (Nothing y × (length y ≡ n))) (ltb 64 n) None (octets_at n bytes) (y, rest)
      (λ above q. none_some _ _ q)
      (λ within q.
      let t0 = (octets_rest n).takes bytes y rest fits q in
      let low : n ≤ 64 = ltb-false _ _ within in
      (t0.0, omega (arith, low, t0.2), (tt, t0.2))) e;
  again = λ y rest fits known.
      let low : ltb 64 n ≡ false = le-ltb _ _ (omega (arith, known.1)) in
      rw low ((octets_rest n).again y rest tt known.1);
}

pub short_form : IsForm short_at text.short IsShort
unfolding short_at
short_form = fitting _ _ _ _ _ (λ o h. h.1) (λ o h. (omega arith, h))
    (seq length octet_at (λ n. n ∷ []) (λ n. n < 2 ^ 8) (λ n. cond (ltb 64 n.0) None (octets_at n.0 n.1)) (λ o. o) IsShort Nothing octet_form short_rest)

tid_fits : (tid : List ℕ) → IsShort tid × (eqb (length tid) 0 ≡ false) → IsTid tid
tid_fits [] h = absurd (let e : true ≡ false = h.1 in cc)
tid_fits (x ∷ xs) h = (omega arith, h.0)

not_zero : (n : ℕ) → 1 ≤ n → eqb n 0 ≡ false
not_zero n h = grind (arith, nat_tests)

tid_passes : (tid : List ℕ) → IsTid tid → IsShort tid × (eqb (length tid) 0 ≡ false)
tid_passes tid h = (h.1, not_zero (length tid) h.0)

pub tid_form : IsForm tid_at text.short IsTid
unfolding tid_at
tid_form = fitting _ _ _ _ _ tid_fits tid_passes (failing (λ tid. eqb (length tid) 0) short_at text.short IsShort Nothing short_form)

pub key_id_form : IsForm key_id_at text.short (λ id. length id ≡ 20)
unfolding key_id_at
key_id_form = fitting _ _ _ _ _ (λ id h. eqb-true (length id) 20 h.1) (λ id h. (omega (arith, h), eq-eqb (length id) 20 h)) (passing (λ id. eqb (length id) 20) short_at text.short IsShort Nothing short_form)

pub blob_form : IsForm blob_at text.blob IsBlob
unfolding blob_at
blob_form = fitting _ _ _ _ _ (λ o h. h.0) (λ o h. (h, tt))
    (seq length (number_at w32) u32 (λ n. n < 2 ^ 32) (λ n. octets_at n.0 n.1) (λ o. o) Nothing Nothing u32_form
    (λ n. record { takes = λ bytes y rest fits e. let t0 = (octets_rest n).takes bytes y rest fits e in (t0.0, tt, (tt, t0.2)); again = λ y rest fits known. (octets_rest n).again y rest tt known.1 }))

pub spki_form : IsForm spki_at text.blob (λ o. IsBlob o × IsTrue (is_spki o))
unfolding spki_at
spki_form = passing is_spki blob_at text.blob IsBlob Nothing blob_form

pub name_form : IsForm name_at text.blob (λ o. IsBlob o × IsTrue (is_ca_name o))
unfolding name_at
name_form = passing is_ca_name blob_at text.blob IsBlob Nothing blob_form

-- ---- octets that stand for something

kind_back : (n : ℕ) (k : Kind) → kind_of n ≡ Some k → (n ≡ text.kind k) × Nothing k
kind_back n k e = if_some ((n ≡ text.kind k) × Nothing k) (eqb n 1) (Some Mac) (cond (eqb n 2) (Some Lms) None) k
    (λ one q. let p : Mac ≡ k = cc in (eqb-true n 1 one ∙ ap text.kind p, tt))
    (λ _ q. if_some ((n ≡ text.kind k) × Nothing k) (eqb n 2) (Some Lms) None k
    (λ two q. let p : Lms ≡ k = cc in (eqb-true n 2 two ∙ ap text.kind p, tt))
    (λ _ q. none_some _ _ q) q) e

kind_onward : (k : Kind) → Nothing k → kind_of (text.kind k) ≡ Some k
kind_onward Mac h = refl
kind_onward Lms h = refl

pub kind_form : IsForm (coded_at kind_of) (λ k. text.kind k ∷ []) Nothing
kind_form = coded_form kind_of text.kind Nothing kind_back kind_onward

body_back : (n : ℕ) (b : Body4) → body_of n ≡ Some b → (n ≡ text.body b) × Nothing b
body_back n b e = if_some ((n ≡ text.body b) × Nothing b) (eqb n 0) (Some Ir) (cond (eqb n 2) (Some Cr) (cond (eqb n 4) (Some P10cr) (cond (eqb n 7) (Some Kur) None))) b
    (λ is q. let p : Ir ≡ b = cc in (eqb-true n 0 is ∙ ap text.body p, tt))
    (λ _ q. if_some ((n ≡ text.body b) × Nothing b) (eqb n 2) (Some Cr) (cond (eqb n 4) (Some P10cr) (cond (eqb n 7) (Some Kur) None)) b
    (λ is q. let p : Cr ≡ b = cc in (eqb-true n 2 is ∙ ap text.body p, tt))
    (λ _ q. if_some ((n ≡ text.body b) × Nothing b) (eqb n 4) (Some P10cr) (cond (eqb n 7) (Some Kur) None) b
    (λ is q. let p : P10cr ≡ b = cc in (eqb-true n 4 is ∙ ap text.body p, tt))
    (λ _ q. if_some ((n ≡ text.body b) × Nothing b) (eqb n 7) (Some Kur) None b
    (λ is q. let p : Kur ≡ b = cc in (eqb-true n 7 is ∙ ap text.body p, tt))
    (λ _ q. none_some _ _ q) q) q) q) e

body_onward : (b : Body4) → Nothing b → body_of (text.body b) ≡ Some b
body_onward Ir h = refl
body_onward Cr h = refl
body_onward P10cr h = refl
body_onward Kur h = refl

pub body_form : IsForm (coded_at body_of) (λ b. text.body b ∷ []) Nothing
body_form = coded_form body_of text.body Nothing body_back body_onward

outcome_back : (n : ℕ) (b : Bool) → outcome_of n ≡ Some b → (n ≡ text.outcome b) × Nothing b
outcome_back n b e = if_some ((n ≡ text.outcome b) × Nothing b) (eqb n 1) (Some true) (cond (eqb n 2) (Some false) None) b
    (λ is q. let p : true ≡ b = cc in (eqb-true n 1 is ∙ ap text.outcome p, tt))
    (λ _ q. if_some ((n ≡ text.outcome b) × Nothing b) (eqb n 2) (Some false) None b
    (λ is q. let p : false ≡ b = cc in (eqb-true n 2 is ∙ ap text.outcome p, tt))
    (λ _ q. none_some _ _ q) q) e

outcome_onward : (b : Bool) → Nothing b → outcome_of (text.outcome b) ≡ Some b
outcome_onward true h = refl
outcome_onward false h = refl

pub outcome_form : IsForm (coded_at outcome_of) (λ b. text.outcome b ∷ []) Nothing
outcome_form = coded_form outcome_of text.outcome Nothing outcome_back outcome_onward

abbrev both_flags : Bool × Bool → ℕ
both_flags f = text.flags f.0 f.1

abbrev pair : Bool → Bool → Bool × Bool
pair a b = (a, b)

flags_back : (n : ℕ) (f : Bool × Bool) → flags_of n ≡ Some f → (n ≡ both_flags f) × Nothing f
flags_back n f e = if_some ((n ≡ both_flags f) × Nothing f) (eqb n 0) (Some (pair false false)) (cond (eqb n 1) (Some (pair true false)) (cond (eqb n 2) (Some (pair false true)) (cond (eqb n 3) (Some (pair true true)) None))) f
    (λ is q. let p : pair false false ≡ f = cc in (eqb-true n 0 is ∙ ap both_flags p, tt))
    (λ _ q. if_some ((n ≡ both_flags f) × Nothing f) (eqb n 1) (Some (pair true false)) (cond (eqb n 2) (Some (pair false true)) (cond (eqb n 3) (Some (pair true true)) None)) f
    (λ is q. let p : pair true false ≡ f = cc in (eqb-true n 1 is ∙ ap both_flags p, tt))
    (λ _ q. if_some ((n ≡ both_flags f) × Nothing f) (eqb n 2) (Some (pair false true)) (cond (eqb n 3) (Some (pair true true)) None) f
    (λ is q. let p : pair false true ≡ f = cc in (eqb-true n 2 is ∙ ap both_flags p, tt))
    (λ _ q. if_some ((n ≡ both_flags f) × Nothing f) (eqb n 3) (Some (pair true true)) None f
    (λ is q. let p : pair true true ≡ f = cc in (eqb-true n 3 is ∙ ap both_flags p, tt))
    (λ _ q. none_some _ _ q) q) q) q) e

flags_onward_of : (a b : Bool) → flags_of (text.flags a b) ≡ Some (pair a b)
flags_onward_of true true = refl
flags_onward_of true false = refl
flags_onward_of false true = refl
flags_onward_of false false = refl

pub flags_form : IsForm (coded_at flags_of) (λ f. text.flags f.0 f.1 ∷ []) Nothing
flags_form = coded_form flags_of both_flags Nothing flags_back (λ f h. flags_onward_of f.0 f.1)

rights_back : (n r : ℕ) → rights_of n ≡ Some r → (n ≡ r) × (r < 32)
rights_back n r e = if_some ((n ≡ r) × (r < 32)) (ltb n 32) (Some n) None r
    (λ is q. let p : n ≡ r = cc in (p, omega (arith, ltb-true n 32 is, p)))
    (λ _ q. none_some _ _ q) e

rights_onward : (r : ℕ) → r < 32 → rights_of r ≡ Some r
rights_onward r h = rw (lt-ltb r 32 h) refl

pub rights_form : IsForm (coded_at rights_of) (λ r. r ∷ []) (λ r. r < 32)
rights_form = coded_form rights_of (λ r. r) (λ r. r < 32) rights_back rights_onward

-- ---- a leaf that may be absent

leaf_takes : (bytes : List ℕ) (o : Option ℕ) (rest : List ℕ) → IsBytes bytes → leaf_at bytes ≡ got o rest → Took bytes (text.optional o) rest × IfSome o (λ l. l < 2 ^ 32) × Nothing o
unfolding leaf_at
leaf_takes [] o rest fits e = none_some _ _ e
leaf_takes (zero ∷ bytes) o rest fits e =
    let p = got_pair None o bytes rest e in
    subst (λ (q : List ℕ). Took (0 ∷ bytes) (text.optional o) q × IfSome o (λ l. l < 2 ^ 32) × Nothing o) p.1
    (subst (λ (v : Option ℕ). Took (0 ∷ bytes) (text.optional v) bytes × IfSome v (λ l. l < 2 ^ 32) × Nothing v) p.0 (record { parts = refl; rest_fits = IsBytes-rest 0 bytes fits }, tt, tt))
leaf_takes (suc zero ∷ bytes) o rest fits e =
    let b = bind_some (number_at w32 bytes) (λ n. Some (Some n.0, n.1)) (o, rest) e in
    let t0 = u32_form.takes bytes b.0.0 b.0.1 (IsBytes-rest 1 bytes fits) b.1 in
    let p = got_pair (Some b.0.0) o b.0.1 rest b.2 in
    subst (λ (q : List ℕ). Took (1 ∷ bytes) (text.optional o) q × IfSome o (λ l. l < 2 ^ 32) × Nothing o) p.1
    (subst (λ (v : Option ℕ). Took (1 ∷ bytes) (text.optional v) b.0.1 × IfSome v (λ l. l < 2 ^ 32) × Nothing v) p.0 (record { parts = ap (λ (w : List ℕ). 1 ∷ w) t0.0.parts; rest_fits = t0.0.rest_fits }, t0.1, tt))
leaf_takes (suc (suc b) ∷ bytes) o rest fits e = none_some _ _ e

leaf_again : (o : Option ℕ) (rest : List ℕ) → IfSome o (λ l. l < 2 ^ 32) → Nothing o → leaf_at (text.optional o ++ rest) ≡ got o rest
unfolding leaf_at
leaf_again None rest h known = refl
leaf_again (Some n) rest h known = rw (u32_form.again n rest h tt) refl

pub leaf_form : IsForm leaf_at text.optional (λ o. IfSome o (λ l. l < 2 ^ 32))
leaf_form = record { takes = leaf_takes; again = leaf_again }

-- ---- who

abbrev Sent : ℕ → List ℕ → Who → List ℕ → Type 0
Sent n bytes w rest = Took (n ∷ bytes) (text.who w) rest × IsWho w

moved_who : (n : ℕ) (bytes : List ℕ) (v w : Who) (after rest : List ℕ) → got v after ≡ got w rest → Took (n ∷ bytes) (text.who v) after × IsWho v → Sent n bytes w rest
moved_who n bytes v w after rest e t =
    let p = got_pair v w after rest e in
    subst (λ (q : List ℕ). Took (n ∷ bytes) (text.who w) q × IsWho w) p.1 (subst (λ (u : Who). Took (n ∷ bytes) (text.who u) after × IsWho u) p.0 t)

listed_takes : (n : ℕ) (bytes : List ℕ) (w : Who) (rest : List ℕ) → IsBytes bytes → listed_at n bytes ≡ got w rest → Sent n bytes w rest × IsListed w
unfolding listed_at
listed_takes n bytes w rest fits e =
    if_some (Sent n bytes w rest × IsListed w) (eqb n 1) (short_at bytes >>= λ id. Some (Listed Mac id.0, id.1)) (cond (eqb n 2) (key_id_at bytes >>= λ id. Some (Listed Lms id.0, id.1)) None) (w, rest)
    (λ is q.
    let a = bind_some (short_at bytes) (λ id. Some (Listed Mac id.0, id.1)) (w, rest) q in
    let t0 = short_form.takes bytes a.0.0 a.0.1 fits a.1 in
    let p = got_pair (Listed Mac a.0.0) w a.0.1 rest a.2 in
    let spelled : Took (n ∷ bytes) (text.who (Listed Mac a.0.0)) a.0.1 = record { parts = rw (eqb-true n 1 is) (ap (λ (o : List ℕ). 1 ∷ o) t0.0.parts); rest_fits = t0.0.rest_fits } in
    (moved_who n bytes (Listed Mac a.0.0) w a.0.1 rest a.2 (spelled, t0.1), subst IsListed p.0 t0.1))
    (λ _ q. if_some (Sent n bytes w rest × IsListed w) (eqb n 2) (key_id_at bytes >>= λ id. Some (Listed Lms id.0, id.1)) None (w, rest)
    (λ is q.
    let a = bind_some (key_id_at bytes) (λ id. Some (Listed Lms id.0, id.1)) (w, rest) q in
    let t0 = key_id_form.takes bytes a.0.0 a.0.1 fits a.1 in
    let p = got_pair (Listed Lms a.0.0) w a.0.1 rest a.2 in
    let spelled : Took (n ∷ bytes) (text.who (Listed Lms a.0.0)) a.0.1 = record { parts = rw (eqb-true n 2 is) (ap (λ (o : List ℕ). 2 ∷ o) t0.0.parts); rest_fits = t0.0.rest_fits } in
    (moved_who n bytes (Listed Lms a.0.0) w a.0.1 rest a.2 (spelled, t0.1), subst IsListed p.0 t0.1))
    (λ _ q. none_some _ _ q) q) e

sender_takes : (n : ℕ) (bytes : List ℕ) (w : Who) (rest : List ℕ) → IsBytes bytes → sender_at n bytes ≡ got w rest → Sent n bytes w rest
unfolding sender_at
sender_takes n bytes w rest fits e =
    if_some (Sent n bytes w rest) (eqb n 3) (number_at w64 bytes >>= λ serial. Some (Cert serial.0, serial.1)) (listed_at n bytes) (w, rest)
    (λ is q.
    let a = bind_some (number_at w64 bytes) (λ serial. Some (Cert serial.0, serial.1)) (w, rest) q in
    let t0 = u64_form.takes bytes a.0.0 a.0.1 fits a.1 in
    let spelled : Took (n ∷ bytes) (text.who (Cert a.0.0)) a.0.1 = record { parts = rw (eqb-true n 3 is) (ap (λ (o : List ℕ). 3 ∷ o) t0.0.parts); rest_fits = t0.0.rest_fits } in
    moved_who n bytes (Cert a.0.0) w a.0.1 rest a.2 (spelled, t0.1))
    (λ _ q. (listed_takes n bytes w rest fits q).0) e

coded_takes : (read : ℕ → List ℕ → Read Who) (P : Who → Type 0) → ((n : ℕ) (bytes : List ℕ) (w : Who) (rest : List ℕ) → IsBytes bytes → read n bytes ≡ got w rest → Took (n ∷ bytes) (text.who w) rest × P w)
    → (bytes : List ℕ) (w : Who) (rest : List ℕ) → IsBytes bytes → (octet_at bytes >>= λ n. read n.0 n.1) ≡ got w rest → Took bytes (text.who w) rest × P w × Nothing w
coded_takes read P takes [] w rest fits e = none_some _ _ e
coded_takes read P takes (n ∷ bytes) w rest fits e =
    let t0 = takes n bytes w rest (IsBytes-rest n bytes fits) e in
    (t0.0, t0.1, tt)

who_again : (w : Who) (rest : List ℕ) → IsWho w → Nothing w → who_at (text.who w ++ rest) ≡ got w rest
unfolding who_at sender_at listed_at
who_again (Listed Mac id) rest h known = rw (short_form.again id rest h tt) refl
who_again (Listed Lms id) rest h known = rw (key_id_form.again id rest h tt) refl
who_again (Cert serial) rest h known = rw (u64_form.again serial rest h tt) refl

pub who_form : IsForm who_at text.who IsWho
unfolding who_at
who_form = record { takes = coded_takes sender_at IsWho sender_takes; again = who_again }

dismissed_again : (w : Who) (rest : List ℕ) → IsListed w → Nothing w → dismissed_at (text.who w ++ rest) ≡ got w rest
unfolding dismissed_at listed_at
dismissed_again (Listed Mac id) rest h known = rw (short_form.again id rest h tt) refl
dismissed_again (Listed Lms id) rest h known = rw (key_id_form.again id rest h tt) refl
dismissed_again (Cert serial) rest h known = elim h [ ]

pub dismissed_form : IsForm dismissed_at text.who IsListed
unfolding dismissed_at
dismissed_form = record { takes = coded_takes listed_at IsListed (λ n bytes w rest fits e. let t = listed_takes n bytes w rest fits e in (t.0.0, t.1)); again = dismissed_again }
