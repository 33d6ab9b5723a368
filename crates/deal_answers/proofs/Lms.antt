-- What the test of an HSS/LMS key tells of its length.
use Rattle.std.proofs.Common.{◌≡◌, ℕ, ◌≤◌, Bool, true, false, ◌&&◌, List, length, Option, Some, None, arith, refl, eqb}
use Rattle.std.proofs.lemmas.Bool.{eqb-true}
use Rattle.std.specs.Str.{bytes_eq}
use Rattle.deal_changes.specs.Spki.{PublicKey, public_key}
use Rattle.deal_model.specs.Keys.{key_in, key_of, hss_oid, is_hss, is_lms_key}

pub false_true : false ≡ true → ⊥
false_true e = cc

both : (a b : Bool) → (a && b) ≡ true → (a ≡ true) × (b ≡ true)
both true b e = (refl, e)
both false b e = cc

hss_fits : (found : Option PublicKey) → is_hss found ≡ true → length (key_in found) ≤ 64
hss_fits None e = cc
hss_fits (Some k) e =
    let last = both (bytes_eq k.algorithm hss_oid && eqb (length k.parameters) 0) (eqb (length k.key) 60) e in
    let is_60 : length k.key ≡ 60 = eqb-true (length k.key) 60 last.1 in
    omega (arith, is_60)

pub lms_key_fits : (spki : List ℕ) → is_lms_key spki ≡ true → length (key_of spki) ≤ 64
unfolding is_lms_key key_of
lms_key_fits spki e = hss_fits (public_key spki) e
