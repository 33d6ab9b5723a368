-- The keys and signatures of one level.
use Rattle.std.proofs.Common.{◌≡◌, ℕ, zero, suc, List, ◌+◌, ◌*◌, ◌/◌, ◌^◌, ◌<◌, ◌≤◌, ◌++◌, length, refl, sym, ◌∙◌, ap, arith, length-append, true, false}
use Rattle.std.specs.Prelude.{Bool, Option, None, Some, MatchOption, IsSome, nat_le, ◌==◌, if◌then◌else◌}
use Rattle.std.specs.Int.{w32, to_be_bytes}
use Rattle.sha2.proofs.Facts256.{length-sha256}
use Rattle.lms_params.specs.Parameters.{OtsRow, ots_row, tree_height}
use Rattle.lm_ots.specs.Signatures.{ots_signature}
use Rattle.lm_ots.proofs.Law.{length-ots_signature}
use Rattle.lms_tree.specs.Nodes.{node_within, node, leaf_hash, inner_hash, sibling, path}
use Rattle.lms_tree.specs.Keys.{Secret, ForKnown, IsPublicKey, IsSignature, keys_of, public_key, tree_signature}
use Rattle.lms_tree.specs.Verifies.{LmsOk}
use Rattle.lms_tree.proofs.Law.{lms_ok}
use Rattle.hss_sig.specs.Hss.{HssOk}
use Rattle.hss_sig.specs.OneLevel.{octets_of, power_of, leaf_count, hss_key, hss_signature, IsSized, SignaturesAreSized}

-- a public key has 56 octets
length_of_choice : (b : Bool) (x y : List ℕ) (n : ℕ) → length x ≡ n → length y ≡ n → length (if b then x else y) ≡ n
length_of_choice true x y n p q = p
length_of_choice false x y n p q = q

length-leaf_hash : (id : List ℕ) (r : ℕ) (key : List ℕ) → length (leaf_hash id r key) ≡ 32
unfolding leaf_hash
length-leaf_hash id r key = length-sha256 _

length-inner_hash : (id : List ℕ) (r : ℕ) (left right : List ℕ) → length (inner_hash id r left right) ≡ 32
unfolding inner_hash
length-inner_hash id r left right = length-sha256 _

length-node_within : (keys : ℕ → List ℕ) (id : List ℕ) (h n r : ℕ) → length (node_within keys id h n r) ≡ 32
unfolding node_within
length-node_within keys id h zero r = length-leaf_hash id r _
length-node_within keys id h (suc n) r =
    length_of_choice (nat_le (2 ^ h) r) _ _ 32 (length-leaf_hash id r _) (length-inner_hash id r _ _)

length-public_key : (h : ℕ) (row : OtsRow) (s : Secret) → length s.id ≡ 16 → length (public_key h row s) ≡ 56
unfolding public_key node
length-public_key h row s size =
    omega (arith, size, length-append s.id (node_within (keys_of row s) s.id h h 1), length-node_within (keys_of row s) s.id h h 1)

-- what is known of the sets, as one list of octets
pub octets_are : (o : Option ℕ) (r : Option OtsRow) (f g : ℕ → OtsRow → List ℕ) (front part whole : List ℕ)
    → ((h : ℕ) (row : OtsRow) → g h row ≡ front ++ f h row) → whole ≡ front ++ part
    → MatchOption o ⊥ (λ h. MatchOption r ⊥ (λ row. part ≡ f h row)) → whole ≡ octets_of o r g
octets_are None r f g front part whole joins is never = absurd never
octets_are (Some h) None f g front part whole joins is never = absurd never
octets_are (Some h) (Some row) f g front part whole joins is known = is ∙ ap (λ (l : List ℕ). front ++ l) known ∙ sym (joins h row)

no_row : (r : Option OtsRow) → r ≡ None → IsSome r → ⊥
no_row r none some = cc

-- each signature of one level is valid
verifies_in : (h : ℕ) (row : OtsRow) (s : Secret) (q : ℕ) (text : List ℕ) → LmsOk (public_key h row s) text (tree_signature h row s q text)
    → length s.id ≡ 16 → HssOk (to_be_bytes w32 1 ++ public_key h row s) text (to_be_bytes w32 0 ++ tree_signature h row s q text)
verifies_in h row s q text ok size =
    record {
      key_size = ap (λ (n : ℕ). suc (suc (suc (suc n)))) (length-public_key h row s size);
      some = omega arith;
      most = omega arith;
      sig_size = omega arith;
      same_levels = refl;
      levels = ok;
    }

verifies_for : (o : Option ℕ) (r : Option OtsRow) (s : Secret) (q : ℕ) (text : List ℕ) → tree_height s.tree ≡ o → ots_row s.ots ≡ r
    → length s.id ≡ 16 → s.tree < 2 ^ 32 → s.ots < 2 ^ 32 → q < 2 ^ 32 → q < power_of o → IsSome r
    → HssOk (octets_of o r (λ h row. to_be_bytes w32 1 ++ public_key h row s)) text (octets_of o r (λ h row. to_be_bytes w32 0 ++ tree_signature h row s q text))
verifies_for None r s q text known_h known_row size small_tree small_ots small lt some = absurd (omega arith)
verifies_for (Some h) None s q text known_h known_row size small_tree small_ots small lt some = absurd (no_row None refl some)
verifies_for (Some h) (Some row) s q text known_h known_row size small_tree small_ots small lt some =
    verifies_in h row s q text (lms_ok h row s q text known_h known_row size small_tree small_ots small lt) size

-- a tree has at most 2^25 leaves
few : (a b c d e : Bool)
    → power_of (if a then Some 5 else (if b then Some 10 else (if c then Some 15 else (if d then Some 20 else (if e then Some 25 else None))))) ≤ 33554432
few true b c d e = omega arith
few false true c d e = omega arith
few false false true d e = omega arith
few false false false true e = omega arith
few false false false false true = omega arith
few false false false false false = omega arith

few_leaves : (code : ℕ) → leaf_count code ≤ 33554432
few_leaves code = few (code == 5) (code == 6) (code == 7) (code == 8) (code == 9)

pub one_level_law : (s : Secret) (q : ℕ) (text : List ℕ) → IsSized s → IsSome (ots_row s.ots) → q < leaf_count s.tree
    → HssOk (hss_key s) text (hss_signature s q text)
unfolding hss_key hss_signature
one_level_law s q text known some lt =
    verifies_for (tree_height s.tree) (ots_row s.ots) s q text refl refl known.id_size known.small_tree known.small_ots
    (omega (arith, few_leaves s.tree)) lt some

-- a key of which something is known has a row
row_of : (o : Option ℕ) (r : Option OtsRow) (P : ℕ → OtsRow → Type 0) → MatchOption o ⊥ (λ h. MatchOption r ⊥ (λ row. P h row)) → IsSome r
row_of None r P never = absurd never
row_of (Some h) None P never = absurd never
row_of (Some h) (Some row) P known = refl

pub known_row : (s : Secret) (P : ℕ → OtsRow → Type 0) → ForKnown s P → IsSome (ots_row s.ots)
known_row s P known = row_of (tree_height s.tree) (ots_row s.ots) P known

-- the public key and the signature behind the number of levels
pub key_is : (s : Secret) (part whole : List ℕ) → whole ≡ to_be_bytes w32 1 ++ part → IsPublicKey s part → whole ≡ hss_key s
unfolding hss_key
key_is s part whole is known =
    octets_are (tree_height s.tree) (ots_row s.ots) (λ h row. public_key h row s) (λ h row. to_be_bytes w32 1 ++ public_key h row s)
    (to_be_bytes w32 1) part whole (λ h row. refl) is known

pub signature_is : (s : Secret) (q : ℕ) (text part whole : List ℕ) → whole ≡ to_be_bytes w32 0 ++ part → IsSignature s q text part
    → whole ≡ hss_signature s q text
unfolding hss_signature
signature_is s q text part whole is known =
    octets_are (tree_height s.tree) (ots_row s.ots) (λ h row. tree_signature h row s q text) (λ h row. to_be_bytes w32 0 ++ tree_signature h row s q text)
    (to_be_bytes w32 0) part whole (λ h row. refl) is known

-- how long a signature is
length-path : (keys : ℕ → List ℕ) (id : List ℕ) (h n r : ℕ) → length (path keys id h n r) ≡ 32 * n
unfolding path node
length-path keys id h zero r = refl
length-path keys id h (suc n) r =
    let one = length-node_within keys id h h (sibling r) in
    let more = length-path keys id h n (r / 2) in
    omega (arith, one, more, length-append (node_within keys id h h (sibling r)) (path keys id h n (r / 2)))

length-signature : (h : ℕ) (row : OtsRow) (s : Secret) (q : ℕ) (text : List ℕ) → length (to_be_bytes w32 0 ++ tree_signature h row s q text) ≡ 48 + 32 * row.p + 32 * h
unfolding tree_signature
length-signature h row s q text =
    let ots : List ℕ = ots_signature row s.ots s.seed s.id q text in
    let way : List ℕ = path (keys_of row s) s.id h h (2 ^ h + q) in
    omega (
      arith,
      length-ots_signature row s.ots s.seed s.id q text,
      length-path (keys_of row s) s.id h h (2 ^ h + q),
      length-append (to_be_bytes w32 q ++ ots ++ to_be_bytes w32 s.tree) way,
      length-append (to_be_bytes w32 q ++ ots) (to_be_bytes w32 s.tree),
    )

known_octets : (o : Option ℕ) (r : Option OtsRow) (f : ℕ → OtsRow → List ℕ) (h : ℕ) (row : OtsRow) → o ≡ Some h → r ≡ Some row → octets_of o r f ≡ f h row
known_octets o r f h row height chains = ap (λ (x : Option ℕ). octets_of x r f) height ∙ ap (λ (x : Option OtsRow). octets_of (Some h) x f) chains

pub signatures_are_sized : SignaturesAreSized
unfolding hss_signature
signatures_are_sized s q text h row height chains =
    ap (λ (l : List ℕ). length l) (known_octets (tree_height s.tree) (ots_row s.ots) (λ h row. to_be_bytes w32 0 ++ tree_signature h row s q text) h row height chains)
    ∙ length-signature h row s q text
