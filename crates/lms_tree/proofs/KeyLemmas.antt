-- Facts on a key whose codes are in the tables.
use Rattle.std.proofs.Common.{◌≡◌, ℕ, List, [], ◌+◌, ◌*◌, ◌^◌, ◌≤◌, ◌++◌, get_or, sym, ◌∙◌, ap, ap₂, subst, arith}
use Rattle.std.specs.Prelude.{Option, Some, None, MatchOption}
use Rattle.std.specs.Int.{w32, to_be_bytes}
use Rattle.std.proofs.lemmas.List.{get_or_read}
use Rattle.std.proofs.lemmas.Nat.{pow_pos}
use Rattle.lms_params.specs.Parameters.{OtsRow, ots_row, tree_height}
use Rattle.lm_ots.specs.Signatures.{ots_signature}
use Rattle.lms_tree.specs.Nodes.{AreNodes, path}
use Rattle.lms_tree.specs.Keys.{Secret, ForKnown, IsGrown, IsPublicKey, keys_of, public_key, tree_signature}

-- a fact on the value that is there
pub match_some : {A : Type 0} (o : Option A) (x : A) (P : A → Type 0) → o ≡ Some x → P x → MatchOption o ⊥ P
match_some o x P e p = subst (λ (v : Option _). MatchOption v ⊥ P) (sym e) p

-- .. and from it
pub from_match_some : {A : Type 0} (o : Option A) (x : A) (P : A → Type 0) → o ≡ Some x → MatchOption o ⊥ P → P x
from_match_some o x P e p = subst (λ (v : Option _). MatchOption v ⊥ P) e p

-- what holds of known sets holds of a key
pub for_known : (s : Secret) (h : ℕ) (row : OtsRow) (P : ℕ → OtsRow → Type 0) → tree_height s.tree ≡ Some h → ots_row s.ots ≡ Some row → P h row → ForKnown s P
for_known s h row P known_h known_row p =
    match_some (tree_height s.tree) h (λ k. MatchOption (ots_row s.ots) ⊥ (λ r. P k r)) known_h
    (match_some (ots_row s.ots) row (λ r. P h r) known_row p)

pub from_known : (s : Secret) (h : ℕ) (row : OtsRow) (P : ℕ → OtsRow → Type 0) → tree_height s.tree ≡ Some h → ots_row s.ots ≡ Some row → ForKnown s P → P h row
from_known s h row P known_h known_row p =
    from_match_some (ots_row s.ots) row (λ r. P h r) known_row
    (from_match_some (tree_height s.tree) h (λ k. MatchOption (ots_row s.ots) ⊥ (λ r. P k r)) known_h p)

-- one fact on the sets from another
map_match : (o : Option ℕ) (r : Option OtsRow) (P Q : ℕ → OtsRow → Type 0) → ((h : ℕ) (row : OtsRow) → P h row → Q h row)
    → MatchOption o ⊥ (λ h. MatchOption r ⊥ (λ row. P h row)) → MatchOption o ⊥ (λ h. MatchOption r ⊥ (λ row. Q h row))
map_match None r P Q f p = p
map_match (Some h) None P Q f p = p
map_match (Some h) (Some row) P Q f p = f h row p

-- the public key of a key whose nodes are there
pub public_of_grown : (s : Secret) (nodes : List (List ℕ)) (root octets : List ℕ) → IsGrown s nodes → root ≡ get_or nodes 1 root
    → octets ≡ to_be_bytes w32 s.tree ++ to_be_bytes w32 s.ots ++ s.id ++ root → IsPublicKey s octets
unfolding public_key
public_of_grown s nodes root octets grown read is =
    map_match (tree_height s.tree) (ots_row s.ots)
    (λ h row. AreNodes (keys_of row s) s.id h 1 (2 * 2 ^ h) nodes)
    (λ h row. octets ≡ public_key h row s)
    (λ h row are.
    let some : 1 ≤ 2 ^ h = pow_pos h in
    let size = are.count in
    let found = get_or_read nodes 1 root (omega arith) read [] ∙ are.each 1 (omega arith) (omega arith) in
    is ∙ ap (λ (l : List ℕ). to_be_bytes w32 s.tree ++ to_be_bytes w32 s.ots ++ s.id ++ l) found)
    grown

-- a signature is written in four parts
pub signature_in_parts : (h : ℕ) (row : OtsRow) (s : Secret) (q : ℕ) (text none number first second code third fourth : List ℕ)
    → none ≡ [] → number ≡ to_be_bytes w32 q → first ≡ none ++ number
    → second ≡ first ++ ots_signature row s.ots s.seed s.id q text
    → code ≡ to_be_bytes w32 s.tree → third ≡ second ++ code
    → fourth ≡ third ++ path (keys_of row s) s.id h h (2 ^ h + q) → fourth ≡ tree_signature h row s q text
unfolding tree_signature
signature_in_parts h row s q text none number first second code third fourth empty is_number one two is_code three four =
    let sig = ots_signature row s.ots s.seed s.id q text in
    four ∙ ap (λ (l : List ℕ). l ++ path (keys_of row s) s.id h h (2 ^ h + q))
    (three ∙ ap₂ (λ (a b : List ℕ). a ++ b) (two ∙ ap (λ (l : List ℕ). l ++ sig) (one ∙ ap₂ (λ (a b : List ℕ). a ++ b) empty is_number)) is_code)
