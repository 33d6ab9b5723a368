-- The tree's typecode stands in a public key.
use Rattle.std.proofs.Common.{◌≡◌, ℕ, ◌<◌, ◌≤◌, ◌^◌, List, ◌++◌, length, drop, ap, subst, sym, ◌∙◌, arith}
use Rattle.std.proofs.lemmas.Nat.{from_be_bytes-to_be_bytes_4}
use Rattle.std.specs.Prelude.{Option, None, Some}
use Rattle.std.specs.Int.{w32, to_be_bytes}
use Rattle.lms_params.specs.Parameters.{OtsRow, ots_row, tree_height}
use Rattle.lms_tree.specs.Keys.{Secret, public_key}
use Rattle.lms_tree.specs.Verifies.{u32_at}
use Rattle.hss_sig.specs.OneLevel.{octets_of, hss_key, leaf_count}
use Rattle.leaf_book.specs.Leaves.{lms_key, IsOwnSet}

known : (o : Option ℕ) (r : Option OtsRow) (f : ℕ → OtsRow → List ℕ) (n : ℕ) → length (drop 4 (octets_of o r f)) ≡ 56 → ((h : ℕ) (row : OtsRow) → u32_at (f h row) 4 ≡ n) → u32_at (octets_of o r f) 4 ≡ n
known None r f n size each = absurd (cc size)
known (Some h) None f n size each = absurd (cc size)
known (Some h) (Some row) f n size each = each h row

tree_in : (h : ℕ) (row : OtsRow) (s : Secret) → s.tree < 2 ^ 32 → u32_at (to_be_bytes w32 1 ++ public_key h row s) 4 ≡ s.tree
unfolding public_key
tree_in h row s small = from_be_bytes-to_be_bytes_4 s.tree small

-- behind the number of levels a public key has its tree's typecode (RFC 8554, 5.3 and 6.1)
pub tree_of : (s : Secret) → length (lms_key s) ≡ 56 → s.tree ≤ 7 → u32_at (hss_key s) 4 ≡ s.tree
unfolding hss_key
tree_of s size low = known (tree_height s.tree) (ots_row s.ots) (λ h row. to_be_bytes w32 1 ++ public_key h row s) s.tree size (λ h row. tree_in h row s (omega (arith, low)))

-- a leaf that is below the leaves of the tree which a key names is below those of the key's tree
pub below_tree : (s : Secret) (key : List ℕ) (leaf : ℕ) → length (lms_key s) ≡ 56 → IsOwnSet s → key ≡ hss_key s → leaf < leaf_count (u32_at key 4) → leaf < leaf_count s.tree
below_tree s key leaf size own is below = subst (λ (n : ℕ). leaf < leaf_count n) (ap (λ (l : List ℕ). u32_at l 4) is ∙ tree_of s size own.1) below

pub below_key : (s : Secret) (key : List ℕ) (leaf : ℕ) → length (lms_key s) ≡ 56 → IsOwnSet s → key ≡ hss_key s → leaf < leaf_count s.tree → leaf < leaf_count (u32_at key 4)
below_key s key leaf size own is below = subst (λ (n : ℕ). leaf < leaf_count n) (sym (ap (λ (l : List ℕ). u32_at l 4) is ∙ tree_of s size own.1)) below
