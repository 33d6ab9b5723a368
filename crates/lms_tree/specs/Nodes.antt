-- The tree of an LMS key (RFC 8554, 5.3) and the way from a leaf to its root (RFC 8554, 5.4).
-- Node 1 is the root, nodes 2r and 2r + 1 stand below node r, and node 2^h + q is leaf q. `keys q`
-- is the public hash of one-time key q.
use Rattle.std.specs.Prelude.{ℕ, zero, suc, ◌≡◌, ◌+◌, ◌-◌, ◌*◌, ◌/◌, ◌%◌, ◌^◌, ◌<◌, ◌≤◌, ◌==◌, if◌then◌else◌, nat_le, List, [], ◌++◌, length, take, drop, slice_index_or}
use Rattle.lm_ots.specs.Chains.{tagged}

-- H(I || u32str(r) || u16str(D_LEAF) || key) (RFC 8554, 5.3)
unfoldable pub leaf_hash : List ℕ → ℕ → List ℕ → List ℕ
leaf_hash id r key = tagged id r 0x8282 key

-- H(I || u32str(r) || u16str(D_INTR) || left || right) (RFC 8554, 5.3)
unfoldable pub inner_hash : List ℕ → ℕ → List ℕ → List ℕ → List ℕ
inner_hash id r left right = tagged id r 0x8383 (left ++ right)

-- T[r] in a tree of height h: a leaf's hash from 2^h on, and else the hash of the two nodes below,
-- over at most n levels (RFC 8554, 5.3)
unfoldable pub node_within : (ℕ → List ℕ) → List ℕ → ℕ → ℕ → ℕ → List ℕ
node_within keys id h zero r = leaf_hash id r (keys (r - 2 ^ h))
node_within keys id h (suc n) r =
    if nat_le (2 ^ h) r then leaf_hash id r (keys (r - 2 ^ h))
    else inner_hash id r (node_within keys id h n (2 * r)) (node_within keys id h n (2 * r + 1))

-- T[r] (RFC 8554, 5.3)
unfoldable pub node : (ℕ → List ℕ) → List ℕ → ℕ → ℕ → List ℕ
node keys id h r = node_within keys id h h r

-- the other node below the same node
abbrev pub sibling : ℕ → ℕ
sibling r = if r % 2 == 0 then r + 1 else r - 1

-- path[0] || .. || path[n - 1]: the siblings on the way up from node r over n levels (RFC 8554, 5.4.1)
unfoldable pub path : (ℕ → List ℕ) → List ℕ → ℕ → ℕ → ℕ → List ℕ
path keys id h zero r = []
path keys id h (suc n) r = node keys id h (sibling r) ++ path keys id h n (r / 2)

-- the node above node r, from the values of r and of its sibling (RFC 8554, 5.4.2, algorithm 6a)
unfoldable pub parent : List ℕ → ℕ → List ℕ → List ℕ → List ℕ
parent id r value other = if r % 2 == 0 then inner_hash id (r / 2) value other else inner_hash id (r / 2) other value

-- the value n levels above node r, which has this value, by a path (RFC 8554, 5.4.2, algorithm 6a)
unfoldable pub climb : List ℕ → ℕ → ℕ → List ℕ → List ℕ → List ℕ
climb id zero r value siblings = value
climb id (suc n) r value siblings = climb id n (r / 2) (parent id r value (take 32 siblings)) (drop 32 siblings)

-- the list holds the nodes from first to last - 1 of a tree of height h, each at its number
pub record AreNodes (keys : ℕ → List ℕ) (id : List ℕ) (h first last : ℕ) (nodes : List (List ℕ)) : Type 0 where
  pub count : length nodes ≡ 2 * 2 ^ h
  pub each : (r : ℕ) → first ≤ r → r < last → slice_index_or nodes r [] ≡ node keys id h r
