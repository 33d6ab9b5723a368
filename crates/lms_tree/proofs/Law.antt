-- The signature of a key leads to its root.
use Rattle.std.proofs.Common.{◌≡◌, ℕ, zero, suc, List, ◌+◌, ◌-◌, ◌*◌, ◌/◌, ◌^◌, ◌<◌, ◌≤◌, ◌++◌, length, take, drop, refl, sym, ◌∙◌, ap, ap₂, subst, arith, append_assoc, length-append, true, false}
use Rattle.std.specs.Prelude.{Bool, Some, nat_le, if◌then◌else◌}
use Rattle.std.specs.Int.{w32, to_be_bytes, from_be_bytes}
use Rattle.std.proofs.Math.Nat.{pow-succ'}
use Rattle.std.proofs.Math.Pow.{pow_mono}
use Rattle.std.proofs.lemmas.List.{take_at, drop_at}
use Rattle.std.proofs.lemmas.Nat.{from_be_bytes-to_be_bytes_4, pow_pos}
use Rattle.sha2.proofs.Facts256.{length-sha256}
use Rattle.lms_params.specs.Parameters.{OtsRow, ots_row, tree_height}
use Rattle.lm_ots.specs.Signatures.{ots_signature, candidate_of}
use Rattle.lm_ots.proofs.Law.{length-ots_signature, candidate_of-ots_signature}
use Rattle.lms_tree.specs.Nodes.{node_within, node, leaf_hash, inner_hash, sibling, path, parent, climb}
use Rattle.lms_tree.specs.Keys.{Secret, keys_of, public_key, tree_signature}
use Rattle.lms_tree.specs.Verifies.{u32_at, root_of, LmsOkIn, LmsOkFor, LmsOk}
use Rattle.lms_tree.proofs.NodeLemmas.{node_leaf}
use Rattle.lms_tree.proofs.PathLemmas.{IsOnLevel, on_level_above, parent_of_node}
use Rattle.lms_tree.proofs.KeyLemmas.{match_some}

-- a node has 32 octets
length_of_choice : (b : Bool) (x y : List ℕ) (n : ℕ) → length x ≡ n → length y ≡ n → length (if b then x else y) ≡ n
length_of_choice true x y n p q = p
length_of_choice false x y n p q = q

length-leaf_hash : (id : List ℕ) (r : ℕ) (key : List ℕ) → length (leaf_hash id r key) ≡ 32
unfolding leaf_hash
length-leaf_hash id r key = length-sha256 _

length-inner_hash : (id : List ℕ) (r : ℕ) (left right : List ℕ) → length (inner_hash id r left right) ≡ 32
unfolding inner_hash
length-inner_hash id r left right = length-sha256 _

length-node_within : (keys : ℕ → List ℕ) (id : List ℕ) (h n r : ℕ) → length (node_within keys id h n r) ≡ 32
unfolding node_within
length-node_within keys id h zero r = length-leaf_hash id r _
length-node_within keys id h (suc n) r =
    length_of_choice (nat_le (2 ^ h) r) _ _ 32 (length-leaf_hash id r _) (length-inner_hash id r _ _)

length-node : (keys : ℕ → List ℕ) (id : List ℕ) (h r : ℕ) → length (node keys id h r) ≡ 32
unfolding node
length-node keys id h r = length-node_within keys id h h r

length-path : (keys : ℕ → List ℕ) (id : List ℕ) (h n r : ℕ) → length (path keys id h n r) ≡ 32 * n
unfolding path
length-path keys id h zero r = refl
length-path keys id h (suc n) r =
    let one = length-node keys id h (sibling r) in
    let more = length-path keys id h n (r / 2) in
    omega (arith, length-append (node keys id h (sibling r)) (path keys id h n (r / 2)))

-- the path of a node leads to the root
climb-path : (keys : ℕ → List ℕ) (id : List ℕ) (h n r : ℕ) → n ≤ h → IsOnLevel n r
    → climb id n r (node keys id h r) (path keys id h n r) ≡ node keys id h 1
unfolding climb path
climb-path keys id h zero r le on =
    let low : 1 ≤ r = on.low in
    let high : r < 2 = on.high in
    let root : r ≡ 1 = omega arith in
    ap (node keys id h) root
climb-path keys id h (suc n) r le on =
    let other = node keys id h (sibling r) in
    let rest = path keys id h n (r / 2) in
    let size = length-node keys id h (sibling r) in
    let some : 1 ≤ 2 ^ n = pow_pos n in
    let low : 2 * 2 ^ n ≤ r = rw pow-succ' at on.low in
    let high = on.high in
    let wide : 2 ^ suc n ≤ 2 ^ h = pow_mono le in
    ap₂ (λ (p s : List ℕ). climb id n (r / 2) (parent id r (node keys id h r) p) s) (take_at other rest 32 size) (drop_at other rest 32 size)
    ∙ ap (λ (v : List ℕ). climb id n (r / 2) v rest) (parent_of_node keys id h r (omega arith) (omega arith))
    ∙ climb-path keys id h n (r / 2) (omega arith) (on_level_above n r on)

-- a part between two others
middle : (a b d : List ℕ) (n : ℕ) → length a ≡ n → drop n (a ++ b ++ d) ≡ b ++ d
middle a b d n size = ap (drop n) (append_assoc a b d) ∙ drop_at a (b ++ d) n size

module _ (h : ℕ) (row : OtsRow) (s : Secret) where
  -- the parts of a public key
  key_tree : s.tree < 2 ^ 32 → u32_at (public_key h row s) 0 ≡ s.tree
  unfolding public_key
  key_tree small = from_be_bytes-to_be_bytes_4 s.tree small

  key_ots : s.ots < 2 ^ 32 → u32_at (public_key h row s) 4 ≡ s.ots
  unfolding public_key
  key_ots small = from_be_bytes-to_be_bytes_4 s.ots small

  key_id : length s.id ≡ 16 → take 16 (drop 8 (public_key h row s)) ≡ s.id
  unfolding public_key
  key_id size = take_at s.id _ 16 size

  key_root : length s.id ≡ 16 → drop 24 (public_key h row s) ≡ node (keys_of row s) s.id h 1
  unfolding public_key
  key_root size = drop_at s.id _ 16 size

  module _ (q : ℕ) (text : List ℕ) where
    -- the parts of a signature
    ots_part : List ℕ
    ots_part = ots_signature row s.ots s.seed s.id q text

    path_part : List ℕ
    path_part = path (keys_of row s) s.id h h (2 ^ h + q)

    front : List ℕ
    front = to_be_bytes w32 q ++ ots_part

    sig_leaf : q < 2 ^ 32 → u32_at (tree_signature h row s q text) 0 ≡ q
    unfolding tree_signature
    sig_leaf small = from_be_bytes-to_be_bytes_4 q small

    sig_ots : s.ots < 2 ^ 32 → u32_at (tree_signature h row s q text) 4 ≡ s.ots
    unfolding tree_signature ots_signature
    sig_ots small = from_be_bytes-to_be_bytes_4 s.ots small

    length-front : length front ≡ 40 + 32 * row.p
    unfolding front ots_part
    length-front = omega (arith, length-ots_signature row s.ots s.seed s.id q text)

    sig_tree : s.tree < 2 ^ 32 → u32_at (tree_signature h row s q text) (40 + 32 * row.p) ≡ s.tree
    unfolding tree_signature front ots_part path_part
    sig_tree small =
        ap (λ (l : List ℕ). from_be_bytes w32 (take 4 l)) (middle front (to_be_bytes w32 s.tree) path_part (40 + 32 * row.p) length-front)
        ∙ from_be_bytes-to_be_bytes_4 s.tree small

    sig_ots_part : take (36 + 32 * row.p) (drop 4 (tree_signature h row s q text)) ≡ ots_part
    unfolding tree_signature ots_part path_part
    sig_ots_part =
        ap (take (36 + 32 * row.p)) (append_assoc ots_part (to_be_bytes w32 s.tree) path_part)
        ∙ take_at ots_part _ (36 + 32 * row.p) (length-ots_signature row s.ots s.seed s.id q text)

    sig_path : drop (44 + 32 * row.p) (tree_signature h row s q text) ≡ path_part
    unfolding tree_signature front ots_part path_part
    sig_path =
        let size = length-front in
        drop_at (front ++ to_be_bytes w32 s.tree) path_part (44 + 32 * row.p) (omega (arith, length-append front (to_be_bytes w32 s.tree)))

    length-tree_signature : length (tree_signature h row s q text) ≡ 44 + 32 * row.p + 32 * h
    unfolding tree_signature front ots_part path_part
    length-tree_signature =
        let size = length-front in
        omega (
          arith,
          length-append (front ++ to_be_bytes w32 s.tree) path_part,
          length-append front (to_be_bytes w32 s.tree),
          length-path (keys_of row s) s.id h h (2 ^ h + q),
        )

    -- the leaf of the signature is on the lowest level
    on_lowest : q < 2 ^ h → IsOnLevel h (2 ^ h + q)
    on_lowest lt = record { low = omega arith; high = omega arith }

    -- the signature leads to the root
    root_of-tree_signature : length s.id ≡ 16 → q < 2 ^ 32 → q < 2 ^ h
        → root_of h row (take 16 (drop 8 (public_key h row s))) text (tree_signature h row s q text) ≡ drop 24 (public_key h row s)
    unfolding root_of ots_part path_part
    root_of-tree_signature size small lt =
        let root = λ (id : List ℕ) (n : ℕ) (ots siblings : List ℕ).
        climb id h (2 ^ h + n) (leaf_hash id (2 ^ h + n) (candidate_of row id n text ots)) siblings in
        let sig = tree_signature h row s q text in
        let place : q ≡ 2 ^ h + q - 2 ^ h = omega arith in
        ap (λ (id : List ℕ). root id (u32_at sig 0) (take (36 + 32 * row.p) (drop 4 sig)) (drop (44 + 32 * row.p) sig)) (key_id size)
        ∙ ap (λ (n : ℕ). root s.id n (take (36 + 32 * row.p) (drop 4 sig)) (drop (44 + 32 * row.p) sig)) (sig_leaf small)
        ∙ ap₂ (λ (ots siblings : List ℕ). root s.id q ots siblings) sig_ots_part sig_path
        ∙ ap (λ (key : List ℕ). climb s.id h (2 ^ h + q) (leaf_hash s.id (2 ^ h + q) key) path_part)
        (candidate_of-ots_signature row s.ots s.seed s.id q text ∙ ap (keys_of row s) place)
        ∙ ap (λ (value : List ℕ). climb s.id h (2 ^ h + q) value path_part) (sym (node_leaf (keys_of row s) s.id h (2 ^ h + q) (omega arith)))
        ∙ climb-path (keys_of row s) s.id h h (2 ^ h + q) (omega arith) (on_lowest lt)
        ∙ sym (key_root size)

    pub lms_ok : tree_height s.tree ≡ Some h → ots_row s.ots ≡ Some row → length s.id ≡ 16 → s.tree < 2 ^ 32 → s.ots < 2 ^ 32
        → q < 2 ^ 32 → q < 2 ^ h → LmsOk (public_key h row s) text (tree_signature h row s q text)
    lms_ok known_h known_row size small_tree small_ots small lt =
        let key = public_key h row s in
        let sig = tree_signature h row s q text in
        match_some (tree_height (u32_at key 0)) h (λ k. LmsOkFor k key text sig) (ap tree_height (key_tree small_tree) ∙ known_h)
        (match_some (ots_row (u32_at key 4)) row (λ r. LmsOkIn h r key text sig) (ap ots_row (key_ots small_ots) ∙ known_row) (
          record {
            size = length-tree_signature;
            ots_code = sig_ots small_ots ∙ sym (key_ots small_ots);
            tree_code = sig_tree small_tree ∙ sym (key_tree small_tree);
            leaf = subst (λ (n : ℕ). n < 2 ^ h) (sym (sig_leaf small)) lt;
          },
          root_of-tree_signature size small lt,
        ))
