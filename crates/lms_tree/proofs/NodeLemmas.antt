-- The two cases of a node, and nodes that are written one after the other.
use Rattle.std.proofs.Common.{◌≡◌, ◌≢◌, ℕ, zero, suc, ◌+◌, ◌-◌, ◌*◌, ◌/◌, ◌^◌, ◌<◌, ◌≤◌, List, [], length, get_or, refl, sym, ◌∙◌, ap, ap₂, arith, subst, inl, inr, true, false}
use Rattle.std.specs.Prelude.{Bool, IsTrue, ◌==◌, nat_le, slice_set, if◌then◌else◌}
use Rattle.std.proofs.Math.Nat.{pow-succ', mul-le-mul_left}
use Rattle.std.proofs.lemmas.Bool.{cases_lt, eqb-true, le-leb, lt-leb, or_cases}
use Rattle.std.proofs.lemmas.List.{get_or-set_same, get_or-set_other}
use Rattle.std.proofs.Math.ListN.{length-set}
use Rattle.lms_params.specs.Parameters.{is_height}
use Rattle.lms_tree.specs.Nodes.{node_within, node, leaf_hash, inner_hash, AreNodes}

-- a choice whose test holds, or does not
at_true : {A : Type 0} (b : Bool) (x y : A) → b ≡ true → (if b then x else y) ≡ x
at_true b x y h = ap (λ (c : Bool). if c then x else y) h

at_false : {A : Type 0} (b : Bool) (x y : A) → b ≡ false → (if b then x else y) ≡ y
at_false b x y h = ap (λ (c : Bool). if c then x else y) h

-- a leaf, over any number of levels
within_leaf : (keys : ℕ → List ℕ) (id : List ℕ) (h n r : ℕ) → 2 ^ h ≤ r → node_within keys id h n r ≡ leaf_hash id r (keys (r - 2 ^ h))
unfolding node_within
within_leaf keys id h zero r le = refl
within_leaf keys id h (suc n) r le = at_true (nat_le (2 ^ h) r) _ _ (le-leb (2 ^ h) r le)

-- a node above the leaves
within_inner : (keys : ℕ → List ℕ) (id : List ℕ) (h n r : ℕ) → r < 2 ^ h
    → node_within keys id h (suc n) r ≡ inner_hash id r (node_within keys id h n (2 * r)) (node_within keys id h n (2 * r + 1))
unfolding node_within
within_inner keys id h n r lt = at_false (nat_le (2 ^ h) r) _ _ (lt-leb (2 ^ h) r lt)

-- twice as many below one level down
next_level : (h n r : ℕ) → 2 ^ h ≤ r * 2 ^ suc n → (2 ^ h ≤ 2 * r * 2 ^ n) × (2 ^ h ≤ (2 * r + 1) * 2 ^ n)
next_level h n r le =
    let wide : 2 ^ h ≤ r * (2 * 2 ^ n) = rw pow-succ' at le in
    (omega arith, omega arith)

-- more levels than reach the leaves make no difference
within_same : (keys : ℕ → List ℕ) (id : List ℕ) (h m n r : ℕ) → 2 ^ h ≤ r * 2 ^ m → 2 ^ h ≤ r * 2 ^ n
    → node_within keys id h m r ≡ node_within keys id h n r
within_same keys id h zero n r a b =
    let le : 2 ^ h ≤ r = omega arith in
    within_leaf keys id h zero r le ∙ sym (within_leaf keys id h n r le)
within_same keys id h (suc m) zero r a b =
    let le : 2 ^ h ≤ r = omega arith in
    within_leaf keys id h (suc m) r le ∙ sym (within_leaf keys id h zero r le)
within_same keys id h (suc m) (suc n) r a b =
    let p = next_level h m r a in
    let q = next_level h n r b in
    elim (cases_lt r (2 ^ h)) [
      | inl lt ↦ within_inner keys id h m r lt
          ∙ ap₂ (inner_hash id r) (within_same keys id h m n (2 * r) p.0 q.0) (within_same keys id h m n (2 * r + 1) p.1 q.1)
          ∙ sym (within_inner keys id h n r lt)
      | inr le ↦ within_leaf keys id h (suc m) r le ∙ sym (within_leaf keys id h (suc n) r le)
    ]

-- from 2^h on a node is a leaf
pub node_leaf : (keys : ℕ → List ℕ) (id : List ℕ) (h r : ℕ) → 2 ^ h ≤ r → node keys id h r ≡ leaf_hash id r (keys (r - 2 ^ h))
unfolding node
node_leaf keys id h r le = within_leaf keys id h h r le

-- below 2^h it is the hash of the two nodes below it
pub node_inner : (keys : ℕ → List ℕ) (id : List ℕ) (h r : ℕ) → 1 ≤ r → r < 2 ^ h
    → node keys id h r ≡ inner_hash id r (node keys id h (2 * r)) (node keys id h (2 * r + 1))
unfolding node
node_inner keys id zero r some lt = absurd (omega arith)
node_inner keys id (suc k) r some lt =
    let more : 2 ^ suc k ≤ r * 2 ^ suc k = omega (arith, mul-le-mul_left (2 ^ suc k) some) in
    let wide = next_level (suc k) k r more in
    let wider : 2 ^ suc k ≤ r * 2 ^ suc (suc k) = omega (arith, more, pow-succ' 2 (suc k), ap (λ (n : ℕ). r * n) (pow-succ' 2 (suc k))) in
    let widest = next_level (suc k) (suc k) r wider in
    within_inner keys id (suc k) k r lt
    ∙ ap₂ (inner_hash id r) (within_same keys id (suc k) k (suc k) (2 * r) wide.0 widest.0)
    (within_same keys id (suc k) k (suc k) (2 * r + 1) wide.1 widest.1)

-- no nodes are asked for
pub are_none : (keys : ℕ → List ℕ) (id : List ℕ) (h first last : ℕ) (nodes : List (List ℕ)) → length nodes ≡ 2 * 2 ^ h → last ≤ first
    → AreNodes keys id h first last nodes
are_none keys id h first last nodes size none = record { count = size; each = λ r low high. absurd (omega arith) }

-- one node more behind the last
pub are_more_up : (keys : ℕ → List ℕ) (id : List ℕ) (h first r : ℕ) (nodes : List (List ℕ)) (value : List ℕ)
    → r < 2 * 2 ^ h → value ≡ node keys id h r → AreNodes keys id h first r nodes → AreNodes keys id h first (r + 1) (slice_set nodes r value)
are_more_up keys id h first r nodes value within is a = record {
  count = length-set nodes r value ∙ a.count;
  each = λ i low high. elim (cases_lt i r) [
    | inl before ↦ (let other : i ≢ r = omega arith in get_or-set_other nodes r i value [] other ∙ a.each i low before)
    | inr here ↦
        (let same : i ≡ r = omega arith in
        let size = a.count in
        ap (λ (k : ℕ). get_or (slice_set nodes r value) k []) same
        ∙ get_or-set_same nodes r value [] (omega arith) ∙ is ∙ ap (node keys id h) (sym same))
  ];
}

-- one node more before the first
pub are_more_down : (keys : ℕ → List ℕ) (id : List ℕ) (h r last : ℕ) (nodes : List (List ℕ)) (value : List ℕ)
    → r < 2 * 2 ^ h → value ≡ node keys id h r → AreNodes keys id h (r + 1) last nodes → AreNodes keys id h r last (slice_set nodes r value)
are_more_down keys id h r last nodes value within is a = record {
  count = length-set nodes r value ∙ a.count;
  each = λ i low high. elim (cases_lt r i) [
    | inl behind ↦ (let other : i ≢ r = omega arith in get_or-set_other nodes r i value [] other ∙ a.each i (omega arith) high)
    | inr here ↦
        (let same : i ≡ r = omega arith in
        let size = a.count in
        ap (λ (k : ℕ). get_or (slice_set nodes r value) k []) same
        ∙ get_or-set_same nodes r value [] (omega arith) ∙ is ∙ ap (node keys id h) (sym same))
  ];
}

-- a tree's leaves are whole groups of four
at_height : (a h : ℕ) → 4 * (2 ^ a / 4) ≡ 2 ^ a → (h == a) ≡ true → 4 * (2 ^ h / 4) ≡ 2 ^ h
at_height a h whole is = subst (λ (n : ℕ). 4 * (2 ^ n / 4) ≡ 2 ^ n) (sym (eqb-true h a is)) whole

pub whole_groups : (h : ℕ) → IsTrue (is_height h) → 4 * (2 ^ h / 4) ≡ 2 ^ h
whole_groups h is =
    elim (or_cases _ _ is) [
      | inl below25 ↦ elim (or_cases _ _ below25) [
        | inl below20 ↦ elim (or_cases _ _ below20) [
          | inl below15 ↦ elim (or_cases _ _ below15) [
            | inl five ↦ at_height 5 h refl five
            | inr ten ↦ at_height 10 h refl ten
          ]
          | inr fifteen ↦ at_height 15 h refl fifteen
        ]
        | inr twenty ↦ at_height 20 h refl twenty
      ]
      | inr highest ↦ at_height 25 h refl highest
    ]

-- what holds of each of four
pub below_four : (P : ℕ → Type 0) → P 0 → P 1 → P 2 → P 3 → (k : ℕ) → k < 4 → P k
below_four P p0 p1 p2 p3 zero low = p0
below_four P p0 p1 p2 p3 (suc zero) low = p1
below_four P p0 p1 p2 p3 (suc (suc zero)) low = p2
below_four P p0 p1 p2 p3 (suc (suc (suc zero))) low = p3
below_four P p0 p1 p2 p3 (suc (suc (suc (suc n)))) low = absurd (omega arith)

-- four nodes more behind the last
pub are_four_more : (keys : ℕ → List ℕ) (id : List ℕ) (h first r : ℕ) (nodes : List (List ℕ)) (a b c d : List ℕ)
    → r + 4 ≤ length nodes → a ≡ node keys id h (r + 0) → b ≡ node keys id h (r + 1) → c ≡ node keys id h (r + 2) → d ≡ node keys id h (r + 3)
    → AreNodes keys id h first r nodes
    → AreNodes keys id h first (r + 4) (slice_set (slice_set (slice_set (slice_set nodes r a) (r + 1) b) (r + 2) c) (r + 3) d)
are_four_more keys id h first r nodes a b c d within is_a is_b is_c is_d are =
    let size = are.count in
    let here : r + 0 ≡ r = omega arith in
    let one = are_more_up keys id h first r nodes a (omega arith) (is_a ∙ ap (node keys id h) here) are in
    let two = are_more_up keys id h first (r + 1) (slice_set nodes r a) b (omega arith) is_b one in
    let second : r + 1 + 1 ≡ r + 2 = omega arith in
    let three = are_more_up keys id h first (r + 2) (slice_set (slice_set nodes r a) (r + 1) b) c (omega arith) is_c
    (subst (λ (n : ℕ). AreNodes keys id h first n (slice_set (slice_set nodes r a) (r + 1) b)) second two) in
    let third : r + 2 + 1 ≡ r + 3 = omega arith in
    let four = are_more_up keys id h first (r + 3) (slice_set (slice_set (slice_set nodes r a) (r + 1) b) (r + 2) c) d (omega arith) is_d
    (subst (λ (n : ℕ). AreNodes keys id h first n (slice_set (slice_set (slice_set nodes r a) (r + 1) b) (r + 2) c)) third three) in
    let fourth : r + 3 + 1 ≡ r + 4 = omega arith in
    subst (λ (n : ℕ). AreNodes keys id h first n (slice_set (slice_set (slice_set (slice_set nodes r a) (r + 1) b) (r + 2) c) (r + 3) d)) fourth four

-- the node of a leaf
pub leaf_is : (keys : ℕ → List ℕ) (id : List ℕ) (h q k r : ℕ) (key value : List ℕ) → key ≡ keys (q + k) → r ≡ 2 ^ h + q + k → value ≡ leaf_hash id r key
    → value ≡ node keys id h (2 ^ h + q + k)
leaf_is keys id h q k r key value is at hashed =
    let leaf : q + k ≡ 2 ^ h + q + k - 2 ^ h = omega arith in
    hashed ∙ ap₂ (leaf_hash id) at (is ∙ ap keys leaf) ∙ sym (node_leaf keys id h (2 ^ h + q + k) (omega arith))
