-- The way up, one level at a time.
use Rattle.std.proofs.Common.{◌≡◌, ℕ, suc, ◌+◌, ◌-◌, ◌*◌, ◌/◌, ◌%◌, ◌^◌, ◌<◌, ◌≤◌, List, [], ◌++◌, take, drop, refl, sym, ◌∙◌, ap, ap₂, arith, true, false}
use Rattle.std.specs.Prelude.{Bool, ◌==◌, if◌then◌else◌}
use Rattle.std.proofs.Math.Nat.{pow-succ'}
use Rattle.std.proofs.lemmas.Bool.{eqb-true, eqb-false}
use Rattle.std.proofs.lemmas.Nat.{pow_pos}
use Rattle.lms_tree.specs.Nodes.{node, sibling, path, parent, climb, inner_hash}
use Rattle.lms_tree.proofs.NodeLemmas.{node_inner}

-- one level of a path that is not at the root
pub path-next : (keys : ℕ → List ℕ) (id : List ℕ) (h top level r : ℕ) → level < top
    → path keys id h (top - level) r ≡ node keys id h (sibling r) ++ path keys id h (top - (level + 1)) (r / 2)
unfolding path
path-next keys id h top level r lt =
    let left : top - level ≡ suc (top - (level + 1)) = omega arith in
    ap (λ (n : ℕ). path keys id h n r) left

-- no level is left
pub path-done : (keys : ℕ → List ℕ) (id : List ℕ) (h top level r : ℕ) → top ≤ level → path keys id h (top - level) r ≡ []
unfolding path
path-done keys id h top level r le =
    let none : top - level ≡ 0 = omega arith in
    ap (λ (n : ℕ). path keys id h n r) none

-- one level up
pub climb-next : (id : List ℕ) (top level r : ℕ) (value siblings : List ℕ) → level < top
    → climb id (top - level) r value siblings
    ≡ climb id (top - (level + 1)) (r / 2) (parent id r value (take 32 siblings)) (drop 32 siblings)
unfolding climb
climb-next id top level r value siblings lt =
    let left : top - level ≡ suc (top - (level + 1)) = omega arith in
    ap (λ (n : ℕ). climb id n r value siblings) left

-- at the top
pub climb-done : (id : List ℕ) (top level r : ℕ) (value siblings : List ℕ) → top ≤ level → climb id (top - level) r value siblings ≡ value
unfolding climb
climb-done id top level r value siblings le =
    let none : top - level ≡ 0 = omega arith in
    ap (λ (n : ℕ). climb id n r value siblings) none

-- level n of a tree: its nodes have numbers from 2^n to 2^(n + 1) - 1
pub record IsOnLevel (n r : ℕ) : Type 0 where
  pub low : 2 ^ n ≤ r
  pub high : r < 2 * 2 ^ n

-- the node above is one level up
pub on_level_above : (n r : ℕ) → IsOnLevel (suc n) r → IsOnLevel n (r / 2)
on_level_above n r on =
    let low : 2 * 2 ^ n ≤ r = rw pow-succ' at on.low in
    let high : r < 2 * (2 * 2 ^ n) = rw pow-succ' at on.high in
    record { low = omega arith; high = omega arith }

-- a sibling is on the same level
sibling_range : (b : Bool) (m r : ℕ) → (r % 2 == 0) ≡ b → 2 ≤ r → r < 2 * m → (1 ≤ (if b then r + 1 else r - 1)) × ((if b then r + 1 else r - 1) < 2 * m)
sibling_range true m r e low high =
    let even = eqb-true (r % 2) 0 e in
    (omega arith, omega arith)
sibling_range false m r e low high = (omega arith, omega arith)

pub sibling_on_level : (n r : ℕ) → IsOnLevel (suc n) r → (1 ≤ sibling r) × (sibling r < 2 * 2 ^ suc n)
sibling_on_level n r on =
    let some : 1 ≤ 2 ^ n = pow_pos n in
    let low : 2 * 2 ^ n ≤ r = rw pow-succ' at on.low in
    sibling_range (r % 2 == 0) (2 ^ suc n) r refl (omega arith) on.high

-- the node above, from a node and its sibling
parent_cases : (keys : ℕ → List ℕ) (id : List ℕ) (h r : ℕ) (b : Bool) → (r % 2 == 0) ≡ b → 2 ≤ r → r < 2 * 2 ^ h
    → (if b then inner_hash id (r / 2) (node keys id h r) (node keys id h (if b then r + 1 else r - 1))
    else inner_hash id (r / 2) (node keys id h (if b then r + 1 else r - 1)) (node keys id h r)) ≡ node keys id h (r / 2)
parent_cases keys id h r true e low high =
    let even = eqb-true (r % 2) 0 e in
    let left : r ≡ 2 * (r / 2) = omega arith in
    let right : r + 1 ≡ 2 * (r / 2) + 1 = omega arith in
    ap₂ (λ (a b : ℕ). inner_hash id (r / 2) (node keys id h a) (node keys id h b)) left right
    ∙ sym (node_inner keys id h (r / 2) (omega arith) (omega arith))
parent_cases keys id h r false e low high =
    let odd = eqb-false (r % 2) 0 e in
    let left : r - 1 ≡ 2 * (r / 2) = omega arith in
    let right : r ≡ 2 * (r / 2) + 1 = omega arith in
    ap₂ (λ (a b : ℕ). inner_hash id (r / 2) (node keys id h a) (node keys id h b)) left right
    ∙ sym (node_inner keys id h (r / 2) (omega arith) (omega arith))

pub parent_of_node : (keys : ℕ → List ℕ) (id : List ℕ) (h r : ℕ) → 2 ≤ r → r < 2 * 2 ^ h
    → parent id r (node keys id h r) (node keys id h (sibling r)) ≡ node keys id h (r / 2)
unfolding parent
parent_of_node keys id h r low high = parent_cases keys id h r (r % 2 == 0) refl low high
