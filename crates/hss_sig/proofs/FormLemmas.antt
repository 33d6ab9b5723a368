-- What stands at the front of octets.
use Rattle.std.proofs.Common.{◌≡◌, ℕ, suc, List, [], ◌+◌, ◌-◌, ◌*◌, ◌^◌, ◌<◌, ◌≤◌, ◌++◌, length, take, drop, refl, sym, ◌∙◌, ap, ap₂, subst, arith, append_assoc, length-append}
use Rattle.std.specs.Prelude.{Option, None, Some, option_map, IsSome}
use Rattle.std.specs.Int.{w32, from_be_bytes}
use Rattle.std.proofs.lemmas.List.{length-take-le, length-drop, take-append-drop, take-append-le, drop-append-le, drop-drop, take_at, drop_at, take_all}
use Rattle.std.proofs.Math.Seq.{take-add}
use Rattle.lms_params.specs.Parameters.{OtsRow, ots_row, ots_signature_size, tree_height}
use Rattle.lms_tree.specs.Verifies.{u32_at}
use Rattle.hss_sig.specs.Hss.{signature_size}
use Rattle.hss_sig.specs.OneLevel.{leaf_count, power_of}
use Rattle.hss_sig.specs.Forms.{Fronts, IsLmsSignature, IsSignedKeyThen, AreSignedKeys, IsHssSignature}

-- a number in the front
u32_at-append : (a b : List ℕ) (place : ℕ) → place + 4 ≤ length a → u32_at (a ++ b) place ≡ u32_at a place
u32_at-append a b place room =
    ap (λ (l : List ℕ). from_be_bytes w32 (take 4 l)) (drop-append-le place a b (omega arith))
    ∙ ap (from_be_bytes w32) (take-append-le 4 (drop place a) b (omega (arith, length-drop place a)))

u32_at-take : (k : ℕ) (l : List ℕ) (place : ℕ) → place + 4 ≤ k → k ≤ length l → u32_at (take k l) place ≡ u32_at l place
u32_at-take k l place room le =
    sym (u32_at-append (take k l) (drop k l) place (omega (arith, length-take-le k l le)))
    ∙ ap (λ (x : List ℕ). u32_at x place) (take-append-drop k l)

-- a signature in front of other octets
module _ (octets sig rest : List ℕ) (is : octets ≡ sig ++ rest) (s : IsLmsSignature sig) where
  pub sig_room : length sig ≤ length octets
  sig_room = omega (arith, ap length is, length-append sig rest)

  sig_number : (place : ℕ) → place + 4 ≤ length sig → u32_at octets place ≡ u32_at sig place
  sig_number place room = ap (λ (x : List ℕ). u32_at x place) is ∙ u32_at-append sig rest place room

  pub sig_ots : ots_row (u32_at octets 4) ≡ Some s.row
  sig_ots = ap ots_row (sig_number 4 (omega (arith, s.size))) ∙ s.ots_code

  pub sig_tree : tree_height (u32_at octets (40 + 32 * s.row.p)) ≡ Some s.h
  sig_tree = ap tree_height (sig_number (40 + 32 * s.row.p) (omega (arith, s.size))) ∙ s.tree_code

  pub sig_leaf : u32_at octets 0 < 2 ^ s.h
  sig_leaf = subst (λ (n : ℕ). n < 2 ^ s.h) (sym (sig_number 0 (omega (arith, s.size)))) s.leaf

-- what is there is what is known of it
pub some_is : {A : Type 0} (x y : A) → Some x ≡ Some y → x ≡ y
some_is x y e = cc

pub not_none : {A : Type 0} (x : A) → None ≡ Some x → ⊥
not_none x e = cc

-- a signature's octets, from the sizes of its parts
module _ (octets : List ℕ) (ots code path : ℕ) where
  signature_for : (row : OtsRow) (h : ℕ) → ots_row (u32_at octets 4) ≡ Some row → ots ≡ 36 + 32 * row.p → code ≡ u32_at octets (4 + ots)
      → tree_height code ≡ Some h → path ≡ 32 * h → 8 + ots + path ≤ length octets → u32_at octets 0 < power_of (tree_height code)
      → Fronts IsLmsSignature octets (8 + ots + path)
  signature_for row h known_row ots_is code_is known_h path_is room leaf =
      let k = 8 + ots + path in
      let place : 40 + 32 * row.p ≡ 4 + ots = omega arith in
      record {
        room = room;
        form = record {
          row = row;
          h = h;
          ots_code = ap ots_row (u32_at-take k octets 4 (omega arith) room) ∙ known_row;
          tree_code = ap tree_height (u32_at-take k octets (40 + 32 * row.p) (omega arith) room ∙ ap (u32_at octets) place ∙ sym code_is) ∙ known_h;
          size = omega (arith, length-take-le k octets room);
          leaf = subst (λ (n : ℕ). n < 2 ^ h) (sym (u32_at-take k octets 0 (omega arith) room))
              (subst (λ (t : Option ℕ). u32_at octets 0 < power_of t) known_h leaf);
        };
      }

  signature_in : (o : Option OtsRow) (h : ℕ) → ots_row (u32_at octets 4) ≡ o → Some ots ≡ option_map ots_signature_size o
      → code ≡ u32_at octets (4 + ots) → tree_height code ≡ Some h → path ≡ 32 * h → 8 + ots + path ≤ length octets
      → u32_at octets 0 < leaf_count code → Fronts IsLmsSignature octets (8 + ots + path)
  signature_in None h known_row size code_is known_h path_is room leaf = absurd (not_none ots (sym size))
  signature_in (Some row) h known_row size code_is known_h path_is room leaf =
      signature_for row h known_row (some_is _ _ size) code_is known_h path_is room leaf

  pub signature_stands : (h : ℕ) → Some ots ≡ option_map ots_signature_size (ots_row (u32_at octets 4))
      → code ≡ u32_at octets (4 + ots) → tree_height code ≡ Some h → path ≡ 32 * h → 8 + ots + path ≤ length octets
      → u32_at octets 0 < leaf_count code → Fronts IsLmsSignature octets (8 + ots + path)
  signature_stands h size code_is known_h path_is room leaf =
      signature_in (ots_row (u32_at octets 4)) h refl size code_is known_h path_is room leaf

-- .. and what of it is found
module _ (octets sig rest : List ℕ) (is : octets ≡ sig ++ rest) (s : IsLmsSignature sig) (ots code : ℕ)
    (ots_is : Some ots ≡ option_map ots_signature_size (ots_row (u32_at octets 4))) (code_is : code ≡ u32_at octets (4 + ots)) where
  pub found_ots : ots ≡ 36 + 32 * s.row.p
  found_ots = some_is _ _ (ots_is ∙ ap (option_map ots_signature_size) (sig_ots octets sig rest is s))

  pub found_height : tree_height code ≡ Some s.h
  found_height =
      let place : 4 + ots ≡ 40 + 32 * s.row.p = omega (arith, found_ots) in
      ap tree_height (code_is ∙ ap (u32_at octets) place) ∙ sig_tree octets sig rest is s

  pub found_leaf : u32_at octets 0 < leaf_count code
  found_leaf = subst (λ (t : Option ℕ). u32_at octets 0 < power_of t) (sym found_height) (sig_leaf octets sig rest is s)

-- no keys
pub no_keys : (count : ℕ) (octets : List ℕ) → count ≡ 0 → Fronts (AreSignedKeys count) octets 0
no_keys count octets none = subst (λ (n : ℕ). Fronts (AreSignedKeys n) octets 0) (sym none) (record { room = omega arith; form = refl })

pub are_none : (count : ℕ) (keys : List ℕ) → count ≡ 0 → AreSignedKeys count keys → keys ≡ []
are_none count keys none are = subst (λ (n : ℕ). AreSignedKeys n keys) none are

-- what is known is there
pub known_some : (o : Option ℕ) (x : ℕ) → o ≡ Some x → IsSome o
known_some o x is = subst (λ (v : Option ℕ). IsSome v) (sym is) refl

pub some_not_none : (o : Option ℕ) → o ≡ None → IsSome o → ⊥
some_not_none o none some = cc

less_one : (count : ℕ) → 1 ≤ count → count ≡ suc (count - 1)
less_one count some = omega arith

-- the first signature and its key, and the others
module _ (octets keys rest : List ℕ) (count : ℕ) (is : octets ≡ keys ++ rest) (some : 1 ≤ count) (are : AreSignedKeys count keys) where
  pub next : IsSignedKeyThen (AreSignedKeys (count - 1)) keys
  next = subst (λ (n : ℕ). AreSignedKeys n keys) (less_one count some) are

  pub next_signature : octets ≡ next.signature ++ (next.key ++ (next.behind ++ rest))
  next_signature =
      is ∙ ap (λ (l : List ℕ). l ++ rest) next.spelled ∙ append_assoc (next.signature ++ next.key) next.behind rest
      ∙ append_assoc next.signature next.key (next.behind ++ rest)

  pub next_size : (r : Option ℕ) → ((sig behind : List ℕ) → octets ≡ sig ++ behind → IsLmsSignature sig → r ≡ Some (length sig)) → r ≡ Some (length next.signature)
  next_size r found = found next.signature (next.key ++ (next.behind ++ rest)) next_signature next.signed

  module _ (size : ℕ) (behind : List ℕ) (size_is : size ≡ length next.signature) (behind_is : behind ≡ drop size octets) where
    at_key : behind ≡ next.key ++ (next.behind ++ rest)
    at_key = behind_is ∙ ap (drop size) next_signature ∙ drop_at next.signature _ size (sym size_is)

    pub key_room : 56 ≤ length behind
    key_room = omega (arith, ap length at_key, length-append next.key (next.behind ++ rest), next.named.size)

    pub key_known : IsSome (signature_size (take 56 behind))
    key_known = subst (λ (l : List ℕ). IsSome (signature_size l)) (sym (ap (take 56) at_key ∙ take_at next.key _ 56 next.named.size)) next.named.known

    pub next_keys : drop 56 behind ≡ next.behind ++ rest
    next_keys = ap (drop 56) at_key ∙ drop_at next.key _ 56 next.named.size

    pub size_of_all : (further : ℕ) → further ≡ length next.behind → size + 56 + further ≡ length keys
    size_of_all further further_is =
        omega (
          arith,
          size_is,
          ap length next.spelled,
          length-append (next.signature ++ next.key) next.behind,
          length-append next.signature next.key,
          next.named.size,
        )

pub keys_front : (octets behind key rest : List ℕ) (count size further : ℕ) → 1 ≤ count → Fronts IsLmsSignature octets size → behind ≡ drop size octets
    → 56 ≤ length behind → key ≡ take 56 behind → rest ≡ drop 56 behind → IsSome (signature_size key)
    → Fronts (AreSignedKeys (count - 1)) rest further → Fronts (AreSignedKeys count) octets (size + 56 + further)
keys_front octets behind key rest count size further some first behind_is room key_is rest_is known others =
    let fits : further ≤ length rest = others.room in
    let start : size ≤ length octets = first.room in
    let tail : rest ≡ drop (size + 56) octets = rest_is ∙ ap (drop 56) behind_is ∙ drop-drop 56 size octets in
    let whole : take (size + 56 + further) octets ≡ take size octets ++ key ++ take further rest =
    take-add (size + 56) further octets
    ∙ ap₂ (λ (a b : List ℕ). a ++ b)
    (take-add size 56 octets ∙ ap (λ (l : List ℕ). take size octets ++ l) (sym (key_is ∙ ap (take 56) behind_is)))
    (ap (take further) (sym tail)) in
    record {
      room = omega (arith, ap length behind_is, ap length tail, length-drop size octets, length-drop (size + 56) octets);
      form = subst (λ (n : ℕ). AreSignedKeys n (take (size + 56 + further) octets)) (sym (less_one count some)) (record {
        signature = take size octets;
        key = key;
        behind = take further rest;
        spelled = whole;
        signed = first.form;
        named = record { size = ap length key_is ∙ length-take-le 56 behind room; known = known };
        rest = others.form;
      });
    }

-- a whole signature
pub whole_signature : (bytes parts upper last : List ℕ) (count size end : ℕ) → 4 ≤ length bytes → count ≡ u32_at bytes 0 → count ≤ 7
    → parts ≡ drop 4 bytes → Fronts (AreSignedKeys count) parts size → upper ≡ take size parts → last ≡ drop size parts
    → Fronts IsLmsSignature last end → end ≡ length last → IsHssSignature bytes (count + 1) upper last
whole_signature bytes parts upper last count size end some count_is most parts_is keys upper_is last_is lowest end_is =
    let less : count + 1 - 1 ≡ count = omega arith in
    record {
      some = some;
      levels_are = ap (λ (n : ℕ). n + 1) (sym count_is);
      most = omega arith;
      parts = sym parts_is ∙ sym (take-append-drop size parts) ∙ ap₂ (λ (a b : List ℕ). a ++ b) (sym upper_is) (sym last_is);
      upper_is = subst (λ (n : ℕ). AreSignedKeys n upper) (sym less) (subst (λ (l : List ℕ). AreSignedKeys count l) (sym upper_is) keys.form);
      last_is = subst (λ (l : List ℕ). IsLmsSignature l) (take_all end last (omega (arith, end_is))) lowest.form;
    }

module _ (bytes parts upper last : List ℕ) (count levels : ℕ) (parts_is : parts ≡ drop 4 bytes) (count_is : count ≡ u32_at bytes 0)
    (s : IsHssSignature bytes levels upper last) where
  pub levels_found : count + 1 ≡ levels
  levels_found = ap (λ (n : ℕ). n + 1) count_is ∙ s.levels_are

  pub parts_found : parts ≡ upper ++ last
  parts_found = parts_is ∙ s.parts

  pub keys_found : AreSignedKeys count upper
  keys_found =
      let less : levels - 1 ≡ count = omega (arith, levels_found) in
      subst (λ (n : ℕ). AreSignedKeys n upper) less s.upper_is

  module _ (size : ℕ) (size_is : size ≡ length upper) where
    pub upper_found : take size parts ≡ upper
    upper_found = ap (take size) parts_found ∙ take_at upper last size (sym size_is)

    pub last_found : drop size parts ≡ last
    last_found = ap (drop size) parts_found ∙ drop_at upper last size (sym size_is)
