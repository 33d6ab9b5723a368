-- The payloads of a book, one leaf more, and how long they are.
use Rattle.std.proofs.Common.{◌≡◌, ℕ, suc, ◌+◌, ◌*◌, List, [], ◌∷◌, ◌++◌, length, drop, refl, sym, ◌∙◌, ap, arith, length-append}
use Rattle.std.proofs.lemmas.List.{drop_at}
use Rattle.std.specs.Int.{w32, to_be_bytes}
use Rattle.journal_core.specs.Log.{framed, records, log_of}
use Rattle.leaf_book.specs.Leaves.{Digests, magic, key_payload, leaf_payload, leaves_from, payloads_of, AreDigests}

pub leaves_push : (leaf : ℕ) (given : Digests) (d : List ℕ) → leaves_from leaf (given ++ d ∷ []) ≡ leaves_from leaf given ++ leaf_payload (leaf + length given) d ∷ []
leaves_push leaf [] d =
    let here : leaf ≡ leaf + 0 = omega arith in
    ap (λ (n : ℕ). leaf_payload n d ∷ []) here
leaves_push leaf (x ∷ xs) d =
    let here : suc leaf + length xs ≡ leaf + suc (length xs) = omega arith in
    ap (λ (l : List (List ℕ)). leaf_payload leaf x ∷ l) (leaves_push (suc leaf) xs d ∙ ap (λ (n : ℕ). leaves_from (suc leaf) xs ++ leaf_payload n d ∷ []) here)

pub first_push : (given : Digests) (d : List ℕ) → leaves_from 0 (given ++ d ∷ []) ≡ leaves_from 0 given ++ leaf_payload (length given) d ∷ []
first_push given d =
    let here : 0 + length given ≡ length given = omega arith in
    leaves_push 0 given d ∙ ap (λ (n : ℕ). leaves_from 0 given ++ leaf_payload n d ∷ []) here

pub payloads_push : (key : List ℕ) (given : Digests) (d : List ℕ) → payloads_of key (given ++ d ∷ []) ≡ payloads_of key given ++ leaf_payload (length given) d ∷ []
payloads_push key given d = ap (λ (l : List (List ℕ)). key_payload key ∷ l) (first_push given d)

pub digests_push : (given : Digests) (d : List ℕ) → AreDigests given → length d ≡ 32 → AreDigests (given ++ d ∷ [])
digests_push [] d are size = (size, tt)
digests_push (x ∷ xs) d are size = (are.0, digests_push xs d are.1 size)

-- ---- what a payload says

tails : (x y : List ℕ) (xs ys : List (List ℕ)) → x ∷ xs ≡ y ∷ ys → xs ≡ ys
tails x y xs ys same = cc same

heads : (x y : List ℕ) (xs ys : List (List ℕ)) → x ∷ xs ≡ y ∷ ys → x ≡ y
heads x y xs ys same = cc same

digest_same : (leaf : ℕ) (a b : List ℕ) → leaf_payload leaf a ≡ leaf_payload leaf b → a ≡ b
unfolding leaf_payload
digest_same leaf a b same =
    let head : List ℕ = 2 ∷ to_be_bytes w32 leaf in
    sym (drop_at head a 5 refl) ∙ ap (λ (l : List ℕ). drop 5 l) same ∙ drop_at head b 5 refl

leaves_same : (leaf : ℕ) (xs ys : Digests) → leaves_from leaf xs ≡ leaves_from leaf ys → xs ≡ ys
leaves_same leaf [] [] same = refl
leaves_same leaf [] (b ∷ ys) same = cc same
leaves_same leaf (a ∷ xs) [] same = cc same
leaves_same leaf (a ∷ xs) (b ∷ ys) same =
    let first : a ≡ b = digest_same leaf a b (heads (leaf_payload leaf a) (leaf_payload leaf b) (leaves_from (suc leaf) xs) (leaves_from (suc leaf) ys) same) in
    let more : xs ≡ ys = leaves_same (suc leaf) xs ys (tails (leaf_payload leaf a) (leaf_payload leaf b) (leaves_from (suc leaf) xs) (leaves_from (suc leaf) ys) same) in
    ap (λ (x : List ℕ). x ∷ xs) first ∙ ap (λ (l : Digests). b ∷ l) more

pub given_same : (key : List ℕ) (xs ys : Digests) → payloads_of key xs ≡ payloads_of key ys → xs ≡ ys
given_same key xs ys same = leaves_same 0 xs ys (tails (key_payload key) (key_payload key) (leaves_from 0 xs) (leaves_from 0 ys) same)

-- ---- sizes

pub length-leaf_payload : (leaf : ℕ) (d : List ℕ) → length (leaf_payload leaf d) ≡ 5 + length d
unfolding leaf_payload
length-leaf_payload leaf d = omega arith

length-key_payload : (key : List ℕ) → length (key_payload key) ≡ 1 + length key
unfolding key_payload
length-key_payload key = omega arith

length-framed : (payload : List ℕ) → length (framed payload) ≡ 4 + length payload
unfolding framed
length-framed payload = omega arith

length-leaves : (leaf : ℕ) (given : Digests) → AreDigests given → length (records (leaves_from leaf given)) ≡ 42 * length given
length-leaves leaf [] are = refl
length-leaves leaf (d ∷ ds) are =
    omega (
      arith,
      are.0,
      length-leaves (suc leaf) ds are.1,
      length-append (framed (leaf_payload leaf d)) (records (leaves_from (suc leaf) ds)),
      length-framed (leaf_payload leaf d),
      length-leaf_payload leaf d,
    )

-- the log of a book has 70 octets, and 42 for each leaf given
pub length-log : (key : List ℕ) (given : Digests) → length key ≡ 56 → AreDigests given → length (log_of magic (payloads_of key given)) ≡ 70 + 42 * length given
length-log key given size are =
    omega (
      arith,
      size,
      length-leaves 0 given are,
      length-append (framed (key_payload key)) (records (leaves_from 0 given)),
      length-framed (key_payload key),
      length-key_payload key,
    )

pub length-leaves_from : (leaf : ℕ) (given : Digests) → length (leaves_from leaf given) ≡ length given
length-leaves_from leaf [] = refl
length-leaves_from leaf (d ∷ ds) = ap suc (length-leaves_from (suc leaf) ds)
