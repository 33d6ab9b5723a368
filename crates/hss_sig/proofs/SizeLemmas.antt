-- A valid signature has at most 74,988 octets.
use Rattle.std.proofs.Common.{◌≡◌, ℕ, zero, suc, ◌+◌, ◌*◌, ◌≤◌, Bool, true, false, cond, eqb, List, length, take, drop, Option, Some, None, refl, ap, arith}
use Rattle.std.specs.Prelude.{MatchOption, option_map, option_and_then, Result, Ok, Err, IfOk}
use Rattle.std.proofs.lemmas.List.{length-drop}
use Rattle.lms_params.specs.Parameters.{OtsRow, ots_row, tree_height}
use Rattle.lms_tree.specs.Verifies.{u32_at, LmsOkIn, LmsOk}
use Rattle.hss_sig.specs.Hss.{signature_size, Leads, LevelsOk, HssOk}

some_same : {X : Type 0} (x y : X) → Some x ≡ Some y → x ≡ y
some_same x y e = cc

none_some : {X : Type 0} (x : X) → None ≡ Some x → ⊥
none_some x e = cc

-- a choice between an option that is bounded and others that are
chosen_bound : {X : Type 0} (f : X → ℕ) (n : ℕ) (b : Bool) (x : X) (rest : Option X) → f x ≤ n → ((y : X) → rest ≡ Some y → f y ≤ n) → (y : X) → cond b (Some x) rest ≡ Some y → f y ≤ n
chosen_bound f n true x rest at others y e = omega (arith, at, ap f (some_same x y e))
chosen_bound f n false x rest at others y e = others y e

abbrev chains : OtsRow → ℕ
chains row = row.p

row_bound : (code : ℕ) (row : OtsRow) → ots_row code ≡ Some row → row.p ≤ 265
row_bound code =
    chosen_bound chains 265 (eqb code 1) _ _ (omega arith)
    (chosen_bound chains 265 (eqb code 2) _ _ (omega arith)
    (chosen_bound chains 265 (eqb code 3) _ _ (omega arith)
    (chosen_bound chains 265 (eqb code 4) _ None (omega arith) (λ y e. absurd (none_some y e)))))

abbrev number : ℕ → ℕ
number n = n

height_bound : (code h : ℕ) → tree_height code ≡ Some h → h ≤ 25
height_bound code =
    chosen_bound number 25 (eqb code 5) _ _ (omega arith)
    (chosen_bound number 25 (eqb code 6) _ _ (omega arith)
    (chosen_bound number 25 (eqb code 7) _ _ (omega arith)
    (chosen_bound number 25 (eqb code 8) _ _ (omega arith)
    (chosen_bound number 25 (eqb code 9) _ None (omega arith) (λ y e. absurd (none_some y e))))))

-- of a tree
lms_by : (o : Option ℕ) (r : Option OtsRow) (key text sig : List ℕ) → ((h : ℕ) → o ≡ Some h → h ≤ 25) → ((row : OtsRow) → r ≡ Some row → row.p ≤ 265)
    → MatchOption o ⊥ (λ h. MatchOption r ⊥ (λ row. LmsOkIn h row key text sig)) → length sig ≤ 9324
lms_by None r key text sig low short never = absurd never
lms_by (Some h) None key text sig low short never = absurd never
lms_by (Some h) (Some row) key text sig low short ok = omega (arith, ok.0.size, low h refl, short row refl)

lms_bound : (key text sig : List ℕ) → LmsOk key text sig → length sig ≤ 9324
lms_bound key text sig ok = lms_by (tree_height (u32_at key 0)) (ots_row (u32_at key 4)) key text sig (height_bound (u32_at key 0)) (row_bound (u32_at key 4)) ok

size_by : (o : Option ℕ) (r : Option OtsRow) (k : ℕ) → ((h : ℕ) → o ≡ Some h → h ≤ 25) → ((row : OtsRow) → r ≡ Some row → row.p ≤ 265)
    → option_and_then (λ h. option_map (λ row. 44 + 32 * row.p + 32 * h) r) o ≡ Some k → k ≤ 9324
size_by None r k low short e = absurd (none_some k e)
size_by (Some h) None k low short e = absurd (none_some k e)
size_by (Some h) (Some row) k low short e = omega (arith, low h refl, short row refl, some_same (44 + 32 * row.p + 32 * h) k e)

size_bound : (key : List ℕ) (k : ℕ) → signature_size key ≡ Some k → k ≤ 9324
size_bound key k e = size_by (tree_height (u32_at key 0)) (ots_row (u32_at key 4)) k (height_bound (u32_at key 0)) (row_bound (u32_at key 4)) e

-- of one level more
leads_by : (o : Option ℕ) (Rest : List ℕ → List ℕ → Type 0) (n : ℕ) (key octets : List ℕ) → ((k : ℕ) → o ≡ Some k → k ≤ 9324) → ((next rest : List ℕ) → Rest next rest → length rest ≤ n)
    → MatchOption o ⊥ (λ k. Leads k Rest key octets) → length octets ≤ n + 9380
leads_by None Rest n key octets low short never = absurd never
leads_by (Some k) Rest n key octets low short leads =
    omega (arith, low k refl, leads.room, length-drop (k + 56) octets, short (take 56 (drop k octets)) (drop (k + 56) octets) leads.rest)

levels_bound : (n : ℕ) (text key octets : List ℕ) → LevelsOk n text key octets → length octets ≤ n * 9380 + 9324
levels_bound zero text key octets ok = omega (arith, lms_bound key text octets ok)
levels_bound (suc n) text key octets ok =
    omega (arith, leads_by (signature_size key) (LevelsOk n text) (n * 9380 + 9324) key octets (size_bound key) (levels_bound n text) ok)

pub hss_bound : (key text sig : List ℕ) → HssOk key text sig → length sig ≤ 74988
hss_bound key text sig ok =
    omega (arith, ok.most, ok.same_levels, ok.sig_size, length-drop 4 sig, levels_bound (u32_at sig 0) text (drop 4 key) (drop 4 sig) ok.levels)

pub signed_bound : {E : Type 0} (r : Result (List ℕ) E) (key text : List ℕ) → IfOk r (λ sig. HssOk key text sig) → IfOk r (λ sig. length sig ≤ 75000)
signed_bound (Ok sig) key text ok = omega (arith, hss_bound key text sig ok)
signed_bound (Err e) key text ok = tt
