-- Chains that run side by side.
use Rattle.std.proofs.Common.{◌≡◌, ◌≢◌, ℕ, ◌<◌, ◌≤◌, ◌+◌, ◌-◌, ◌*◌, List, [], ◌∷◌, refl, Bool, true, false, length, max, set, slice_index, slice_index_or, sym, ◌∙◌, ap, arith, inl, inr}
use Rattle.std.specs.Prelude.{if◌then◌else◌}
use Rattle.std.proofs.lemmas.Bool.{cases_lt}
use Rattle.std.proofs.lemmas.List.{get_or-set_same, get_or-set_other}
use Rattle.std.proofs.Math.ListN.{length-set}
use Rattle.sha_lanes.proofs.LaneLemmas.{below_four}
use Rattle.lm_ots.specs.Runs.{AreBelow, Settled, SettledOrWaiting, end_of, value_in}
use Rattle.lm_ots.specs.Chains.{chain, joined, step}
use Rattle.lm_ots.proofs.Law.{joined-same}
use Rattle.lm_ots.proofs.ChainLemmas.{chain-next, chain-done}

-- before any step
pub walk_begins : (id : List ℕ) (q i a b j : ℕ) (x : List ℕ) → j ≤ a → chain id q i (max a j) b x ≡ chain id q i a b x
walk_begins id q i a b j x le =
    let same : max a j ≡ a = omega arith in
    ap (λ (k : ℕ). chain id q i k b x) same

-- after the last step of all lanes
pub walk_done : (id : List ℕ) (q i a b j : ℕ) (x : List ℕ) → b ≤ j → chain id q i (max a j) b x ≡ x
walk_done id q i a b j x le = chain-done id q i (max a j) b x (omega arith)

-- a lane takes step j, or stays
pub walk_step : (id : List ℕ) (q i a b j : ℕ) (x y r : List ℕ) (takes : Bool)
    → (a ≤ j → j < b → takes ≡ true) → (j < a → takes ≡ false) → (b ≤ j → takes ≡ false)
    → y ≡ step id q i j x → r ≡ (if takes then y else x) → chain id q i (max a (j + 1)) b r ≡ chain id q i (max a j) b x
walk_step id q i a b j x y r takes on before behind stepped is =
    elim (cases_lt j a) [
      | inl early ↦
          let later : max a (j + 1) ≡ max a j = omega arith in
          let stays : r ≡ x = is ∙ ap (λ (t : Bool). if t then y else x) (before early) in
          ap (λ (k : ℕ). chain id q i k b r) later ∙ ap (chain id q i (max a j) b) stays
      | inr begun ↦
          elim (cases_lt j b) [
            | inl yet ↦
                let next : max a (j + 1) ≡ j + 1 = omega arith in
                let here : j ≡ max a j = omega arith in
                let goes : r ≡ step id q i j x = is ∙ ap (λ (t : Bool). if t then y else x) (on begun yet) ∙ stepped in
                ap (λ (k : ℕ). chain id q i k b r) next ∙ ap (chain id q i (j + 1) b) goes ∙ sym (chain-next id q i j b x yet) ∙ ap (λ (k : ℕ). chain id q i k b x) here
            | inr ended ↦
                let stays : r ≡ x = is ∙ ap (λ (t : Bool). if t then y else x) (behind ended) in
                chain-done id q i (max a (j + 1)) b r (omega arith) ∙ stays ∙ sym (chain-done id q i (max a j) b x (omega arith))
          ]
    ]

pub pushed : (t : Bool) (f : List ℕ → List ℕ) (a b : List ℕ) → f (if t then a else b) ≡ (if t then f a else f b)
pushed true f a b = refl
pushed false f a b = refl

-- one value in each lane
pub four_same : (x : List ℕ) (k : ℕ) → k < 4 → slice_index_or (x ∷ x ∷ x ∷ x ∷ []) k [] ≡ x
four_same x = below_four (λ k. slice_index_or (x ∷ x ∷ x ∷ x ∷ []) k [] ≡ x) refl refl refl refl

-- a value of f is written
set_settled : (f : ℕ → List ℕ) (xs : List (List ℕ)) (p x : ℕ) (a : List ℕ) → p < length xs → a ≡ f p
    → (p ≢ x → Settled f xs x) → Settled f (set xs p a) x
set_settled f xs p x a within is other = elim (cases_lt p x) [
  | inl less ↦ get_or-set_other xs p x a [] (omega arith) ∙ other (omega arith)
  | inr more ↦
      elim (cases_lt x p) [
        | inl greater ↦ get_or-set_other xs p x a [] (omega arith) ∙ other (omega arith)
        | inr rest ↦
            let same : p ≡ x = omega arith in
            rw (← same) (get_or-set_same xs p a [] within ∙ is)
      ]
]

-- four values of f are written
pub stored : (f : ℕ → List ℕ) (xs : List (List ℕ)) (picks : List ℕ) (a b c d : List ℕ) (x : ℕ) → AreBelow picks (length xs)
    → a ≡ f (slice_index picks 0) → b ≡ f (slice_index picks 1) → c ≡ f (slice_index picks 2) → d ≡ f (slice_index picks 3)
    → SettledOrWaiting f xs picks 4 x
    → Settled f (set (set (set (set xs (slice_index picks 0) a) (slice_index picks 1) b) (slice_index picks 2) c) (slice_index picks 3) d) x
stored f xs picks a b c d x below ha hb hc hd waits =
    let p = slice_index picks in
    let one = set xs (p 0) a in
    let two = set one (p 1) b in
    let three = set two (p 2) c in
    let size_one : length one ≡ length xs = length-set xs (p 0) a in
    let size_two : length two ≡ length xs = length-set one (p 1) b ∙ size_one in
    let size_three : length three ≡ length xs = length-set two (p 2) c ∙ size_two in
    let b0 = below 0 (omega arith) in
    let b1 = below 1 (omega arith) in
    let b2 = below 2 (omega arith) in
    let b3 = below 3 (omega arith) in
    set_settled f three (p 3) x d (omega arith) hd (λ n3.
    set_settled f two (p 2) x c (omega arith) hc (λ n2.
    set_settled f one (p 1) x b (omega arith) hb (λ n1.
    set_settled f xs (p 0) x a (omega arith) ha (λ n0.
    waits (below_four (λ k. p k ≢ x) n0 n1 n2 n3)))))

-- one group more
pub group_more : (f : ℕ → List ℕ) (old new : List (List ℕ)) (picks : List ℕ) (g count : ℕ)
    → ((y : ℕ) → SettledOrWaiting f old picks 4 y → Settled f new y)
    → ((k : ℕ) → k < 4 → 4 * g + k < count → slice_index picks k ≡ 4 * g + k)
    → ((y : ℕ) → y < 4 * g → y < count → Settled f old y)
    → (x : ℕ) → x < 4 * (g + 1) → x < count → Settled f new x
group_more f old new picks g count writes places before x lt le =
    writes x (λ others. elim (cases_lt x (4 * g)) [
      | inl early ↦ before x early le
      | inr late ↦
          let k = x - 4 * g in
          let at : 4 * g + k ≡ x = omega arith in
          absurd (others k (omega arith) (places k (omega arith) (omega arith) ∙ at))
    ])

-- a chain's end, with what the places and the start are
pub end_is : (id : List ℕ) (q : ℕ) (from to : List ℕ) (starts : List (List ℕ)) (i a b : ℕ) (x value : List ℕ)
    → value ≡ end_of id q from to starts i → slice_index from i ≡ a → slice_index to i ≡ b → slice_index_or starts i [] ≡ x
    → value ≡ chain id q i a b x
end_is id q from to starts i a b x value is ha hb hx = rw (← ha, ← hb, ← hx) is

-- values that are those of f, one behind the other
pub joined_settled : (f : ℕ → List ℕ) (values : List (List ℕ)) (n : ℕ) → length values ≡ n
    → ((i : ℕ) → i < n → Settled f values i) → joined (value_in values) (length values) ≡ joined f n
joined_settled f values n size settled =
    ap (joined (value_in values)) size ∙ joined-same (value_in values) f n settled

-- one chain more waits
pub picked_more : (f : ℕ → List ℕ) (values : List (List ℕ)) (picks : List ℕ) (count i x : ℕ) → length picks ≡ 4 → count < 4
    → (x ≢ i → SettledOrWaiting f values picks count x) → SettledOrWaiting f values (set picks count i) (count + 1) x
picked_more f values picks count i x size low before others =
    before (λ e. others count (omega arith) (get_or-set_same picks count i 0 (omega arith) ∙ sym e))
    (λ k lt e. others k (omega arith) (get_or-set_other picks count k i 0 (omega arith) ∙ e))

pub below_more : (picks : List ℕ) (count i n : ℕ) → length picks ≡ 4 → count < 4 → i < n → AreBelow picks n → AreBelow (set picks count i) n
below_more picks count i n size low within below k lt = elim (cases_lt k count) [
  | inl before ↦
      let e = get_or-set_other picks count k i 0 (omega arith) in
      let b = below k lt in
      omega arith
  | inr rest ↦
      elim (cases_lt count k) [
        | inl behind ↦
            let e = get_or-set_other picks count k i 0 (omega arith) in
            let b = below k lt in
            omega arith
        | inr here ↦
            let same : k ≡ count = omega arith in
            rw same (rw (get_or-set_same picks count i 0 (omega arith)) within)
      ]
]

-- the picks that were filled up
pub rest_picked : (f : ℕ → List ℕ) (values : List (List ℕ)) (picks filled : List ℕ) (count x : ℕ) → count < 4
    → ((k : ℕ) → k < 4 → k < count → slice_index filled k ≡ slice_index picks k)
    → SettledOrWaiting f values picks count x → SettledOrWaiting f values filled 4 x
rest_picked f values picks filled count x low same waits others =
    waits (λ k lt e. others k (omega arith) (same k (omega arith) lt ∙ e))

-- a chain of no step ends where it begins
pub no_step : (id : List ℕ) (q : ℕ) (from to : List ℕ) (starts values : List (List ℕ)) (x : ℕ) → values ≡ starts
    → slice_index to x - slice_index from x ≡ 0 → Settled (end_of id q from to starts) values x
no_step id q from to starts values x is none =
    ap (λ (v : List (List ℕ)). slice_index_or v x []) is
    ∙ sym (chain-done id q x (slice_index from x) (slice_index to x) (slice_index_or starts x []) (omega arith))
