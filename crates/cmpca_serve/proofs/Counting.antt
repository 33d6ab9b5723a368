-- Places, and the changes that stand there.
use Rattle.std.proofs.Common.{◌≡◌, ℕ, suc, ◌+◌, ◌-◌, ◌≤◌, Bool, true, false, List, [], ◌∷◌, ◌++◌, length, Option, Some, None, arith, refl, ◌∙◌, ap, sym, subst, length-append, append-nil, append_assoc, cond}
use Rattle.std.specs.Prelude.{◌==◌, count_by, sum_by, if◌then◌else◌}
use Rattle.std.specs.List.{AllByRecursion, slice_get}
use Rattle.std.proofs.lemmas.Bool.{eqb-true}
use Rattle.std.proofs.lemmas.Bool.Decides.{nat_tests}
use Rattle.std.proofs.lemmas.List.Sums.{sum_by-append, sum_by-cons}
use Rattle.cmp_ports.specs.declared.order.Order.{Order}
use Rattle.cmp_ports.specs.declared.order.Order.TheVariants as orders
use Rattle.deal_changes.specs.declared.change.Change.{Change}
use Rattle.deal_changes.specs.declared.change.Change.TheVariants.{Release, Deny}
use Rattle.deal_model.specs.Views.{History}
use Rattle.desk.specs.Calls.{IsOrder}
use Rattle.rounds.specs.Deeds.{Deed, Obeyed, Unheeded, Lapsed, AreDeeds, places_in, obeyed, is_obeyed}
use Rattle.rounds.proofs.Lists.{get_seam}
use Rattle.turnstile.specs.Lists.{times, once}
use Rattle.cmpca_serve.specs.Parts.{is_order_change, IsNoOrder, AreAll}

-- ---- places

-- 1 where the numbers are one
abbrev one_if : ℕ → ℕ → ℕ
one_if x p = if x == p then 1 else 0

one_if_same : (p : ℕ) → one_if p p ≡ 1
one_if_same p = grind (arith, nat_tests)

first_once : (opening k p : ℕ) → once opening (opening + suc k) p ≡ one_if (opening + 1) p + once (opening + 1) (opening + suc k) p
first_once opening k p = grind (arith, nat_tests)

none_once : (opening p : ℕ) → once opening opening p ≡ 0
none_once opening p = grind (arith, nat_tests)

-- ---- one place taken out of a list

-- the second list is the first with this number taken out once
record Removed (f : ℕ → ℕ) (p : ℕ) (xs ys : List ℕ) : Type 0 where
  weight : sum_by f xs ≡ f p + sum_by f ys
  others : (q : ℕ) → times q xs ≡ one_if p q + times q ys

removed : (f : ℕ → ℕ) (p : ℕ) (xs : List ℕ) → 1 ≤ times p xs → (ys : List ℕ) × Removed f p xs ys
removed f p [] some = absurd (omega (arith, some))
removed f p (x ∷ xs) some = by_case (λ there. removed f p xs there) (x == p) refl
  where
    by_case : (1 ≤ times p xs → (ys : List ℕ) × Removed f p xs ys) → (t : Bool) → (x == p) ≡ t → (ys : List ℕ) × Removed f p (x ∷ xs) ys
    by_case deeper true is =
        let same : x ≡ p = eqb-true x p is in
        (xs, record { weight = sum_by-cons f x xs ∙ ap (λ (y : ℕ). f y + sum_by f xs) same; others = λ q. ap (λ (y : ℕ). one_if y q + times q xs) same })
    by_case deeper false is =
        let none : one_if x p ≡ 0 = ap (λ (b : Bool). cond b 1 0) is in
        let rest = deeper (omega (arith, some, none)) in
        (x ∷ rest.0, record { weight = omega (arith, rest.1.weight, sum_by-cons f x xs, sum_by-cons f x rest.0); others = λ q. omega (arith, rest.1.others q) })

none_there : (xs : List ℕ) → ((p : ℕ) → times p xs ≡ 0) → xs ≡ []
none_there [] none = refl
none_there (x ∷ xs) none = absurd (omega (arith, none x, one_if_same x))

-- ---- changes

-- 1 for an order
abbrev weight : Change → ℕ
weight c = if is_order_change c then 1 else 0

-- what stands at each place has this weight
abbrev Weighs : (ℕ → ℕ) → History → Type 0
Weighs f h = (n : ℕ) (c : Change) → slice_get h n ≡ Some c → f (n + 1) ≡ weight c

count_all : (f : ℕ → ℕ) (front more : History) (xs : List ℕ) → Weighs f (front ++ more) → AreAll (length front) (length (front ++ more)) xs → sum_by f xs ≡ count_by is_order_change more
count_all f front [] xs weighs all =
    ap (λ (l : List ℕ). sum_by f l) (none_there xs (λ p. all p ∙ ap (λ (l : History). once (length front) (length l) p) (append-nil front) ∙ none_once (length front) p))
count_all f front (c ∷ more) xs weighs all =
    let n : ℕ = length front in
    let p : ℕ = n + 1 in
    let long : length (front ++ c ∷ more) ≡ n + suc (length more) = length-append front (c ∷ more) in
    let split : (q : ℕ) → times q xs ≡ one_if p q + once p (n + suc (length more)) q = λ q. all q ∙ ap (λ (m : ℕ). once n m q) long ∙ first_once n (length more) q in
    let taken = removed f p xs (omega (arith, split p, one_if_same p)) in
    let on : front ++ c ∷ more ≡ (front ++ c ∷ []) ++ more = sym (append_assoc front (c ∷ []) more) in
    let longer : length ((front ++ c ∷ []) ++ more) ≡ n + suc (length more) = ap (λ (l : History). length l) (sym on) ∙ long in
    let rest : AreAll (length (front ++ c ∷ [])) (length ((front ++ c ∷ []) ++ more)) taken.0 =
    λ q. let left : times q taken.0 ≡ once p (n + suc (length more)) q = omega (arith, split q, taken.1.others q) in
    left ∙ ap (λ (m : ℕ). once p m q) (sym longer) ∙ ap (λ (m : ℕ). once m (length ((front ++ c ∷ []) ++ more)) q) (sym (length-append front (c ∷ []))) in
    let told : sum_by f taken.0 ≡ count_by is_order_change more = count_all f (front ++ c ∷ []) more taken.0 (subst (λ (l : History). Weighs f l) on weighs) rest in
    taken.1.weight ∙ ap (λ (m : ℕ). m + sum_by f taken.0) (weighs n c (get_seam front more c)) ∙ ap (λ (m : ℕ). weight c + m) told ∙ sym (sum_by-cons (λ x. cond (is_order_change x) 1 0) c more)

-- ---- deeds and sessions

order_weighs : (order : Order) (time : ℕ) (c : Change) → IsOrder order time c → weight c ≡ 1
order_weighs (orders.Release tid) time c is = let same : Release time tid ≡ c = cc is in ap weight (sym same)
order_weighs (orders.Deny tid) time c is = let same : Deny time tid ≡ c = cc is in ap weight (sym same)
order_weighs orders.Bad time c is = absurd (cc is)

deeds_weigh : (f : ℕ → ℕ) (h : History) (floor : ℕ) (ds : List Deed) → Weighs f h → AreDeeds h floor ds → sum_by f (places_in ds) ≡ obeyed ds
deeds_weigh f h floor [] weighs deeds = refl
deeds_weigh f h floor (Obeyed order n now ∷ ds) weighs deeds =
    omega (arith, weighs n deeds.1.0 deeds.1.1, order_weighs order _ deeds.1.0 deeds.1.2.1, deeds_weigh f h (n + 1) ds weighs deeds.2, sum_by-cons f (n + 1) (places_in ds), sum_by-cons (λ d. cond (is_obeyed d) 1 0) (Obeyed order n now) ds)
deeds_weigh f h floor (Unheeded order n now ∷ ds) weighs deeds = omega (arith, deeds_weigh f h n ds weighs deeds.2, sum_by-cons (λ d. cond (is_obeyed d) 1 0) (Unheeded order n now) ds)
deeds_weigh f h floor (Lapsed n now ∷ ds) weighs deeds =
    let none : weight deeds.1.0 ≡ 0 = ap weight deeds.1.2.2 in
    omega (arith, weighs n deeds.1.0 deeds.1.1, none, deeds_weigh f h (n + 1) ds weighs deeds.2, sum_by-cons f (n + 1) (places_in ds), sum_by-cons (λ d. cond (is_obeyed d) 1 0) (Lapsed n now) ds)

-- the weight of what stands at a place
abbrev weight_in : Option Change → ℕ
weight_in None = 0
weight_in (Some c) = weight c

abbrev weight_at : History → ℕ → ℕ
weight_at h place = weight_in (slice_get h (place - 1))

no_orders_weigh : (h : History) (made : List ℕ) → AllByRecursion (IsNoOrder h) made → sum_by (weight_at h) made ≡ 0
no_orders_weigh h [] all = refl
no_orders_weigh h (p ∷ ps) all =
    let none : weight all.0.0 ≡ 0 = ap (λ (b : Bool). cond b 1 0) all.0.2 in
    let here : weight_at h p ≡ weight all.0.0 = ap (λ (o : Option Change). weight_in o) all.0.1 in
    omega (arith, here, none, no_orders_weigh h ps all.1, sum_by-cons (weight_at h) p ps)

pub orders_told : (h more : History) (made : List ℕ) (floor : ℕ) (ds : List Deed) → AreAll (length h) (length (h ++ more)) (made ++ places_in ds) → AllByRecursion (IsNoOrder (h ++ more)) made → AreDeeds (h ++ more) floor ds → count_by is_order_change more ≡ obeyed ds
orders_told h more made floor ds all none deeds =
    let f : ℕ → ℕ = weight_at (h ++ more) in
    let weighs : Weighs f (h ++ more) = λ n c at. ap (λ (m : ℕ). weight_in (slice_get (h ++ more) m)) (omega arith) ∙ ap (λ (o : Option Change). weight_in o) at in
    sym (count_all f h more (made ++ places_in ds) weighs all) ∙ sum_by-append f made (places_in ds)
    ∙ ap (λ (n : ℕ). n + sum_by f (places_in ds)) (no_orders_weigh (h ++ more) made none) ∙ omega (arith, deeds_weigh f (h ++ more) floor ds weighs deeds)
