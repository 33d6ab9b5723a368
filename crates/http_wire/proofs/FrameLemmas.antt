-- A text that grows.
use Rattle.std.specs.Prelude.{◌≡◌, ℕ, List, [], ◌∷◌, ◌++◌, length, take, Result, Ok, Err, OnOk}
use Rattle.std.proofs.Common.{refl, ap, ◌∙◌, append_assoc}
use Rattle.http_wire.specs.Framing.{Begins}

pub begins_more : (base text more new : List ℕ) → new ≡ text ++ more → Begins base text → Begins base new
begins_more base text more new is begins = ap (take (length base)) is ∙ step base text begins
  where
    step : (base text : List ℕ) → Begins base text → Begins base (text ++ more)
    step [] text begins = refl
    step (b ∷ base) [] begins = absurd (cc begins)
    step (b ∷ base) (t ∷ text) begins =
        let here : t ≡ b = cc begins in
        let behind : take (length base) text ≡ base = cc begins in
        cc (here, step base text behind)

pub begins_all : (base : List ℕ) → Begins base base
begins_all [] = refl
begins_all (b ∷ base) = ap (λ (l : List ℕ). b ∷ l) (begins_all base)

-- the parts of a reply, one behind the other
pub parts_in_order : {E : Type 0} (r : Result (Unit {0}) E) (old first second third fourth new status field count closing blank body : List ℕ)
    → first ≡ old ++ (status ++ field) → second ≡ first ++ count → third ≡ second ++ closing → fourth ≡ third ++ blank → OnOk r (new ≡ fourth ++ body)
    → OnOk r (new ≡ old ++ (status ++ (field ++ (count ++ (closing ++ (blank ++ body))))))
parts_in_order (Err e) old first second third fourth new status field count closing blank body h1 h2 h3 h4 h5 = tt
parts_in_order (Ok done) old first second third fourth new status field count closing blank body h1 h2 h3 h4 h5 =
    cc (
      h1,
      h2,
      h3,
      h4,
      h5,
      append_assoc third blank body,
      append_assoc second closing (blank ++ body),
      append_assoc first count (closing ++ (blank ++ body)),
      append_assoc old (status ++ field) (count ++ (closing ++ (blank ++ body))),
      append_assoc status field (count ++ (closing ++ (blank ++ body))),
    )
