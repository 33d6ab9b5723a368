-- What readers return, from what reading on lists gives.
use Rattle.std.proofs.Common.{◌≡◌, ℕ, Bool, true, false, cond, eqb, List, Option, Some, None, Result, Ok, Err, IfOk, eqb-true, eq-eqb, refl, sym, ap, ◌∙◌}
use Rattle.asn_fields.specs.Fields.{Gives}
use Rattle.asn_fields.specs.Forms.{IsRead}
use Rattle.asn_fields.specs.declared.fault.BadForm.{BadForm}

-- what was read of a content is spelled so
pub found_by : {X Y : Type 0} {read : List ℕ → Option Y} {spelling : Y → List ℕ} {Fits : Y → Type 0} → IsRead read spelling Fits → (view : X → Y) (r : Result X BadForm) (content : List ℕ) → Gives view r (read content) → IfOk r (λ x. Fits (view x) × (content ≡ spelling (view x)))
found_by law view (Ok x) content e = law.takes content (view x) e
found_by law view (Err f) content e = tt

-- what is spelled so is read
pub only_by : {X Y : Type 0} {read : List ℕ → Option Y} {spelling : Y → List ℕ} {Fits : Y → Type 0} → IsRead read spelling Fits → (view : X → Y) (r : Result X BadForm) (content : List ℕ) → Gives view r (read content) → (y : Y) → Fits y → content ≡ spelling y → Gives view r (Some y)
only_by {read} law view (Ok x) content e y fits spelled = sym (law.again y fits) ∙ sym (ap read spelled) ∙ e
only_by {read} law view (Err f) content e y fits spelled = sym (law.again y fits) ∙ sym (ap read spelled) ∙ e

tagged_test : {Y : Type 0} (b : Bool) (o : Option Y) (y : Y) → cond b o None ≡ Some y → (b ≡ true) × (o ≡ Some y)
tagged_test true o y e = (refl, e)
tagged_test false o y e = cc

-- the same inside an element with a tag
pub found_in : {X Y : Type 0} {read : List ℕ → Option Y} {spelling : Y → List ℕ} {Fits : Y → Type 0} → IsRead read spelling Fits → (view : X → Y) (r : Result X BadForm) (want tag : ℕ) (content : List ℕ) → Gives view r (cond (eqb tag want) (read content) None) → IfOk r (λ x. (tag ≡ want) × Fits (view x) × (content ≡ spelling (view x)))
found_in law view (Ok x) want tag content e =
    let t = tagged_test (eqb tag want) _ (view x) e in
    let f = law.takes content (view x) t.1 in
    (eqb-true tag want t.0, f.0, f.1)
found_in law view (Err f) want tag content e = tt

tagged_gives : {Y : Type 0} (read : List ℕ → Option Y) (b : Bool) (content : List ℕ) (y : Y) → b ≡ true → Some y ≡ read content → Some y ≡ cond b (read content) None
tagged_gives read true content y t e = e
tagged_gives read false content y t e = cc

pub only_in : {X Y : Type 0} {read : List ℕ → Option Y} {spelling : Y → List ℕ} {Fits : Y → Type 0} → IsRead read spelling Fits → (view : X → Y) (r : Result X BadForm) (want tag : ℕ) (content : List ℕ) → Gives view r (cond (eqb tag want) (read content) None) → (y : Y) → tag ≡ want → Fits y → content ≡ spelling y → Gives view r (Some y)
only_in {read} law view (Ok x) want tag content e y t fits spelled = tagged_gives read (eqb tag want) content y (eq-eqb tag want t) (sym (law.again y fits) ∙ sym (ap read spelled)) ∙ e
only_in {read} law view (Err f) want tag content e y t fits spelled = tagged_gives read (eqb tag want) content y (eq-eqb tag want t) (sym (law.again y fits) ∙ sym (ap read spelled)) ∙ e
