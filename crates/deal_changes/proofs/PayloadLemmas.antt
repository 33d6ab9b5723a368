-- What a reader of a form answers, by the form's spelling.
use Rattle.std.proofs.Common.{ℕ, List, sym, ap, ◌∙◌}
use Rattle.std.specs.Prelude.{Result, Ok, Err, IfOk}
use Rattle.deal_changes.specs.declared.fault.ChangeFault.{ChangeFault}
use Rattle.deal_changes.specs.declared.fault.ChangeFault.TheVariants.{BadChange, NoMemory}
use Rattle.deal_changes.specs.Reading.{Read, Gives}
use Rattle.deal_changes.specs.Payload.{IsSpelled, IsFound}
use Rattle.deal_changes.proofs.Forms.{IsBytes, IsForm, same_some, none_some}

pub is_spelled : {X Y : Type 0} (read : List ℕ → Read X) (spell : X → List ℕ) (Fits : X → Type 0) (form : IsForm read spell Fits) (bytes : List ℕ) (view : Y → X × List ℕ) (r : Result Y ChangeFault)
    → IsBytes bytes → Gives view r (read bytes) → IfOk r (IsSpelled spell Fits bytes view)
is_spelled read spell Fits form bytes view (Ok y) ok gives = let t = form.takes bytes (view y).0 (view y).1 ok gives in (t.1, t.0.parts)
is_spelled read spell Fits form bytes view (Err e) ok gives = tt

pub is_found : {X Y : Type 0} (read : List ℕ → Read X) (spell : X → List ℕ) (Fits : X → Type 0) (form : IsForm read spell Fits) (bytes : List ℕ) (view : Y → X × List ℕ) (r : Result Y ChangeFault)
    → Gives view r (read bytes) → IsFound spell Fits bytes view r
is_found read spell Fits form bytes view (Ok y) gives part rest fits e = same_some (view y) (part, rest) (sym gives ∙ ap read e ∙ form.again part rest fits tt)
is_found read spell Fits form bytes view (Err BadChange) gives part rest fits e = none_some _ (part, rest) (sym gives ∙ ap read e ∙ form.again part rest fits tt)
is_found read spell Fits form bytes view (Err NoMemory) gives part rest fits e = tt
