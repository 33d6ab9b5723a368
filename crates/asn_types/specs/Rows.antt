-- SEQUENCE OF and SET OF: a content is a row of elements, each of a form (X.690, 8.10 and 8.12). The order inside a SET is
-- not asked for.
use Rattle.std.specs.Prelude.{ℕ, Bool, false, List, Result, Ok, Err, All}
use Rattle.der_base.specs.Reading.{Part}
use Rattle.der_base.specs.Row.{IsRow}
use Rattle.der_base.specs.declared.fault.DerFault.{DerFault}

-- The content is a row of elements, nothing over, and each element is of the form.
pub record IsRowOf (Form : Part → Type 0) (content : List ℕ) : Type 0 where
  pub parts : List Part
  pub row : IsRow content parts
  pub each : All Form parts

-- an item that was read and passes a test
abbrev pub passes : (Part → Bool) → Result Part DerFault → Bool
passes test (Ok p) = test p
passes test (Err f) = false
