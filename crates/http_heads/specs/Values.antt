-- The values of the fields of one name, as they are found.
use Rattle.std.specs.Prelude.{◌≡◌, ℕ, List, [], ◌∷◌}
use Rattle.http_heads.specs.declared.fields.Values.{Values}
use Rattle.http_heads.specs.declared.fields.Values.TheVariants.{Missing, One, Several}

-- none, one, or several of which the first is known
abbrev pub AreValues : List (List ℕ) → Values → Type 0
AreValues vs Missing = vs ≡ []
AreValues vs (One v) = vs ≡ v.now ∷ []
AreValues vs (Several v) = (w : List ℕ) × (ws : List (List ℕ)) × (vs ≡ v.now ∷ w ∷ ws)
