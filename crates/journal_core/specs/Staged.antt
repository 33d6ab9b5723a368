-- A body that stands behind a gate which is open or not.
use Rattle.std.specs.Prelude.{◌≡◌, ◌≢◌, ℕ, List, ◌∷◌, ◌++◌}

-- the image goes on behind these octets with a gate, a body and a closed gate
pub record StagedAfter (front body image : List ℕ) : Type 0 where
  pub gate : ℕ
  pub next : ℕ
  pub rest : List ℕ
  pub shut : next ≢ 1
  pub parts : image ≡ front ++ gate ∷ (body ++ next ∷ rest)
