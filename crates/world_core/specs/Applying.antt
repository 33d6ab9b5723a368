-- What it means that a step was applied to a world.
use Rattle.std.specs.Prelude.{◌≡◌, Bool, MatchBool}
use Rattle.world_core.specs.declared.world.World.{World}
use Rattle.world_core.specs.declared.world.Step.{Step}
use Rattle.world_core.specs.Steps.{Enabled, after}

-- the step could be taken and was; or it couldn't, and nothing changed
abbrev pub Applied : World → Step → World → Bool → Type 0
Applied w s v taken = MatchBool taken (Enabled w s × (v ≡ after w s)) ((Enabled w s → ⊥) × (v ≡ w))
