-- Badges: seats at a turnstile, in a type that doesn't name what the turnstile guards.
use Rattle.std.specs.Prelude.{◌≡◌, ℕ, ◌<◌, List, [], ◌∷◌}
use Rattle.atomic_table.specs.Seated.{TableId}
use Rattle.deal_changes.specs.declared.change.Change.{Change}
use Rattle.deal_changes.specs.declared.change.Settings.{Settings}
use Rattle.deal_model.specs.Views.{History, settings_of}
use Rattle.deal_table.specs.History.{IsFounded}
use Rattle.turnstile.specs.declared.view.View.{View}
use Rattle.turnstile.specs.declared.view.Stage.TheVariants.{Idle}
use Rattle.turnstile.specs.Views.{one_less, one_more, spent}

-- the view of a badge; where it is no seat, that of a seat which was taken in by another
abbrev pub view_of : List (View Change) → View Change
view_of [] = spent
view_of (v ∷ vs) = v

-- the history that it has seen
abbrev pub seen_by : List (View Change) → History
seen_by views = (view_of views).seen

-- the places of the changes that were made by it
abbrev pub places_by : List (View Change) → List ℕ
places_by views = (view_of views).mine

-- for how many stations it counts
abbrev pub share_by : List (View Change) → ℕ
share_by views = (view_of views).share

-- it is a seat at this turnstile, and holds no turn
pub record IsAtRest (table at : TableId) (views : List (View Change)) : Type 0 where
  pub own : at ≡ table
  pub one : views ≡ view_of views ∷ []
  pub idle : (view_of views).stage ≡ Idle
  pub some : 0 < share_by views

-- besides, nothing was made by it yet, and it has seen the founding of a service with these settings
pub record IsFresh (table : TableId) (s : Settings) (at : TableId) (views : List (View Change)) : Type 0 where
  pub rests : IsAtRest table at views
  pub unused : places_by views ≡ []
  pub founded : IsFounded (seen_by views)
  pub settings : settings_of (seen_by views) ≡ s

-- A badge for one station was split off another: both have seen the same, and the new one has made nothing.
pub record Splits (whole own rest : List (View Change)) : Type 0 where
  pub given : own ≡ one_more (view_of whole) ∷ []
  pub kept : rest ≡ one_less (view_of whole) ∷ []
