-- Where changes stand in a history. Places are counted from 1.
use Rattle.std.specs.Prelude.{ℕ, suc, Bool, [], ◌∷◌, Option, Some, None, option_map, if◌then◌else◌, ◌-◌, slice_get}
use Rattle.std.specs.Option.{option_or}
use Rattle.std.specs.List.{position_from}
use Rattle.deal_changes.specs.declared.change.Change.{Change}
use Rattle.deal_model.specs.Views.{History}

-- the place of the first change that passes
abbrev pub place_of : (Change → Bool) → History → Option ℕ
place_of test h = position_from test 1 h

-- the place of the last change that passes
abbrev pub last_place_of : (Change → Bool) → History → Option ℕ
last_place_of test [] = None
last_place_of test (c ∷ h) = option_or (option_map suc (last_place_of test h)) (if test c then Some 1 else None)

-- the change at a place
abbrev pub change_at : History → ℕ → Option Change
change_at h place = slice_get h (place - 1)
