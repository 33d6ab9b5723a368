-- What holds of the answers of a history and those of each later one.
use Rattle.std.specs.Prelude.{◌≡◌, ℕ, List, ◌++◌, Some}
use Rattle.deal_changes.specs.declared.change.Kind.{Kind}
use Rattle.deal_model.specs.declared.states.Owner.{Owner}
use Rattle.deal_model.specs.Views.{History, owner_of}

-- a credential belongs for ever to its first owner, with the same key and the same rights
abbrev pub OwnersStay : Type 0
OwnersStay = (h more : History) (kind : Kind) (kid : List ℕ) (o : Owner) → owner_of h kind kid ≡ Some o → owner_of (h ++ more) kind kid ≡ Some o
