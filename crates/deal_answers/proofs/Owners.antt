-- To whom a credential belongs stays so.
use Rattle.std.proofs.Common.{◌≡◌, ℕ, List, ◌++◌, Option, Some, None}
use Rattle.std.specs.Prelude.{option_and_then, find}
use Rattle.std.specs.Option.{option_or}
use Rattle.std.proofs.lemmas.List.Folds.{find-append}
use Rattle.std.proofs.lemmas.Option.{none-some}
use Rattle.deal_changes.specs.declared.change.Change.{Change}
use Rattle.deal_changes.specs.declared.change.Kind.{Kind}
use Rattle.deal_model.specs.declared.states.Owner.{Owner}
use Rattle.deal_model.specs.Views.{History, owner_in, has_owner, owner_of}

-- what was found at first is found before all that comes later
found_first : (f : Change → Option Owner) (found later : Option Change) (o : Owner) → option_and_then f found ≡ Some o → option_and_then f (option_or found later) ≡ Some o
found_first f None later o e = absurd (none-some o e)
found_first f (Some c) later o e = e

pub owner_stays : (h more : History) (kind : Kind) (kid : List ℕ) (o : Owner) → owner_of h kind kid ≡ Some o → owner_of (h ++ more) kind kid ≡ Some o
unfolding owner_of
owner_stays h more kind kid o e = rw (find-append (has_owner kind kid) h more) (found_first (owner_in kind kid) (find (has_owner kind kid) h) (find (has_owner kind kid) more) o e)
