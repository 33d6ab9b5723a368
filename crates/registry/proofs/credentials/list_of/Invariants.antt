-- What stands in the list, and what is still read behind it, is what is read of all items.
use Rattle.std.proofs.Common.{◌≡◌, [], length, drop}
use Rattle.std.specs.List.{AllByRecursion}
use Rattle.registry.specs.Forms.{IsAmong}
use Rattle.registry.specs.Credentials.{AreFit}
use Rattle.registry.proofs.ListLemmas.{read_behind}
use Rattle.registry.proofs.credentials.list_of.Given as goal

abbrev pub invariant-loop-item : goal.invariant-loop-item
invariant-loop-item l = record {
  read : read_behind l.kinds l.list.items (drop l.item-index l.items) ≡ read_behind l.kinds [] l.items;
  counted : length l.list.items ≡ l.item-index;
  fit : AreFit l.list.items;
  among : AllByRecursion (λ c. IsAmong l.kinds c.kind) l.list.items;
}
