-- The credentials so far stand behind the number of all.
use Rattle.std.proofs.Common.{◌≡◌, ◌++◌, length, take}
use Rattle.std.specs.List.{flat_map}
use Rattle.deal_changes.specs.Spelling.{u16, credential}
use Rattle.deal_changes.proofs.writing.put_credentials.Given as goal

abbrev pub invariant-loop-c : goal.invariant-loop-c
invariant-loop-c l = l.out.items ≡ l.fn.out.items ++ (u16 (length l.list) ++ flat_map credential (take l.c-index l.list))
