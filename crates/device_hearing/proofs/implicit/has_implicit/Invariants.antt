-- the informations that are left decide
use Rattle.std.proofs.Common.{◌≡◌, false}
use Rattle.der_base.specs.Row.{items_left}
use Rattle.asn_fields.specs.Rows.{entries_at, each_at}
use Rattle.asn_types.specs.Algorithm.{algorithm_at}
use Rattle.intake.specs.Headers.{is_implicit_confirm}
use Rattle.intake.specs.Told.{any_in}
use Rattle.device_hearing.proofs.implicit.has_implicit.Given as goal

abbrev pub invariant-loop-item : goal.invariant-loop-item
invariant-loop-item l = any_in is_implicit_confirm false (entries_at algorithm_at 0x30 l.«content») ≡ any_in is_implicit_confirm l.found (each_at algorithm_at 0x30 (items_left l.item-iterator))
