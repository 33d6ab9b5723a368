-- the extensions that are left decide
use Rattle.std.proofs.Common.{◌≡◌, false}
use Rattle.der_base.specs.Row.{items_left}
use Rattle.asn_fields.specs.Rows.{entries_at, each_at}
use Rattle.asn_types.specs.Extension.{extension_at}
use Rattle.intake.specs.Told.{twice_in}
use Rattle.intake.proofs.extensions.has_twice.Given as goal

abbrev pub invariant-loop-item : goal.invariant-loop-item
invariant-loop-item l = record {
  twice : twice_in false (entries_at extension_at 0x30 l.«content») ≡ twice_in l.found (each_at extension_at 0x30 (items_left l.left));
  next : (goal.iterator-loop-item).can_next l.left;
  finite : (goal.iterator-loop-item).is_finite l.left;
}
