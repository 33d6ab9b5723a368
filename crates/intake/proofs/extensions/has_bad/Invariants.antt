-- the extensions that are left decide
use Rattle.std.proofs.Common.{◌≡◌, false}
use Rattle.der_base.specs.Row.{items_left}
use Rattle.asn_fields.specs.Rows.{entries_at, each_at}
use Rattle.asn_types.specs.Extension.{extension_at}
use Rattle.intake.specs.Told.{any_in}
use Rattle.intake.specs.Wishes.{is_bad_extension}
use Rattle.intake.proofs.extensions.has_bad.Given as goal

abbrev pub invariant-loop-item : goal.invariant-loop-item
invariant-loop-item l = any_in is_bad_extension false (entries_at extension_at 0x30 l.«content») ≡ any_in is_bad_extension l.found (each_at extension_at 0x30 (items_left l.item-iterator))
