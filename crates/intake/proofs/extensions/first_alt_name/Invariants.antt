-- the extensions that are left decide
use Rattle.std.proofs.Common.{◌≡◌, None, option_map}
use Rattle.der_base.specs.Row.{items_left}
use Rattle.asn_fields.specs.Rows.{entries_at, each_at}
use Rattle.asn_types.specs.Extension.{extension_of, extension_at}
use Rattle.intake.specs.Told.{first_in}
use Rattle.intake.specs.Wishes.{is_alt_name}
use Rattle.intake.proofs.extensions.first_alt_name.Given as goal

abbrev pub invariant-loop-item : goal.invariant-loop-item
invariant-loop-item l = first_in is_alt_name None (entries_at extension_at 0x30 l.«content») ≡ first_in is_alt_name (option_map extension_of l.first) (each_at extension_at 0x30 (items_left l.item-iterator))
