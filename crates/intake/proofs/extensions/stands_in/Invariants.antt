-- the extensions that are left decide
use Rattle.std.proofs.Common.{◌≡◌, false}
use Rattle.der_base.specs.Row.{items_left}
use Rattle.asn_fields.specs.Rows.{each_at}
use Rattle.asn_types.specs.Extension.{extension_at}
use Rattle.intake.specs.Told.{any_in, same_oid}
use Rattle.intake.proofs.extensions.stands_in.Given as goal

abbrev pub invariant-loop-item : goal.invariant-loop-item
invariant-loop-item l = any_in (same_oid l.oid) false (each_at extension_at 0x30 (items_left l.fn.left)) ≡ any_in (same_oid l.oid) l.found (each_at extension_at 0x30 (items_left l.item-iterator))
