-- the extensions that are left decide
use Rattle.std.proofs.Common.{◌≡◌}
use Rattle.der_base.specs.Row.{items_left}
use Rattle.asn_fields.specs.Rows.{each_at}
use Rattle.asn_types.specs.Extension.{extension_at}
use Rattle.pki_parts.specs.Reason.{reason_in_at, with_reason}
use Rattle.pki_parts.proofs.reason.reason_inside.Given as goal

abbrev pub invariant-loop-item : goal.invariant-loop-item
invariant-loop-item l = reason_in_at l.content ≡ with_reason l.found (each_at extension_at 0x30 (items_left l.item-iterator))
