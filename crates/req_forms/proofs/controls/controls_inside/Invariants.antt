-- the controls that are left decide
use Rattle.std.proofs.Common.{◌≡◌, option_map}
use Rattle.der_base.specs.Row.{items_left}
use Rattle.asn_fields.specs.Rows.{each_at}
use Rattle.req_forms.specs.Controls.{old_of, control_at, controls_at, with_old}
use Rattle.req_forms.proofs.controls.controls_inside.Given as goal

abbrev pub invariant-loop-item : goal.invariant-loop-item
invariant-loop-item l = controls_at l.octets ≡ with_old l.octets (option_map old_of l.old) (each_at control_at 0x30 (items_left l.item-iterator))
