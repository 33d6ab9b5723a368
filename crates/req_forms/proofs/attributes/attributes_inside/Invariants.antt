-- the attributes that are left decide
use Rattle.std.proofs.Common.{◌≡◌, option_map}
use Rattle.der_base.specs.Row.{items_left}
use Rattle.asn_fields.specs.Rows.{each_at}
use Rattle.asn_types.specs.Template.{extensions_of}
use Rattle.req_forms.specs.Attributes.{attribute_at, attributes_at, with_asked}
use Rattle.req_forms.proofs.attributes.attributes_inside.Given as goal

abbrev pub invariant-loop-item : goal.invariant-loop-item
invariant-loop-item l = attributes_at l.octets ≡ with_asked l.octets (option_map extensions_of l.exts) (each_at attribute_at 0x30 (items_left l.item-iterator))
