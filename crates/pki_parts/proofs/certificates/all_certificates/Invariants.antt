-- the elements that are left decide
use Rattle.std.proofs.Common.{◌≡◌}
use Rattle.std.specs.List.{list_all}
use Rattle.der_base.specs.Row.{items_left}
use Rattle.asn_types.specs.Rows.{passes}
use Rattle.pki_parts.specs.Certificates.{is_certificate, are_certificates}
use Rattle.pki_parts.proofs.certificates.all_certificates.Given as goal

abbrev pub invariant-loop-item : goal.invariant-loop-item
invariant-loop-item l = are_certificates l.«content» ≡ list_all (passes is_certificate) (items_left l.item-iterator)
