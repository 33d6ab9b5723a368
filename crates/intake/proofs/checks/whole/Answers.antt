-- octets of which something was asked are a message with a header in form
use Rattle.std.proofs.Common.{Some, sym}
use Rattle.asn_fields.proofs.FieldLemmas.{none_some}
use Rattle.pki_message.specs.Message.{message_of}
use Rattle.intake.proofs.checks.whole.Goals as goal

pub unreachable-requires : goal.unreachable-requires
unreachable-requires c = c.args.r.now.made.some (λ m is. none_some m (sym (c.in_default.ensures.one (Some m) is)))

pub nested-requires-clause-header : goal.nested-requires-clause-header
nested-requires-clause-header c = c.args.r.now.made.header (message_of c.in-Some.message) c.in-Some.ensures.found

pub plain-requires-clause-header : goal.plain-requires-clause-header
plain-requires-clause-header c = c.args.r.now.made.header (message_of c.in-Some.message) c.in-Some.ensures.found
