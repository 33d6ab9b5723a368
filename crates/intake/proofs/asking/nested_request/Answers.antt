-- what is made is made of the one reading
use Rattle.std.proofs.Common.{List, ℕ, Option, Some, subst}
use Rattle.std.specs.Prelude.{option_map}
use Rattle.pki_message.specs.Message.{message_of}
use Rattle.deal_changes.specs.declared.change.Kind.{Kind}
use Rattle.intake.specs.Made.{heading_of, IsAskFor}
use Rattle.intake.proofs.MadeLemmas.{made_at, made_nested}
use Rattle.intake.proofs.asking.nested_request.Goals as goal

pub invariant_of-result : goal.invariant_of-result
invariant_of-result c =
    let read = option_map message_of c.message_in-inner.result in
    let around = heading_of (Some (message_of c.args.around.now)) in
    let asked = subst (λ (o : Option (Kind × List ℕ)). IsAskFor c.args.inside.now (heading_of read) o c.ask_about-ask.result) c.credential-outer.ensures c.ask_about-ask.ensures in
    record {
      made = made_nested c.args.bytes.now (message_of c.args.around.now) c.ask_about-ask.result c.echo_in.result c.echo.result c.requires.one c.requires.found c.requires.header c.args.inside.now c.requires.nested
          (made_at c.args.inside.now read around _ c.ask_about-ask.result c.echo_in.result c.echo.result c.message_in-inner.ensures.one asked c.echo_in.ensures c.echo.ensures);
    }
