-- by the request in the form of PKCS #10
use Rattle.std.proofs.Common.{ap, ◌∙◌}
use Rattle.deal_table.specs.Message.{Enrolment, Enrols}
use Rattle.pki_message.specs.Body.{body_of}
use Rattle.pki_message.specs.declared.body.Body.{Body}
use Rattle.intake.proofs.about.body_about.Goals as goal
use Rattle.intake.specs.Bodies.{body_facts}

pub returns-in-P10cr-clause-facts : goal.returns-in-P10cr-clause-facts
returns-in-P10cr-clause-facts c hashes proven h =
    ap (λ (b : Body). body_facts hashes c.args.implicit proven (body_of b)) c.in-P10cr.is ∙ ap (λ (e : Enrolment). Enrols e) (c.p10.ensures.facts proven)
