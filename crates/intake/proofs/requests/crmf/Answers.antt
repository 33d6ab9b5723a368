-- the first request decides
use Rattle.std.proofs.Common.{Option, IfSome, option_map, subst, ap, ◌∙◌}
use Rattle.req_forms.specs.Requests.{req_of, list_of}
use Rattle.req_forms.specs.declared.requests.CrmfReq.{CrmfReq}
use Rattle.intake.proofs.Limits.{IsAskedWithin, crmf_within}
use Rattle.intake.proofs.requests.crmf.Goals as goal
use Rattle.intake.specs.Bodies.{crmf_enrolment}
use Rattle.intake.specs.Holds.{ProvesFirst}

pub returns-in-None-clause-facts : goal.returns-in-None-clause-facts
returns-in-None-clause-facts c proven h =
    ap (λ (o : Option CrmfReq). crmf_enrolment c.args.body c.args.implicit proven c.args.list.now.count (option_map req_of o)) c.in-None.is
    ∙ c.no_request.ensures.facts proven (λ t. subst (λ (o : Option CrmfReq). ProvesFirst (option_map req_of o)) c.in-None.is (h t))

pub returns-in-Some-clause-facts : goal.returns-in-Some-clause-facts
returns-in-Some-clause-facts c proven h =
    ap (λ (o : Option CrmfReq). crmf_enrolment c.args.body c.args.implicit proven c.args.list.now.count (option_map req_of o)) c.in-Some.is
    ∙ c.crmf_request.ensures.facts proven

pub returns-in-Some-clause-fits : goal.returns-in-Some-clause-fits
returns-in-Some-clause-fits c bytes is h =
    c.crmf_request.ensures.fits (subst (λ (o : Option CrmfReq). IfSome (option_map req_of o) IsAskedWithin) c.in-Some.is (crmf_within bytes (list_of c.args.list.now) is h))
