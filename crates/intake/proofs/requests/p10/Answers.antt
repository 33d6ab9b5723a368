-- what is asked for is no longer than the request
use Rattle.std.proofs.Common.{ℕ, List, Option, Some, sym, subst}
use Rattle.asn_types.specs.Key.{key_of}
use Rattle.req_forms.specs.Pkcs10.{p10_of}
use Rattle.intake.proofs.Limits.{p10_within}
use Rattle.intake.proofs.requests.p10.Goals as goal
use Rattle.intake.specs.Told.{AreLimited}

pub returns-clause-fits : goal.returns-clause-fits
returns-clause-fits c bytes is h =
    subst (λ (o : Option (List ℕ)). AreLimited (Some c.args.p.now.subject.whole.now) (Some (key_of c.args.p.now.spki)) o) (sym c.ext_octets.ensures) (p10_within bytes (p10_of c.args.p.now) is h)
