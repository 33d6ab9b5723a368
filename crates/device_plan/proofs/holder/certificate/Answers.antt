-- a certificate of the plan is read, as what it says
use Rattle.std.proofs.Common.{◌≤◌, ℕ, List, length, refl, sym, subst}
use Rattle.std.proofs.Math.Logic.{∥∥₁_elim}
use Rattle.std.proofs.Props.{props}
use Rattle.asn_types.specs.Key.{key_of}
use Rattle.x509_cert.specs.Cert.{cert_of}
use Rattle.x509_cert.proofs.CertLemmas.{cert_reads}
use Rattle.device_plan.specs.Plans.{list_limit}
use Rattle.device_plan.proofs.HolderLemmas.{subject_within, key_alone}
use Rattle.device_plan.proofs.holder.certificate.Goals as goal

bottom : IsProp ⊥
bottom = Prim.hlevel props

pub unreachable-requires : goal.unreachable-requires
unreachable-requires c = ∥∥₁_elim c.requires.form bottom (λ is. cc (c.in_default.ensures.only is.form is.from is.to is.fits is.dated is.spelled))

pub returns-clause-took : goal.returns-clause-took
returns-clause-took c = cert_reads c.args.octets.now (cert_of c.in-Ok.cert) c.in-Ok.ensures.found.0 c.in-Ok.ensures.found.1

pub returns-clause-key : goal.returns-clause-key
returns-clause-key c =
    key_alone (cert_of c.in-Ok.cert) c.in-Ok.cert.spki.content.now (key_of c.in-Ok.cert.spki) refl c.in-Ok.ensures.key.0 c.in-Ok.ensures.key.1
    (subst (λ (l : List ℕ). length l ≤ list_limit) c.in-Ok.ensures.found.1 c.requires.short)

pub returns-clause-within : goal.returns-clause-within
returns-clause-within c = subst (λ (l : List ℕ). length c.in-Ok.cert.subject.whole.now ≤ length l) (sym c.in-Ok.ensures.found.1) (subject_within (cert_of c.in-Ok.cert))
