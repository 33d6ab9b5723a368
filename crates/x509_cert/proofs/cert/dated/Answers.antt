-- the times that the validity has are those that were read
use Rattle.std.proofs.Common.{ℕ, Some, sym, ap}
use Rattle.x509_cert.specs.Cert.{parts_of}
use Rattle.x509_cert.proofs.ValidityLemmas.{same_times, times_none}
use Rattle.x509_cert.proofs.cert.dated.Goals as goal

pub returns-in_err-not_before-clause-only : goal.returns-in_err-not_before-clause-only
returns-in_err-not_before-clause-only c = λ from to h. absurd (times_none _ (from, to) (c.in_err-not_before.ensures.only from to h))

pub returns-clause-only : goal.returns-clause-only
returns-clause-only c = λ from to h. sym (ap (λ (z : ℕ × ℕ). Some (parts_of c.args.parts.now, z.0, z.1)) (same_times _ (from, to) (c.in_ok-not_before.ensures.only from to h)))
