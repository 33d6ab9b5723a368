-- the identifier of the certificate's key
use Rattle.std.proofs.Common.{ℕ, List, sym, ap, ◌∙◌}
use Rattle.std.proofs.lemmas.Result.{IfOk-weaker}
use Rattle.x509_cert.specs.Cert.{cert_at}
use Rattle.device_plan.specs.declared.plan.DeviceGuard.{DeviceGuard}
use Rattle.device_plan.specs.declared.plan.DeviceGuard.TheVariants.{Signed}
use Rattle.device_plan.specs.Plans.{cert_in, kid_by}
use Rattle.device_plan.proofs.holder.kid.Goals as goal

pub returns-in-Signed-clause-written : goal.returns-in-Signed-clause-written
returns-in-Signed-clause-written c =
    IfOk-weaker c.copy_of-in-Signed.result _ _
    (λ o is.
    is
    ∙ c.key_id_of.ensures c.in-Signed.cert
    ∙ ap (λ (l : List ℕ). kid_by (Signed c.in-Signed.cert) (cert_at l)) c.as_slice-in-Signed.ensures
    ∙ sym (ap (λ (g : DeviceGuard). kid_by g (cert_in g)) c.in-Signed.is))
    c.copy_of-in-Signed.ensures
