-- The octets of the service's certificates. Each is signed by a leaf of the key that issues (RFC 9802, 5): the authority's own by
-- leaf 0, that of its replies by leaf 1.
use Rattle.std.specs.Prelude.{ℕ, ◌^◌, ◌≤◌, List, []}
use Rattle.deal_changes.specs.declared.change.Change.{Change}
use Rattle.deal_changes.specs.declared.change.Change.TheVariants.{Grant}
use Rattle.deal_changes.specs.Times.{time_of_change}
use Rattle.deal_model.specs.declared.asking.Brief.{Brief}
use Rattle.deal_model.specs.Rules.{size_of}
use Rattle.x509_cert.specs.Cert.{tbs_octets}
use Rattle.x509_cert.specs.Plan.{planned, signed_octets}
use Rattle.x509_cert.specs.declared.plan.CertPlan.{CertPlan}
use Rattle.cert_maker.specs.Moments.{validity_octets}
use Rattle.cert_maker.specs.Plans.{root_plan, reply_plan, granted_plan}

-- the signed part of a plan
unfoldable pub plan_octets : CertPlan → List ℕ
plan_octets p = tbs_octets (planned p (validity_octets p.not_before p.not_after))

-- the certificate of a plan, where leaves sign so
abbrev pub plan_certificate : (ℕ → List ℕ → List ℕ) → ℕ → CertPlan → List ℕ
plan_certificate sign leaf p = signed_octets (plan_octets p) (sign leaf (plan_octets p))

-- the authority's own certificate and that of its replies: what is signed, and the whole
abbrev pub root_tbs : Brief → ℕ → List ℕ
root_tbs keys time = plan_octets (root_plan keys time)

abbrev pub root_certificate : (ℕ → List ℕ → List ℕ) → Brief → ℕ → List ℕ
root_certificate sign keys time = plan_certificate sign 0 (root_plan keys time)

abbrev pub reply_tbs : Brief → ℕ → List ℕ
reply_tbs keys time = plan_octets (reply_plan keys time)

abbrev pub reply_certificate : (ℕ → List ℕ → List ℕ) → Brief → ℕ → List ℕ
reply_certificate sign keys time = plan_certificate sign 1 (reply_plan keys time)

-- the certificate of a Grant: what is signed, and the whole
abbrev pub tbs_of : Brief → Change → List ℕ
tbs_of keys (Grant s b w serial leaf) = plan_octets (granted_plan keys s.time w serial)
tbs_of keys _ = []

abbrev pub cert_of : (ℕ → List ℕ → List ℕ) → Brief → Change → List ℕ
cert_of sign keys (Grant s b w serial leaf) = plan_certificate sign leaf (granted_plan keys s.time w serial)
cert_of sign keys _ = []

-- the numbers of the settings are those that a service may be founded with
pub record AreFounding (keys : Brief) : Type 0 where
  pub wait_low : 1 ≤ keys.wait
  pub wait_high : keys.wait ≤ 604800
  pub skew_high : keys.skew ≤ 86400
  pub rounds_low : 1 ≤ keys.rounds
  pub rounds_high : keys.rounds ≤ 200000
  pub check_low : 1 ≤ keys.check_after
  pub check_high : keys.check_after ≤ 86400
  pub days_low : 1 ≤ keys.days
  pub days_high : keys.days ≤ 36500

-- the change grants a certificate
abbrev pub IsGrant : Change → Type 0
IsGrant (Grant s b w serial leaf) = Unit {0}
IsGrant _ = ⊥

-- As each change of a legal history is: no clock says a later time, and it fits a log.
pub record IsKept (c : Change) : Type 0 where
  pub timely : time_of_change c ≤ 250000000000
  pub sized : size_of c ≤ 2 ^ 30

-- the leaf that signs the certificate of a Grant
abbrev pub leaf_of : Change → ℕ
leaf_of (Grant s b w serial leaf) = leaf
leaf_of _ = 0
