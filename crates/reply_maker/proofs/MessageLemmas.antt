-- What is written of a plan is a function of it.
use Rattle.std.proofs.Common.{◌≡◌, ℕ, List, Option, Some, None, refl, ap, ◌∙◌}
use Rattle.std.specs.Prelude.{option_map, Result, IfOk}
use Rattle.std.proofs.lemmas.Result.{IfOk-weaker}
use Rattle.cmp_values.specs.declared.fail_info.FailInfo.{FailInfo}
use Rattle.deal_table.specs.Message.{Echoed}
use Rattle.deal_table.specs.Table.{Secret}
use Rattle.pbmac.specs.Mac.{mac_of}
use Rattle.pbmac.specs.declared.params.MacParams.{MacParams}
use Rattle.der_base.specs.Element.{element}
use Rattle.asn_types.specs.Algorithm.{Algorithm}
use Rattle.pki_header.specs.Plan.{planned_content, IsPlanned}
use Rattle.pki_header.specs.Time.{IsTimeOf}
use Rattle.pki_header.specs.declared.plan.HeaderPlan.{HeaderPlan}
use Rattle.protect.specs.Algorithms.{algorithm_octets, mac_algorithm}
use Rattle.protect.specs.Written.{IsProtected, with_algorithm}
use Rattle.cert_maker.specs.Moments.{generalized_of}
use Rattle.cert_maker.proofs.MomentLemmas.{generalized_is}
use Rattle.reply_maker.specs.Messages.{header_octets, message_octets, planned_message, salt_in}
use Rattle.reply_maker.specs.Refusals.{refusal_header, refusal_body, refusal_by}

time_is : (text : Option (List ℕ)) (time : Option ℕ) → IsTimeOf text time → text ≡ option_map generalized_of time
time_is None None h = refl
time_is None (Some t) h = absurd h
time_is (Some text) None h = absurd h
time_is (Some text) (Some t) h = ap (λ (l : List ℕ). Some l) (generalized_is t text h)

header_is : (p : HeaderPlan) (octets : List ℕ) → IsPlanned p octets → octets ≡ header_octets p
header_is p octets h = h.spelled ∙ ap (λ (o : Option (List ℕ)). element 0x30 (planned_content p o)) (time_is h.time p.time h.timed)

pub message_is : (p : HeaderPlan) (body : List ℕ) (alg : Option Algorithm) (protect : List ℕ → Option (List ℕ)) (cert : Option (List ℕ)) (octets : List ℕ)
    → IsProtected p body alg protect cert octets → octets ≡ planned_message p body alg protect cert
unfolding planned_message
message_is p body alg protect cert octets h =
    h.spelled ∙ ap (λ (l : List ℕ). message_octets l body protect cert) (header_is (with_algorithm p (option_map algorithm_octets alg)) h.header h.planned)

abbrev params : List ℕ → ℕ → MacParams
params salt rounds = record { salt = salt; rounds = rounds }

abbrev masks : List ℕ → List ℕ → ℕ → List ℕ → Option (List ℕ)
masks secret salt rounds part = Some (mac_of secret (params salt rounds) part)

-- a message of the refusal's header and body is the refusal
pub unprotected_is : {E : Type 0} (r : Result (List ℕ) E) (name : List ℕ) (rounds : ℕ) (e : Echoed) (fail : FailInfo) (time : ℕ) (words : Option (List ℕ)) (p : HeaderPlan) (body : List ℕ)
    → p ≡ refusal_header name e None time words → body ≡ refusal_body fail
    → IfOk r (λ o. o ≡ planned_message p body None (λ part. None) None) → IfOk r (λ o. o ≡ refusal_by name rounds e fail None time words)
unfolding refusal_by
unprotected_is r name rounds e fail time words p body header same h =
    IfOk-weaker r _ _ (λ o is. is
    ∙ ap (λ (q : HeaderPlan). planned_message q body None (λ part. None) None) header
    ∙ ap (λ (l : List ℕ). planned_message (refusal_header name e None time words) l None (λ part. None) None) same) h

pub guarded_is : {E : Type 0} (r : Result (List ℕ) E) (name : List ℕ) (rounds : ℕ) (e : Echoed) (fail : FailInfo) (g : Secret) (time : ℕ) (words : List ℕ) (p : HeaderPlan) (body salt : List ℕ)
    → p ≡ refusal_header name e (Some g) time (Some words) → body ≡ refusal_body fail → salt ≡ salt_in words
    → IfOk r (λ o. o ≡ planned_message p body (Some (mac_algorithm salt rounds)) (masks g.key salt rounds) None) → IfOk r (λ o. o ≡ refusal_by name rounds e fail (Some g) time (Some words))
unfolding refusal_by
guarded_is r name rounds e fail g time words p body salt header same drawn h =
    IfOk-weaker r _ _ (λ o is. is
    ∙ ap (λ (q : HeaderPlan). planned_message q body (Some (mac_algorithm salt rounds)) (masks g.key salt rounds) None) header
    ∙ ap (λ (l : List ℕ). planned_message (refusal_header name e (Some g) time (Some words)) l (Some (mac_algorithm salt rounds)) (masks g.key salt rounds) None) same
    ∙ ap (λ (l : List ℕ). planned_message (refusal_header name e (Some g) time (Some words)) (refusal_body fail) (Some (mac_algorithm l rounds)) (masks g.key l rounds) None) drawn) h
