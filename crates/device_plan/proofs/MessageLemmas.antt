-- What is written of a plan is a function of it.
use Rattle.std.proofs.Common.{◌≡◌, ℕ, List, Option, Some, None, refl, sym, ap, ◌∙◌}
use Rattle.std.specs.Prelude.{option_map, Result, IfOk}
use Rattle.std.proofs.lemmas.Result.{IfOk-weaker}
use Rattle.der_base.specs.Element.{element}
use Rattle.pbmac.specs.Mac.{mac_of}
use Rattle.pki_header.specs.Plan.{planned_content, IsPlanned}
use Rattle.pki_header.specs.Time.{IsTimeOf}
use Rattle.pki_header.specs.declared.plan.HeaderPlan.{HeaderPlan}
use Rattle.pki_message.specs.Frame.{protected_part}
use Rattle.pki_message.specs.Written.{written_content}
use Rattle.protect.specs.Algorithms.{hss_lms, mac_algorithm, algorithm_octets}
use Rattle.protect.specs.Written.{with_algorithm}
use Rattle.protect.specs.declared.unsigned.Unsigned.{Unsigned}
use Rattle.cert_maker.specs.Moments.{generalized_of}
use Rattle.cert_maker.proofs.MomentLemmas.{generalized_is}
use Rattle.reply_maker.specs.Messages.{header_octets, planned_message, salt_in}
use Rattle.device_table.specs.declared.stage.Deal.{Deal}
use Rattle.device_table.specs.declared.deeds.Speech.{Speech}
use Rattle.device_plan.specs.declared.messages.Draft.{Draft}
use Rattle.device_plan.specs.declared.plan.DeviceGuard.{DeviceGuard}
use Rattle.device_plan.specs.declared.plan.DeviceGuard.TheVariants.{Mac, Signed}
use Rattle.device_plan.specs.declared.plan.DevicePlan.{DevicePlan}
use Rattle.device_plan.specs.Speeches.{body_of, header_of, protected_by, spoken, signed_text_of}
use Rattle.device_plan.specs.Drafts.{IsDraft}

time_is : (text : Option (List ℕ)) (time : Option ℕ) → IsTimeOf text time → text ≡ option_map generalized_of time
time_is None None h = refl
time_is None (Some t) h = absurd h
time_is (Some text) None h = absurd h
time_is (Some text) (Some t) h = ap (λ (l : List ℕ). Some l) (generalized_is t text h)

-- a header has one spelling
header_is : (p : HeaderPlan) (octets : List ℕ) → IsPlanned p octets → octets ≡ header_octets p
header_is p octets h = h.spelled ∙ ap (λ (o : Option (List ℕ)). element 0x30 (planned_content p o)) (time_is h.time p.time h.timed)

-- a plan's header with HSS/LMS as its algorithm
abbrev signed_header : HeaderPlan → List ℕ
signed_header h = header_octets (with_algorithm h (Some (algorithm_octets hss_lms)))

-- what is drafted of the header and the body of what a device says is its draft
pub drafted : (p : DevicePlan) (key proof : List ℕ) (d : Deal) (s : Speech) (now : ℕ) (words : List ℕ) (h : HeaderPlan) (b body : List ℕ) (u : Unsigned)
    → h ≡ header_of p d s now words → b ≡ body → body ≡ body_of p key proof s
    → IsPlanned (with_algorithm h (Some (algorithm_octets hss_lms))) u.header → u.part ≡ protected_part u.header b
    → IsDraft p key proof d s now words (record { unsigned = u; body = body })
unfolding signed_text_of
drafted p key proof d s now words h b body u head same is planned part =
    let header : u.header ≡ signed_header (header_of p d s now words) =
    header_is (with_algorithm h (Some (algorithm_octets hss_lms))) u.header planned ∙ ap signed_header head in
    record {
      header = header;
      body = is;
      text = part ∙ ap (λ (l : List ℕ). protected_part l b) header ∙ ap (λ (l : List ℕ). protected_part (signed_header (header_of p d s now words)) l) (same ∙ is);
    }

abbrev masks : List ℕ → List ℕ → ℕ → List ℕ → Option (List ℕ)
masks secret salt rounds part = Some (mac_of secret (record { salt = salt; rounds = rounds }) part)

-- a message of these parts under the MAC of the plan's secret is what the device says
pub mac_said : {E : Type 0} (r : Result (List ℕ) E) (p : DevicePlan) (reference secret key proof : List ℕ) (sign : List ℕ → List ℕ) (d : Deal) (s : Speech) (now : ℕ) (words : List ℕ) (h : HeaderPlan) (b salt : List ℕ)
    → p.guard ≡ Mac reference secret → h ≡ header_of p d s now words → b ≡ body_of p key proof s → salt ≡ salt_in words
    → IfOk r (λ o. o ≡ planned_message h b (Some (mac_algorithm salt p.rounds)) (masks secret salt p.rounds) None)
    → IfOk r (λ o. o ≡ spoken p key proof sign d s now words)
unfolding spoken
mac_said r p reference secret key proof sign d s now words h b salt guard header body drawn said =
    let head : HeaderPlan = header_of p d s now words in
    let whole : List ℕ = body_of p key proof s in
    IfOk-weaker r _ _ (λ o is. is
    ∙ ap (λ (q : HeaderPlan). planned_message q b (Some (mac_algorithm salt p.rounds)) (masks secret salt p.rounds) None) header
    ∙ ap (λ (l : List ℕ). planned_message head l (Some (mac_algorithm salt p.rounds)) (masks secret salt p.rounds) None) body
    ∙ ap (λ (l : List ℕ). planned_message head whole (Some (mac_algorithm l p.rounds)) (masks secret l p.rounds) None) drawn
    ∙ sym (ap (λ (g : DeviceGuard). protected_by g sign p.rounds words head whole) guard)) said

-- a draft with its signature is what the device says
pub signed_said : {E : Type 0} (r : Result (List ℕ) E) (p : DevicePlan) (cert key proof sig : List ℕ) (sign : List ℕ → List ℕ) (d : Deal) (s : Speech) (now : ℕ) (words : List ℕ) (draft : Draft) (body extra : List ℕ)
    → p.guard ≡ Signed cert → IsDraft p key proof d s now words draft → sign draft.unsigned.part ≡ sig → body ≡ draft.body → extra ≡ cert
    → IfOk r (λ o. o ≡ element 0x30 (written_content draft.unsigned.header body (Some sig) (Some extra)))
    → IfOk r (λ o. o ≡ spoken p key proof sign d s now words)
unfolding spoken signed_text_of planned_message
signed_said r p cert key proof sig sign d s now words draft body extra guard is signs same whole_cert said =
    let head : HeaderPlan = header_of p d s now words in
    let whole : List ℕ = body_of p key proof s in
    let signed : sig ≡ sign (protected_part (signed_header head) whole) = sym signs ∙ ap sign is.text in
    IfOk-weaker r _ _ (λ o e. e
    ∙ ap (λ (l : List ℕ). element 0x30 (written_content draft.unsigned.header body (Some sig) (Some l))) whole_cert
    ∙ ap (λ (l : List ℕ). element 0x30 (written_content l body (Some sig) (Some cert))) is.header
    ∙ ap (λ (l : List ℕ). element 0x30 (written_content (signed_header head) l (Some sig) (Some cert))) (same ∙ is.body)
    ∙ ap (λ (l : List ℕ). element 0x30 (written_content (signed_header head) whole (Some l) (Some cert))) signed
    ∙ sym (ap (λ (g : DeviceGuard). protected_by g sign p.rounds words head whole) guard)) said
