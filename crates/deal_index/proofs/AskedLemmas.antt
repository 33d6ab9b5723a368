-- A change is asked for by its own questions, and by no others.
use Rattle.std.proofs.Common.{◌≡◌, ℕ, Bool, true, false, cond, List, [], ◌∷◌, refl, ◌∙◌, ap}
use Rattle.std.specs.Prelude.{◌||◌, ◌&&◌, is_some, find, option_map, Some, None}
use Rattle.std.specs.List.{list_any, flat_map}
use Rattle.deal_changes.specs.declared.change.Kind.{Kind}
use Rattle.deal_changes.specs.declared.change.Kind.TheVariants.{Mac, Lms}
use Rattle.deal_changes.specs.declared.change.Who.{Who}
use Rattle.deal_changes.specs.declared.change.Who.TheVariants.{Listed, Cert}
use Rattle.deal_changes.specs.declared.change.Credential.{Credential}
use Rattle.deal_changes.specs.declared.change.Change.{Change}
use Rattle.deal_changes.specs.declared.change.Change.TheVariants.{Found, Enlist, Dismiss, Grant, Hold, Release, Deny, Turned, Polled, Settled, Revoke, Lapse}
use Rattle.deal_model.specs.declared.states.Owner.{Owner}
use Rattle.deal_model.specs.Keys.{key_id, key_of, is_lms_key}
use Rattle.deal_model.specs.Views.{same, same_kind, is_entry, is_listed_as, owner_of_credential, granted_owner}
use Rattle.deal_index.specs.declared.question.DealDeed.TheVariants as deals
use Rattle.deal_index.specs.declared.question.CertificateDeed.TheVariants as certificates
use Rattle.deal_index.specs.declared.question.CredentialDeed.TheVariants.{ListsMac, DismissesMac, ListsLms, DismissesLms, GivesLms, TakesKey}
use Rattle.deal_index.specs.declared.question.Question.{Question}
use Rattle.deal_index.specs.declared.question.Question.TheVariants.{Deal, Certificate, Message, Named}
use Rattle.deal_index.specs.Questions.{same_question, is_asked_for, questions_of, questions_of_entry, questions_of_listed, questions_of_dismissed, questions_of_granted}
use Rattle.deal_index.proofs.NoteLemmas.{any_append}

abbrev pub IsAsked : Question → Change → Type 0
IsAsked q c = list_any (λ own. same_question own q) (questions_of c) ≡ is_asked_for q c

or_false : (b : Bool) → (b || false) ≡ b
or_false true = refl
or_false false = refl

before : (b v : Bool) → v ≡ false → (b || v) ≡ b
before b v e = ap (λ (x : Bool). b || x) e ∙ or_false b

-- ---- the key of a wish, and the credential that its certificate gives

no_key : (q : Question) (spki : List ℕ) → same_question (Named TakesKey (key_id (key_of spki))) q ≡ false → same_question (Named GivesLms (key_id (key_of spki))) q ≡ false → list_any (λ own. same_question own q) (questions_of_granted spki) ≡ false
no_key q spki taken given = ap (λ v. v || list_any (λ own. same_question own q) (cond (is_lms_key spki) (Named GivesLms (key_id (key_of spki)) ∷ []) [])) taken
    ∙ elim (is_lms_key spki) as (λ b. list_any (λ own. same_question own q) (cond b (Named GivesLms (key_id (key_of spki)) ∷ []) []) ≡ false) [
      | true ↦ ap (λ v. v || false) given
      | false ↦ refl
    ]

granted_takes : (kid spki : List ℕ) → list_any (λ own. same_question own (Named TakesKey kid)) (questions_of_granted spki) ≡ same (key_id (key_of spki)) kid
granted_takes kid spki = elim (is_lms_key spki) as (λ b. (same (key_id (key_of spki)) kid || list_any (λ own. same_question own (Named TakesKey kid)) (cond b (Named GivesLms (key_id (key_of spki)) ∷ []) [])) ≡ same (key_id (key_of spki)) kid) [
  | true ↦ or_false _
  | false ↦ or_false _
]

is_some_cond : {X : Type 0} (b : Bool) (x : X) → b ≡ is_some (cond b (Some x) None)
is_some_cond true x = refl
is_some_cond false x = refl

abbrev given_owner : List ℕ → ℕ → Owner
given_owner spki serial = record { who = Cert serial; key = key_of spki; rights = 1 }

granted_gives : (kid spki : List ℕ) (serial : ℕ) → list_any (λ own. same_question own (Named GivesLms kid)) (questions_of_granted spki) ≡ is_some (granted_owner kid spki serial)
granted_gives kid spki serial = elim (is_lms_key spki) as (λ b. list_any (λ own. same_question own (Named GivesLms kid)) (cond b (Named GivesLms (key_id (key_of spki)) ∷ []) []) ≡ is_some (cond (b && same (key_id (key_of spki)) kid) (Some (given_owner spki serial)) None)) [
  | true ↦ or_false _ ∙ is_some_cond (same (key_id (key_of spki)) kid) (given_owner spki serial)
  | false ↦ refl
]

-- ---- the credentials of a list

any_entry : (q : Question) (test : Credential → Bool) → ((e : Credential) → list_any (λ own. same_question own q) (questions_of_entry e) ≡ test e) → (list : List Credential) → list_any (λ own. same_question own q) (flat_map questions_of_entry list) ≡ list_any test list
any_entry q test each [] = refl
any_entry q test each (e ∷ list) = any_append (λ own. same_question own q) (questions_of_entry e) (flat_map questions_of_entry list)
    ∙ ap (λ v. v || list_any (λ own. same_question own q) (flat_map questions_of_entry list)) (each e)
    ∙ ap (λ v. test e || v) (any_entry q test each list)

none : (list : List Credential) → list_any (λ _. false) list ≡ false
none [] = refl
none (e ∷ list) = none list

by_kind : (q : Question) (kind : Kind) (own : List ℕ) → ((kid : List ℕ) → list_any (λ own. same_question own q) (questions_of_listed Mac kid) ≡ false) → ((kid : List ℕ) → list_any (λ own. same_question own q) (questions_of_listed Lms kid) ≡ false) → list_any (λ own. same_question own q) (questions_of_listed kind own) ≡ false
by_kind q Mac own mac lms = mac own
by_kind q Lms own mac lms = lms own

no_entry : (q : Question) → ((kid : List ℕ) → list_any (λ own. same_question own q) (questions_of_listed Mac kid) ≡ false) → ((kid : List ℕ) → list_any (λ own. same_question own q) (questions_of_listed Lms kid) ≡ false) → (list : List Credential) → list_any (λ own. same_question own q) (flat_map questions_of_entry list) ≡ false
no_entry q mac lms list = any_entry q (λ _. false) (λ e. by_kind q e.kind e.kid mac lms) list ∙ none list

listed_mac : (kid : List ℕ) (kind : Kind) (own : List ℕ) → list_any (λ p. same_question p (Named ListsMac kid)) (questions_of_listed kind own) ≡ (same_kind kind Mac && same own kid)
listed_mac kid Mac own = or_false _
listed_mac kid Lms own = refl

listed_lms : (kid : List ℕ) (kind : Kind) (own : List ℕ) → list_any (λ p. same_question p (Named ListsLms kid)) (questions_of_listed kind own) ≡ (same_kind kind Lms && same own kid)
listed_lms kid Mac own = refl
listed_lms kid Lms own = or_false _

given_lms : (kid : List ℕ) (kind : Kind) (own : List ℕ) → list_any (λ p. same_question p (Named GivesLms kid)) (questions_of_listed kind own) ≡ (same_kind kind Lms && same own kid)
given_lms kid Mac own = refl
given_lms kid Lms own = or_false _

taken_lms : (kid : List ℕ) (kind : Kind) (own : List ℕ) → list_any (λ p. same_question p (Named TakesKey kid)) (questions_of_listed kind own) ≡ (same_kind kind Lms && same own kid)
taken_lms kid Mac own = refl
taken_lms kid Lms own = or_false _

is_some_found : (test : Credential → Bool) (list : List Credential) → list_any test list ≡ is_some (option_map owner_of_credential (find test list))
is_some_found test [] = refl
is_some_found test (e ∷ list) = elim (test e) as (λ b. (b || list_any test list) ≡ is_some (option_map owner_of_credential (cond b (Some e) (find test list)))) [
  | true ↦ refl
  | false ↦ is_some_found test list
]

-- ---- one dismissed

no_dismissal : (q : Question) → ((kid : List ℕ) → list_any (λ own. same_question own q) (questions_of_dismissed (Listed Mac kid)) ≡ false) → ((kid : List ℕ) → list_any (λ own. same_question own q) (questions_of_dismissed (Listed Lms kid)) ≡ false) → (w : Who) → list_any (λ own. same_question own q) (questions_of_dismissed w) ≡ false
no_dismissal q mac lms (Listed Mac kid) = mac kid
no_dismissal q mac lms (Listed Lms kid) = lms kid
no_dismissal q mac lms (Cert serial) = refl

granting : (tid : List ℕ) (c : Change) → IsAsked (Deal deals.Grants tid) c
granting tid (Found s) = refl
granting tid (Enlist time list) = no_entry (Deal deals.Grants tid) (λ _. refl) (λ _. refl) list
granting tid (Dismiss time w) = no_dismissal (Deal deals.Grants tid) (λ _. refl) (λ _. refl) w
granting tid (Grant s b w serial leaf) = before _ _ (no_key (Deal deals.Grants tid) w.spki refl refl)
granting tid (Hold s b w) = refl
granting tid (Release time id) = refl
granting tid (Deny time id) = refl
granting tid (Turned s) = refl
granting tid (Polled s) = refl
granting tid (Settled s accepted) = refl
granting tid (Revoke s serial reason) = refl
granting tid (Lapse time id) = refl

holding : (tid : List ℕ) (c : Change) → IsAsked (Deal deals.Holds tid) c
holding tid (Found s) = refl
holding tid (Enlist time list) = no_entry (Deal deals.Holds tid) (λ _. refl) (λ _. refl) list
holding tid (Dismiss time w) = no_dismissal (Deal deals.Holds tid) (λ _. refl) (λ _. refl) w
holding tid (Grant s b w serial leaf) = no_key (Deal deals.Holds tid) w.spki refl refl
holding tid (Hold s b w) = or_false _
holding tid (Release time id) = refl
holding tid (Deny time id) = refl
holding tid (Turned s) = refl
holding tid (Polled s) = refl
holding tid (Settled s accepted) = refl
holding tid (Revoke s serial reason) = refl
holding tid (Lapse time id) = refl

releasing : (tid : List ℕ) (c : Change) → IsAsked (Deal deals.Releases tid) c
releasing tid (Found s) = refl
releasing tid (Enlist time list) = no_entry (Deal deals.Releases tid) (λ _. refl) (λ _. refl) list
releasing tid (Dismiss time w) = no_dismissal (Deal deals.Releases tid) (λ _. refl) (λ _. refl) w
releasing tid (Grant s b w serial leaf) = no_key (Deal deals.Releases tid) w.spki refl refl
releasing tid (Hold s b w) = refl
releasing tid (Release time id) = or_false _
releasing tid (Deny time id) = refl
releasing tid (Turned s) = refl
releasing tid (Polled s) = refl
releasing tid (Settled s accepted) = refl
releasing tid (Revoke s serial reason) = refl
releasing tid (Lapse time id) = refl

denying : (tid : List ℕ) (c : Change) → IsAsked (Deal deals.Denies tid) c
denying tid (Found s) = refl
denying tid (Enlist time list) = no_entry (Deal deals.Denies tid) (λ _. refl) (λ _. refl) list
denying tid (Dismiss time w) = no_dismissal (Deal deals.Denies tid) (λ _. refl) (λ _. refl) w
denying tid (Grant s b w serial leaf) = no_key (Deal deals.Denies tid) w.spki refl refl
denying tid (Hold s b w) = refl
denying tid (Release time id) = refl
denying tid (Deny time id) = or_false _
denying tid (Turned s) = refl
denying tid (Polled s) = refl
denying tid (Settled s accepted) = refl
denying tid (Revoke s serial reason) = refl
denying tid (Lapse time id) = refl

turning : (tid : List ℕ) (c : Change) → IsAsked (Deal deals.Turns tid) c
turning tid (Found s) = refl
turning tid (Enlist time list) = no_entry (Deal deals.Turns tid) (λ _. refl) (λ _. refl) list
turning tid (Dismiss time w) = no_dismissal (Deal deals.Turns tid) (λ _. refl) (λ _. refl) w
turning tid (Grant s b w serial leaf) = no_key (Deal deals.Turns tid) w.spki refl refl
turning tid (Hold s b w) = refl
turning tid (Release time id) = refl
turning tid (Deny time id) = refl
turning tid (Turned s) = or_false _
turning tid (Polled s) = refl
turning tid (Settled s accepted) = refl
turning tid (Revoke s serial reason) = refl
turning tid (Lapse time id) = refl

settling : (tid : List ℕ) (c : Change) → IsAsked (Deal deals.Settles tid) c
settling tid (Found s) = refl
settling tid (Enlist time list) = no_entry (Deal deals.Settles tid) (λ _. refl) (λ _. refl) list
settling tid (Dismiss time w) = no_dismissal (Deal deals.Settles tid) (λ _. refl) (λ _. refl) w
settling tid (Grant s b w serial leaf) = no_key (Deal deals.Settles tid) w.spki refl refl
settling tid (Hold s b w) = refl
settling tid (Release time id) = refl
settling tid (Deny time id) = refl
settling tid (Turned s) = refl
settling tid (Polled s) = refl
settling tid (Settled s accepted) = or_false _
settling tid (Revoke s serial reason) = refl
settling tid (Lapse time id) = refl

revoking : (tid : List ℕ) (c : Change) → IsAsked (Deal deals.Revokes tid) c
revoking tid (Found s) = refl
revoking tid (Enlist time list) = no_entry (Deal deals.Revokes tid) (λ _. refl) (λ _. refl) list
revoking tid (Dismiss time w) = no_dismissal (Deal deals.Revokes tid) (λ _. refl) (λ _. refl) w
revoking tid (Grant s b w serial leaf) = no_key (Deal deals.Revokes tid) w.spki refl refl
revoking tid (Hold s b w) = refl
revoking tid (Release time id) = refl
revoking tid (Deny time id) = refl
revoking tid (Turned s) = refl
revoking tid (Polled s) = refl
revoking tid (Settled s accepted) = refl
revoking tid (Revoke s serial reason) = or_false _
revoking tid (Lapse time id) = refl

lapsing : (tid : List ℕ) (c : Change) → IsAsked (Deal deals.Lapses tid) c
lapsing tid (Found s) = refl
lapsing tid (Enlist time list) = no_entry (Deal deals.Lapses tid) (λ _. refl) (λ _. refl) list
lapsing tid (Dismiss time w) = no_dismissal (Deal deals.Lapses tid) (λ _. refl) (λ _. refl) w
lapsing tid (Grant s b w serial leaf) = no_key (Deal deals.Lapses tid) w.spki refl refl
lapsing tid (Hold s b w) = refl
lapsing tid (Release time id) = refl
lapsing tid (Deny time id) = refl
lapsing tid (Turned s) = refl
lapsing tid (Polled s) = refl
lapsing tid (Settled s accepted) = refl
lapsing tid (Revoke s serial reason) = refl
lapsing tid (Lapse time id) = or_false _

certifying : (own : ℕ) (c : Change) → IsAsked (Certificate certificates.Grants own) c
certifying own (Found s) = refl
certifying own (Enlist time list) = no_entry (Certificate certificates.Grants own) (λ _. refl) (λ _. refl) list
certifying own (Dismiss time w) = no_dismissal (Certificate certificates.Grants own) (λ _. refl) (λ _. refl) w
certifying own (Grant s b w serial leaf) = before _ _ (no_key (Certificate certificates.Grants own) w.spki refl refl)
certifying own (Hold s b w) = refl
certifying own (Release time id) = refl
certifying own (Deny time id) = refl
certifying own (Turned s) = refl
certifying own (Polled s) = refl
certifying own (Settled s accepted) = refl
certifying own (Revoke s serial reason) = refl
certifying own (Lapse time id) = refl

withdrawing : (own : ℕ) (c : Change) → IsAsked (Certificate certificates.Revokes own) c
withdrawing own (Found s) = refl
withdrawing own (Enlist time list) = no_entry (Certificate certificates.Revokes own) (λ _. refl) (λ _. refl) list
withdrawing own (Dismiss time w) = no_dismissal (Certificate certificates.Revokes own) (λ _. refl) (λ _. refl) w
withdrawing own (Grant s b w serial leaf) = no_key (Certificate certificates.Revokes own) w.spki refl refl
withdrawing own (Hold s b w) = refl
withdrawing own (Release time id) = refl
withdrawing own (Deny time id) = refl
withdrawing own (Turned s) = refl
withdrawing own (Polled s) = refl
withdrawing own (Settled s accepted) = refl
withdrawing own (Revoke s serial reason) = or_false _
withdrawing own (Lapse time id) = refl

by_message : (digest : List ℕ) (c : Change) → IsAsked (Message digest) c
by_message digest (Found s) = refl
by_message digest (Enlist time list) = no_entry (Message digest) (λ _. refl) (λ _. refl) list
by_message digest (Dismiss time w) = no_dismissal (Message digest) (λ _. refl) (λ _. refl) w
by_message digest (Grant s b w serial leaf) = before _ _ (no_key (Message digest) w.spki refl refl)
by_message digest (Hold s b w) = or_false _
by_message digest (Release time id) = refl
by_message digest (Deny time id) = refl
by_message digest (Turned s) = or_false _
by_message digest (Polled s) = or_false _
by_message digest (Settled s accepted) = or_false _
by_message digest (Revoke s serial reason) = or_false _
by_message digest (Lapse time id) = refl

listing_mac : (kid : List ℕ) (c : Change) → IsAsked (Named ListsMac kid) c
listing_mac kid (Found s) = refl
listing_mac kid (Enlist time list) = any_entry (Named ListsMac kid) (is_entry Mac kid) (λ e. listed_mac kid e.kind e.kid) list
listing_mac kid (Dismiss time w) = no_dismissal (Named ListsMac kid) (λ _. refl) (λ _. refl) w
listing_mac kid (Grant s b w serial leaf) = no_key (Named ListsMac kid) w.spki refl refl
listing_mac kid (Hold s b w) = refl
listing_mac kid (Release time id) = refl
listing_mac kid (Deny time id) = refl
listing_mac kid (Turned s) = refl
listing_mac kid (Polled s) = refl
listing_mac kid (Settled s accepted) = refl
listing_mac kid (Revoke s serial reason) = refl
listing_mac kid (Lapse time id) = refl

listing_lms : (kid : List ℕ) (c : Change) → IsAsked (Named ListsLms kid) c
listing_lms kid (Found s) = refl
listing_lms kid (Enlist time list) = any_entry (Named ListsLms kid) (is_entry Lms kid) (λ e. listed_lms kid e.kind e.kid) list
listing_lms kid (Dismiss time w) = no_dismissal (Named ListsLms kid) (λ _. refl) (λ _. refl) w
listing_lms kid (Grant s b w serial leaf) = no_key (Named ListsLms kid) w.spki refl refl
listing_lms kid (Hold s b w) = refl
listing_lms kid (Release time id) = refl
listing_lms kid (Deny time id) = refl
listing_lms kid (Turned s) = refl
listing_lms kid (Polled s) = refl
listing_lms kid (Settled s accepted) = refl
listing_lms kid (Revoke s serial reason) = refl
listing_lms kid (Lapse time id) = refl

dismissed_mac : (kid : List ℕ) (w : Who) → list_any (λ own. same_question own (Named DismissesMac kid)) (questions_of_dismissed w) ≡ is_listed_as Mac kid w
dismissed_mac kid (Listed Mac own) = or_false _
dismissed_mac kid (Listed Lms own) = refl
dismissed_mac kid (Cert serial) = refl

dismissing_mac : (kid : List ℕ) (c : Change) → IsAsked (Named DismissesMac kid) c
dismissing_mac kid (Found s) = refl
dismissing_mac kid (Enlist time list) = no_entry (Named DismissesMac kid) (λ _. refl) (λ _. refl) list
dismissing_mac kid (Dismiss time w) = dismissed_mac kid w
dismissing_mac kid (Grant s b w serial leaf) = no_key (Named DismissesMac kid) w.spki refl refl
dismissing_mac kid (Hold s b w) = refl
dismissing_mac kid (Release time id) = refl
dismissing_mac kid (Deny time id) = refl
dismissing_mac kid (Turned s) = refl
dismissing_mac kid (Polled s) = refl
dismissing_mac kid (Settled s accepted) = refl
dismissing_mac kid (Revoke s serial reason) = refl
dismissing_mac kid (Lapse time id) = refl

dismissed_lms : (kid : List ℕ) (w : Who) → list_any (λ own. same_question own (Named DismissesLms kid)) (questions_of_dismissed w) ≡ is_listed_as Lms kid w
dismissed_lms kid (Listed Lms own) = or_false _
dismissed_lms kid (Listed Mac own) = refl
dismissed_lms kid (Cert serial) = refl

dismissing_lms : (kid : List ℕ) (c : Change) → IsAsked (Named DismissesLms kid) c
dismissing_lms kid (Found s) = refl
dismissing_lms kid (Enlist time list) = no_entry (Named DismissesLms kid) (λ _. refl) (λ _. refl) list
dismissing_lms kid (Dismiss time w) = dismissed_lms kid w
dismissing_lms kid (Grant s b w serial leaf) = no_key (Named DismissesLms kid) w.spki refl refl
dismissing_lms kid (Hold s b w) = refl
dismissing_lms kid (Release time id) = refl
dismissing_lms kid (Deny time id) = refl
dismissing_lms kid (Turned s) = refl
dismissing_lms kid (Polled s) = refl
dismissing_lms kid (Settled s accepted) = refl
dismissing_lms kid (Revoke s serial reason) = refl
dismissing_lms kid (Lapse time id) = refl

giving : (kid : List ℕ) (c : Change) → IsAsked (Named GivesLms kid) c
giving kid (Found s) = refl
giving kid (Enlist time list) = any_entry (Named GivesLms kid) (is_entry Lms kid) (λ e. given_lms kid e.kind e.kid) list ∙ is_some_found (is_entry Lms kid) list
giving kid (Dismiss time w) = no_dismissal (Named GivesLms kid) (λ _. refl) (λ _. refl) w
giving kid (Grant s b w serial leaf) = granted_gives kid w.spki serial
giving kid (Hold s b w) = refl
giving kid (Release time id) = refl
giving kid (Deny time id) = refl
giving kid (Turned s) = refl
giving kid (Polled s) = refl
giving kid (Settled s accepted) = refl
giving kid (Revoke s serial reason) = refl
giving kid (Lapse time id) = refl

taking : (kid : List ℕ) (c : Change) → IsAsked (Named TakesKey kid) c
taking kid (Found s) = ap (λ v. same (key_id s.issue_key) kid || v) (or_false _)
taking kid (Enlist time list) = any_entry (Named TakesKey kid) (is_entry Lms kid) (λ e. taken_lms kid e.kind e.kid) list
taking kid (Dismiss time w) = no_dismissal (Named TakesKey kid) (λ _. refl) (λ _. refl) w
taking kid (Grant s b w serial leaf) = granted_takes kid w.spki
taking kid (Hold s b w) = or_false _
taking kid (Release time id) = refl
taking kid (Deny time id) = refl
taking kid (Turned s) = refl
taking kid (Polled s) = refl
taking kid (Settled s accepted) = refl
taking kid (Revoke s serial reason) = refl
taking kid (Lapse time id) = refl

-- the questions of a change are those that ask for it
pub asked : (q : Question) (c : Change) → IsAsked q c
asked (Deal deals.Grants tid) c = granting tid c
asked (Deal deals.Holds tid) c = holding tid c
asked (Deal deals.Releases tid) c = releasing tid c
asked (Deal deals.Denies tid) c = denying tid c
asked (Deal deals.Turns tid) c = turning tid c
asked (Deal deals.Settles tid) c = settling tid c
asked (Deal deals.Revokes tid) c = revoking tid c
asked (Deal deals.Lapses tid) c = lapsing tid c
asked (Certificate certificates.Grants own) c = certifying own c
asked (Certificate certificates.Revokes own) c = withdrawing own c
asked (Message digest) c = by_message digest c
asked (Named ListsMac kid) c = listing_mac kid c
asked (Named DismissesMac kid) c = dismissing_mac kid c
asked (Named ListsLms kid) c = listing_lms kid c
asked (Named DismissesLms kid) c = dismissing_lms kid c
asked (Named GivesLms kid) c = giving kid c
asked (Named TakesKey kid) c = taking kid c
