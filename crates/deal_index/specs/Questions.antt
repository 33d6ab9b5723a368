-- What is asked of a history, in the words of what it answers.
use Rattle.std.specs.Prelude.{ℕ, Bool, List, [], ◌∷◌, if◌then◌else◌}
use Rattle.std.specs.List.{flat_map}
use Rattle.deal_changes.specs.declared.change.Kind.{Kind}
use Rattle.deal_changes.specs.declared.change.Kind.TheVariants.{Mac, Lms}
use Rattle.deal_changes.specs.declared.change.Who.{Who}
use Rattle.deal_changes.specs.declared.change.Who.TheVariants.{Listed, Cert}
use Rattle.deal_changes.specs.declared.change.Credential.{Credential}
use Rattle.deal_changes.specs.declared.change.Change.{Change}
use Rattle.deal_changes.specs.declared.change.Change.TheVariants.{Found, Enlist, Dismiss, Grant, Hold, Release, Deny, Turned, Polled, Settled, Revoke, Lapse}
use Rattle.deal_model.specs.Views.{is_grant_for, is_hold_for, is_release_for, is_deny_for, is_turned_for, is_settled_for, is_revoke_for, is_lapse_for, is_grant_of, is_revoke_of, has_digest, lists, is_dismiss_of, takes_key, has_owner}
use Rattle.deal_model.specs.Keys.{key_id, key_of, is_lms_key}
use Rattle.deal_index.specs.declared.question.DealDeed.{DealDeed}
use Rattle.deal_index.specs.declared.question.DealDeed.TheVariants as deals
use Rattle.deal_index.specs.declared.question.CertificateDeed.{CertificateDeed}
use Rattle.deal_index.specs.declared.question.CertificateDeed.TheVariants as certificates
use Rattle.deal_index.specs.declared.question.CredentialDeed.{CredentialDeed}
use Rattle.deal_index.specs.declared.question.CredentialDeed.TheVariants.{ListsMac, DismissesMac, ListsLms, DismissesLms, GivesLms, TakesKey}
use Rattle.deal_index.specs.declared.question.Question.{Question}
use Rattle.deal_index.specs.declared.question.Question.TheVariants.{Deal, Certificate, Message, Named}
use Rattle.deal_index.specs.contracts.question.QuestionPartialEq.TheImpl as equality

-- whether two questions are the same
abbrev pub same_question : Question → Question → Bool
same_question = (equality.ghosts).eq

-- whether a change does this with the transaction
abbrev pub does_with_deal : DealDeed → List ℕ → Change → Bool
does_with_deal deals.Grants tid c = is_grant_for tid c
does_with_deal deals.Holds tid c = is_hold_for tid c
does_with_deal deals.Releases tid c = is_release_for tid c
does_with_deal deals.Denies tid c = is_deny_for tid c
does_with_deal deals.Turns tid c = is_turned_for tid c
does_with_deal deals.Settles tid c = is_settled_for tid c
does_with_deal deals.Revokes tid c = is_revoke_for tid c
does_with_deal deals.Lapses tid c = is_lapse_for tid c

-- whether a change does this with the certificate
abbrev pub does_with_certificate : CertificateDeed → ℕ → Change → Bool
does_with_certificate certificates.Grants serial c = is_grant_of serial c
does_with_certificate certificates.Revokes serial c = is_revoke_of serial c

-- whether a change does this with the reference or key identifier
abbrev pub does_with_credential : CredentialDeed → List ℕ → Change → Bool
does_with_credential ListsMac kid c = lists Mac kid c
does_with_credential DismissesMac kid c = is_dismiss_of Mac kid c
does_with_credential ListsLms kid c = lists Lms kid c
does_with_credential DismissesLms kid c = is_dismiss_of Lms kid c
does_with_credential GivesLms kid c = has_owner Lms kid c
does_with_credential TakesKey kid c = takes_key kid c

-- whether a change is one that the question asks for
abbrev pub is_asked_for : Question → Change → Bool
is_asked_for (Deal deed tid) c = does_with_deal deed tid c
is_asked_for (Certificate deed serial) c = does_with_certificate deed serial c
is_asked_for (Message digest) c = has_digest digest c
is_asked_for (Named deed kid) c = does_with_credential deed kid c

-- the questions that ask for a change for a credential that it lists
abbrev pub questions_of_listed : Kind → List ℕ → List Question
questions_of_listed Mac kid = Named ListsMac kid ∷ []
questions_of_listed Lms kid = Named ListsLms kid ∷ Named GivesLms kid ∷ Named TakesKey kid ∷ []

abbrev pub questions_of_entry : Credential → List Question
questions_of_entry c = questions_of_listed c.kind c.kid

-- for the sender whom it dismisses
abbrev pub questions_of_dismissed : Who → List Question
questions_of_dismissed (Listed Mac kid) = Named DismissesMac kid ∷ []
questions_of_dismissed (Listed Lms kid) = Named DismissesLms kid ∷ []
questions_of_dismissed (Cert serial) = []

-- for the key that it grants a certificate for, where it is an HSS/LMS key with the credential that this gives
abbrev pub questions_of_granted : List ℕ → List Question
questions_of_granted spki = Named TakesKey (key_id (key_of spki)) ∷ (if is_lms_key spki then Named GivesLms (key_id (key_of spki)) ∷ [] else [])

-- the questions that ask for a change
abbrev pub questions_of : Change → List Question
questions_of (Found s) = Named TakesKey (key_id s.issue_key) ∷ Named TakesKey (key_id s.reply_key) ∷ []
questions_of (Enlist time list) = flat_map questions_of_entry list
questions_of (Dismiss time w) = questions_of_dismissed w
questions_of (Grant s b w serial leaf) = Deal deals.Grants s.tid ∷ Message s.digest ∷ Certificate certificates.Grants serial ∷ questions_of_granted w.spki
questions_of (Hold s b w) = Deal deals.Holds s.tid ∷ Message s.digest ∷ Named TakesKey (key_id (key_of w.spki)) ∷ []
questions_of (Release time tid) = Deal deals.Releases tid ∷ []
questions_of (Deny time tid) = Deal deals.Denies tid ∷ []
questions_of (Turned s) = Deal deals.Turns s.tid ∷ Message s.digest ∷ []
questions_of (Polled s) = Message s.digest ∷ []
questions_of (Settled s accepted) = Deal deals.Settles s.tid ∷ Message s.digest ∷ []
questions_of (Revoke s serial reason) = Deal deals.Revokes s.tid ∷ Message s.digest ∷ Certificate certificates.Revokes serial ∷ []
questions_of (Lapse time tid) = Deal deals.Lapses tid ∷ []
