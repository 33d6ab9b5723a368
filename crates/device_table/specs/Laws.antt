-- What the table means for a whole run.
use Rattle.std.specs.Prelude.{◌≡◌, ◌⊎◌, ℕ, true, false, List, Some}
use Rattle.device_table.specs.declared.event.Word.TheVariants.{Issues, Confirms}
use Rattle.device_table.specs.declared.event.Heard.{Heard}
use Rattle.device_table.specs.declared.event.Event.{Event}
use Rattle.device_table.specs.declared.event.Event.TheVariants.{Hears}
use Rattle.device_table.specs.declared.stage.Deal.{Deal}
use Rattle.device_table.specs.declared.stage.Out.{Out}
use Rattle.device_table.specs.declared.stage.Phase.{Phase}
use Rattle.device_table.specs.declared.stage.Phase.TheVariants.{Asked, Polling, Confirming}
use Rattle.device_table.specs.declared.stage.Stage.{Stage}
use Rattle.device_table.specs.declared.stage.Stage.TheVariants.{Talks}
use Rattle.device_table.specs.declared.deeds.Verdict.TheVariants.{Accepts}
use Rattle.device_table.specs.declared.deeds.Speech.{Speech}
use Rattle.device_table.specs.declared.deeds.Speech.TheVariants.{Settles}
use Rattle.device_table.specs.declared.deeds.Deed.TheVariants.{Says, Wins}
use Rattle.device_table.specs.Table.{deed}

-- The reply is a message that answers the one that is out, in its transaction, and its protection holds.
pub record IsFor (d : Deal) (o : Out) (m : Heard) : Type 0 where
  pub is_message : m.is_message ≡ true
  pub tid : m.tid ≡ Some d.tid
  pub answers : m.answers ≡ Some o.nonce
  pub verifies : m.verifies ≡ true

-- the request is granted: the certificate is confirmed
abbrev pub Granted : Type 0
Granted = (d : Deal) (o : Out) (m : Heard) (cert : List ℕ) → IsFor d o m → m.word ≡ Issues cert true → m.is_implicit ≡ false
    → deed d (Talks o Asked) (Hears m) ≡ Says (Settles Accepts cert m.nonce) (Confirming cert)

-- the same where confirmation is implicit: the certificate is held at once
abbrev pub GrantedImplicitly : Type 0
GrantedImplicitly = (d : Deal) (o : Out) (m : Heard) (cert : List ℕ) → IsFor d o m → m.word ≡ Issues cert true → m.is_implicit ≡ true
    → deed d (Talks o Asked) (Hears m) ≡ Wins cert

-- the confirmation is accepted: the certificate is held
abbrev pub Enrolled : Type 0
Enrolled = (d : Deal) (o : Out) (m : Heard) (cert : List ℕ) → IsFor d o m → m.word ≡ Confirms
    → deed d (Talks o (Confirming cert)) (Hears m) ≡ Wins cert

-- A certificate that was asked for came in a reply whose protection holds, to the request or a pollReq.
pub record IsIssuedBy (stage : Stage) (event : Event) (cert : List ℕ) : Type 0 where
  pub out : Out
  pub phase : Phase
  pub heard : Heard
  pub talks : stage ≡ Talks out phase
  pub asked : (phase ≡ Asked) ⊎ (phase ≡ Polling)
  pub hears : event ≡ Hears heard
  pub verifies : heard.verifies ≡ true
  pub word : heard.word ≡ Issues cert true

-- A reply whose protection holds accepts the confirmation of a certificate.
pub record IsConfirmedBy (stage : Stage) (event : Event) (cert : List ℕ) : Type 0 where
  pub out : Out
  pub heard : Heard
  pub talks : stage ≡ Talks out (Confirming cert)
  pub hears : event ≡ Hears heard
  pub verifies : heard.verifies ≡ true
  pub word : heard.word ≡ Confirms

-- A device ends with no other certificate than one that was asked for and comes protected, or one that it confirmed; and it confirms
-- no other than one that was asked for and comes protected.
abbrev pub OnlyIssuedIsWon : Type 0
OnlyIssuedIsWon = (d : Deal) (stage : Stage) (event : Event) (cert : List ℕ) → deed d stage event ≡ Wins cert
    → IsIssuedBy stage event cert ⊎ IsConfirmedBy stage event cert

abbrev pub OnlyIssuedIsConfirmed : Type 0
OnlyIssuedIsConfirmed = (d : Deal) (stage : Stage) (event : Event) (speech : Speech) (cert : List ℕ) → deed d stage event ≡ Says speech (Confirming cert)
    → IsIssuedBy stage event cert
