-- Where a certificate is won or confirmed, the row of a reply whose protection holds applied.
use Rattle.std.proofs.Common.{◌≡◌, ℕ, ◌+◌, nat_lt, Bool, true, false, not, ◌||◌, cond, List, [], refl, ap, ◌⊎◌, inl, inr}
use Rattle.device_table.specs.declared.event.Word.{Word}
use Rattle.device_table.specs.declared.event.Word.TheVariants.{Errs, Delays, Denies, Issues, Confirms, SaysOther}
use Rattle.device_table.specs.declared.event.Heard.{Heard}
use Rattle.device_table.specs.declared.event.Event.TheVariants.{Begin, Hears, Lost, Wake}
use Rattle.device_table.specs.declared.stage.Deal.{Deal}
use Rattle.device_table.specs.declared.stage.Out.{Out}
use Rattle.device_table.specs.declared.stage.Phase.{Phase}
use Rattle.device_table.specs.declared.stage.Phase.TheVariants.{Asked, Polling, Confirming, Rejecting}
use Rattle.device_table.specs.declared.stage.Stage.TheVariants.{Start, Talks, Waits, Ended}
use Rattle.device_table.specs.declared.deeds.Verdict.TheVariants.{Accepts, Rejects}
use Rattle.device_table.specs.declared.deeds.Speech.{Speech}
use Rattle.device_table.specs.declared.deeds.Speech.TheVariants.{Requests, Polls, Settles}
use Rattle.device_table.specs.declared.deeds.Cause.{Cause}
use Rattle.device_table.specs.declared.deeds.Cause.TheVariants.{Silent, BadReply, BadProtection, Denied, BadCertificate}
use Rattle.device_table.specs.declared.deeds.Deed.{Deed}
use Rattle.device_table.specs.declared.deeds.Deed.TheVariants.{Says, Repeats, Rests, Keeps, Wins, Fails}
use Rattle.device_table.specs.Table.{is_some_of, is_answer, issued_deed, asked_deed, settled_deed, trusted_deed, worded_deed, heard_deed, lost_deed}
use Rattle.device_table.specs.Laws.{IsIssuedBy, IsConfirmedBy, OnlyIssuedIsWon, OnlyIssuedIsConfirmed}

-- a deed that comes of no loss, no reply to another message and no reply that is refused
record IsHeld (w : Deed) : Type 0 where
  fails : (cause : Cause) → Fails cause ≡ w → ⊥
  keeps : Keeps ≡ w → ⊥
  repeats : (o : Out) (p : Phase) → Repeats o p ≡ w → ⊥

win_held : (cert : List ℕ) → IsHeld (Wins cert)
win_held cert = record {
  fails = λ cause e. absurd (let f : Fails cause ≡ Wins cert = e in cc);
  keeps = λ e. absurd (let f : Keeps ≡ Wins cert = e in cc);
  repeats = λ o p e. absurd (let f : Repeats o p ≡ Wins cert = e in cc);
}

says_held : (speech : Speech) (phase : Phase) → IsHeld (Says speech phase)
says_held speech phase = record {
  fails = λ cause e. absurd (let f : Fails cause ≡ Says speech phase = e in cc);
  keeps = λ e. absurd (let f : Keeps ≡ Says speech phase = e in cc);
  repeats = λ o p e. absurd (let f : Repeats o p ≡ Says speech phase = e in cc);
}

-- the protection held
verified : (w : Deed) → IsHeld w → (p : Phase) (m : Heard) → cond m.verifies (trusted_deed p m) (Fails BadProtection) ≡ w → (m.verifies ≡ true) × (trusted_deed p m ≡ w)
verified w held p m e = elim m.verifies as (λ v. cond v (trusted_deed p m) (Fails BadProtection) ≡ w → (v ≡ true) × (trusted_deed p m ≡ w)) [
  | true ↦ λ q. (refl, q)
  | false ↦ λ q. absurd (held.fails BadProtection q)
] e

worded : (w : Deed) → IsHeld w → (p : Phase) (m : Heard) (word : Word) → worded_deed p m word ≡ w → (m.verifies ≡ true) × (trusted_deed p m ≡ w)
worded w held p m (Errs reason) e = absurd (held.fails _ e)
worded w held p m (Delays seconds) e = verified w held p m e
worded w held p m Denies e = verified w held p m e
worded w held p m (Issues cert is_asked_for) e = verified w held p m e
worded w held p m Confirms e = verified w held p m e
worded w held p m SaysOther e = verified w held p m e

-- it answers the message that is out
answered : (w : Deed) → IsHeld w → (p : Phase) (m : Heard) (other : Bool) → cond other Keeps (worded_deed p m m.word) ≡ w → (m.verifies ≡ true) × (trusted_deed p m ≡ w)
answered w held p m true e = absurd (held.keeps e)
answered w held p m false e = worded w held p m m.word e

heard : (w : Deed) → IsHeld w → (d : Deal) (o : Out) (p : Phase) (m : Heard) → heard_deed d o p m ≡ w → (m.verifies ≡ true) × (trusted_deed p m ≡ w)
heard w held d o p m e = elim m.is_message as (λ v. cond (not v) (Fails BadReply) (cond (not (is_some_of m.tid d.tid) || not (is_answer d o p m)) Keeps (worded_deed p m m.word)) ≡ w → (m.verifies ≡ true) × (trusted_deed p m ≡ w)) [
  | true ↦ λ q. answered w held p m _ q
  | false ↦ λ q. absurd (held.fails BadReply q)
] e

lost : (w : Deed) → IsHeld w → (o : Out) (p : Phase) → lost_deed o p ≡ w → ⊥
lost w held o p e = elim (nat_lt (o.lost + 1) 8) as (λ v. cond v (Repeats (record { octets = o.octets; nonce = o.nonce; lost = o.lost + 1 }) p) (Fails Silent) ≡ w → ⊥) [
  | true ↦ λ q. held.repeats _ _ q
  | false ↦ λ q. held.fails Silent q
] e

-- the parts of a deed
abbrev won_in : Deed → List ℕ
won_in (Wins cert) = cert
won_in _ = []

abbrev phase_in : Deed → Phase
phase_in (Says speech phase) = phase
phase_in _ = Asked

abbrev cert_in : Phase → List ℕ
cert_in (Confirming cert) = cert
cert_in _ = []

-- of which replies a certificate is won
issue_won : (c : List ℕ) (asked : Bool) (m : Heard) (cert : List ℕ) → issued_deed c asked m ≡ Wins cert → Issues c asked ≡ Issues cert true
issue_won c true m cert e = elim m.is_implicit as (λ v. cond v (Wins c) (Says (Settles Accepts c m.nonce) (Confirming c)) ≡ Wins cert → Issues c true ≡ Issues cert true) [
  | true ↦ λ q. let f : Wins c ≡ Wins cert = q in ap (λ l. Issues l true) (ap won_in f)
  | false ↦ λ q. absurd (let f : Says (Settles Accepts c m.nonce) (Confirming c) ≡ Wins cert = q in cc)
] e
issue_won c false m cert e = absurd (let f : Says (Settles Rejects c m.nonce) Rejecting ≡ Wins cert = e in cc)

asked_won : (word : Word) (m : Heard) (cert : List ℕ) → asked_deed word m ≡ Wins cert → word ≡ Issues cert true
asked_won (Errs reason) m cert e = absurd (let f : Fails BadReply ≡ Wins cert = e in cc)
asked_won (Delays seconds) m cert e = absurd (let f : Rests seconds m.nonce ≡ Wins cert = e in cc)
asked_won Denies m cert e = absurd (let f : Fails Denied ≡ Wins cert = e in cc)
asked_won (Issues c asked) m cert e = issue_won c asked m cert e
asked_won Confirms m cert e = absurd (let f : Fails BadReply ≡ Wins cert = e in cc)
asked_won SaysOther m cert e = absurd (let f : Fails BadReply ≡ Wins cert = e in cc)

settled_won : (word : Word) (done w : Deed) → IsHeld w → settled_deed done word ≡ w → (word ≡ Confirms) × (done ≡ w)
settled_won Confirms done w held e = (refl, e)
settled_won (Errs reason) done w held e = absurd (held.fails _ e)
settled_won (Delays seconds) done w held e = absurd (held.fails _ e)
settled_won Denies done w held e = absurd (held.fails _ e)
settled_won (Issues c asked) done w held e = absurd (held.fails _ e)
settled_won SaysOther done w held e = absurd (held.fails _ e)

confirmed_won : (o : Out) (c : List ℕ) (m : Heard) (cert : List ℕ) → m.verifies ≡ true → trusted_deed (Confirming c) m ≡ Wins cert → IsConfirmedBy (Talks o (Confirming c)) (Hears m) cert
confirmed_won o c m cert v e =
    let s = settled_won m.word (Wins c) (Wins cert) (win_held cert) e in
    record { out = o; heard = m; talks = ap (λ l. Talks o (Confirming l)) (ap won_in s.1); hears = refl; verifies = v; word = s.0 }

issued : (o : Out) (p : Phase) (m : Heard) (cert : List ℕ) → (p ≡ Asked) ⊎ (p ≡ Polling) → m.verifies ≡ true → m.word ≡ Issues cert true → IsIssuedBy (Talks o p) (Hears m) cert
issued o p m cert asked v word = record { out = o; phase = p; heard = m; talks = refl; asked = asked; hears = refl; verifies = v; word = word }

heard_won : (o : Out) (p : Phase) (m : Heard) (cert : List ℕ) → (m.verifies ≡ true) × (trusted_deed p m ≡ Wins cert) → IsIssuedBy (Talks o p) (Hears m) cert ⊎ IsConfirmedBy (Talks o p) (Hears m) cert
heard_won o Asked m cert (v, e) = inl (issued o Asked m cert (inl refl) v (asked_won m.word m cert e))
heard_won o Polling m cert (v, e) = inl (issued o Polling m cert (inr refl) v (asked_won m.word m cert e))
heard_won o (Confirming c) m cert (v, e) = inr (confirmed_won o c m cert v e)
heard_won o Rejecting m cert (v, e) = absurd (let f : Fails BadCertificate ≡ Wins cert = (settled_won m.word (Fails BadCertificate) (Wins cert) (win_held cert) e).1 in cc)

pub won : OnlyIssuedIsWon
won d Start Begin cert e = absurd (let f : Says Requests Asked ≡ Wins cert = e in cc)
won d Start (Hears m) cert e = absurd ((win_held cert).keeps e)
won d Start Lost cert e = absurd ((win_held cert).keeps e)
won d Start Wake cert e = absurd ((win_held cert).keeps e)
won d (Talks o p) Begin cert e = absurd ((win_held cert).keeps e)
won d (Talks o p) (Hears m) cert e = heard_won o p m cert (heard (Wins cert) (win_held cert) d o p m e)
won d (Talks o p) Lost cert e = absurd (lost (Wins cert) (win_held cert) o p e)
won d (Talks o p) Wake cert e = absurd ((win_held cert).keeps e)
won d (Waits n) Begin cert e = absurd ((win_held cert).keeps e)
won d (Waits n) (Hears m) cert e = absurd ((win_held cert).keeps e)
won d (Waits n) Lost cert e = absurd ((win_held cert).keeps e)
won d (Waits n) Wake cert e = absurd (let f : Says (Polls n) Polling ≡ Wins cert = e in cc)
won d Ended event cert e = absurd ((win_held cert).keeps e)

-- of which replies a certificate is confirmed
no_phase : (speech : Speech) (a : Phase) (other : Speech) (cert : List ℕ) → (a ≡ Confirming cert → ⊥) → Says speech a ≡ Says other (Confirming cert) → ⊥
no_phase speech a other cert differs e = differs (ap phase_in e)

issue_said : (c : List ℕ) (asked : Bool) (m : Heard) (speech : Speech) (cert : List ℕ) → issued_deed c asked m ≡ Says speech (Confirming cert) → Issues c asked ≡ Issues cert true
issue_said c true m speech cert e = elim m.is_implicit as (λ v. cond v (Wins c) (Says (Settles Accepts c m.nonce) (Confirming c)) ≡ Says speech (Confirming cert) → Issues c true ≡ Issues cert true) [
  | true ↦ λ q. absurd (let f : Wins c ≡ Says speech (Confirming cert) = q in cc)
  | false ↦ λ q. let f : Says (Settles Accepts c m.nonce) (Confirming c) ≡ Says speech (Confirming cert) = q in ap (λ l. Issues l true) (ap cert_in (ap phase_in f))
] e
issue_said c false m speech cert e = absurd (no_phase (Settles Rejects c m.nonce) Rejecting speech cert (λ f. absurd (let g : Rejecting ≡ Confirming cert = f in cc)) e)

asked_said : (word : Word) (m : Heard) (speech : Speech) (cert : List ℕ) → asked_deed word m ≡ Says speech (Confirming cert) → word ≡ Issues cert true
asked_said (Errs reason) m speech cert e = absurd (let f : Fails BadReply ≡ Says speech (Confirming cert) = e in cc)
asked_said (Delays seconds) m speech cert e = absurd (let f : Rests seconds m.nonce ≡ Says speech (Confirming cert) = e in cc)
asked_said Denies m speech cert e = absurd (let f : Fails Denied ≡ Says speech (Confirming cert) = e in cc)
asked_said (Issues c asked) m speech cert e = issue_said c asked m speech cert e
asked_said Confirms m speech cert e = absurd (let f : Fails BadReply ≡ Says speech (Confirming cert) = e in cc)
asked_said SaysOther m speech cert e = absurd (let f : Fails BadReply ≡ Says speech (Confirming cert) = e in cc)

heard_said : (o : Out) (p : Phase) (m : Heard) (speech : Speech) (cert : List ℕ) → (m.verifies ≡ true) × (trusted_deed p m ≡ Says speech (Confirming cert)) → IsIssuedBy (Talks o p) (Hears m) cert
heard_said o Asked m speech cert (v, e) = issued o Asked m cert (inl refl) v (asked_said m.word m speech cert e)
heard_said o Polling m speech cert (v, e) = issued o Polling m cert (inr refl) v (asked_said m.word m speech cert e)
heard_said o (Confirming c) m speech cert (v, e) = absurd (let f : Wins c ≡ Says speech (Confirming cert) = (settled_won m.word (Wins c) (Says speech (Confirming cert)) (says_held speech (Confirming cert)) e).1 in cc)
heard_said o Rejecting m speech cert (v, e) = absurd (let f : Fails BadCertificate ≡ Says speech (Confirming cert) = (settled_won m.word (Fails BadCertificate) (Says speech (Confirming cert)) (says_held speech (Confirming cert)) e).1 in cc)

pub confirmed : OnlyIssuedIsConfirmed
confirmed d Start Begin speech cert e = absurd (no_phase Requests Asked speech cert (λ f. absurd (let g : Asked ≡ Confirming cert = f in cc)) e)
confirmed d Start (Hears m) speech cert e = absurd ((says_held speech (Confirming cert)).keeps e)
confirmed d Start Lost speech cert e = absurd ((says_held speech (Confirming cert)).keeps e)
confirmed d Start Wake speech cert e = absurd ((says_held speech (Confirming cert)).keeps e)
confirmed d (Talks o p) Begin speech cert e = absurd ((says_held speech (Confirming cert)).keeps e)
confirmed d (Talks o p) (Hears m) speech cert e = heard_said o p m speech cert (heard (Says speech (Confirming cert)) (says_held speech (Confirming cert)) d o p m e)
confirmed d (Talks o p) Lost speech cert e = absurd (lost (Says speech (Confirming cert)) (says_held speech (Confirming cert)) o p e)
confirmed d (Talks o p) Wake speech cert e = absurd ((says_held speech (Confirming cert)).keeps e)
confirmed d (Waits n) Begin speech cert e = absurd ((says_held speech (Confirming cert)).keeps e)
confirmed d (Waits n) (Hears m) speech cert e = absurd ((says_held speech (Confirming cert)).keeps e)
confirmed d (Waits n) Lost speech cert e = absurd ((says_held speech (Confirming cert)).keeps e)
confirmed d (Waits n) Wake speech cert e = absurd (no_phase (Polls n) Polling speech cert (λ f. absurd (let g : Polling ≡ Confirming cert = f in cc)) e)
confirmed d Ended event speech cert e = absurd ((says_held speech (Confirming cert)).keeps e)
