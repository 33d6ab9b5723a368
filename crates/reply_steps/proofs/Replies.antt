-- A reply that is sealed and written.
use Rattle.std.proofs.Common.{◌≡◌, ℕ, zero, suc, ◌-◌, ◌<◌, ◌≤◌, Bool, true, false, cond, List, [], ◌∷◌, ◌++◌, length, take, Option, Some, refl, sym, ap, subst, ◌∙◌, arith, inl, inr, ◌⊎◌}
use Rattle.std.specs.Prelude.{slice_get}
use Rattle.std.proofs.lemmas.Option.{same_Some, slice_get_within}
use Rattle.deal_changes.specs.declared.change.Change.{Change}
use Rattle.deal_changes.specs.declared.change.Settings.{Settings}
use Rattle.deal_model.specs.declared.states.Key.{Key}
use Rattle.deal_model.specs.Views.{History, SignsWith, settings_of}
use Rattle.deal_model.specs.Rules.{Legal}
use Rattle.deal_table.specs.History.{Receipted, receipt_at}
use Rattle.reply_maker.specs.Replies.{Replier, replier_of, reply_of}
use Rattle.reply_maker.proofs.InForceLemmas.{made}
use Rattle.world_core.specs.declared.world.Signed.{Signed}
use Rattle.world_core.specs.declared.world.World.{World}
use Rattle.world_core.specs.declared.world.Step.{Step}
use Rattle.world_core.specs.declared.world.Step.TheVariants.{Sign, Send, Crash}
use Rattle.world_core.specs.Steps.{founded, with_place, with_change, Enabled, after, Run}
use Rattle.world_core.specs.Safety.{place_of, Safe}
use Rattle.world_core.proofs.Runs.{run_more}
use Rattle.desk_steps.specs.Steps.{StandsFor, IsStopped}
use Rattle.signed_texts.specs.Texts.{SignedText, texts_of}
use Rattle.signed_texts.specs.Laws.{Stands, EachLeafOneText, IsSignedReply, RepliesAreSigned, HasSigned, AllHaveTexts, authority}
use Rattle.reply_steps.specs.Replies.{AreSignedFor, CarriesText, SealIsSign, WriteIsSend, ReplyStops}
use Rattle.reply_steps.proofs.Leaves.{text_is_by}
use Rattle.reply_steps.proofs.Signing.{IsAmong, place_keeps, has_place}

abbrev no_steps : List Step
no_steps = []

none_taken : (n : ℕ) → no_steps ≡ take n no_steps
none_taken zero = refl
none_taken (suc n) = refl

-- ---- the place of a receipt

record IsPlaced (h : History) (place : ℕ) : Type 0 where
  pub low : 1 ≤ place
  pub high : place ≤ length h

placed : (h : History) (r : Receipted) → receipt_at h r.place ≡ Some r → IsPlaced h r.place
placed h r e =
    let m = made h r.place r e in
    let within : m.0 < length h = slice_get_within h m.0 m.2.change m.2.stands in
    record { low = omega (arith, m.1); high = omega (arith, m.1, within) }

acked_high : (w : World) (h : History) (d : Option Change) (place : ℕ) → StandsFor w h d → place ≤ length h → place ≤ w.acked
acked_high w h d place s high = subst (λ (m : ℕ). place ≤ m) (sym s.acked) high

-- the desk stands for the world behind such a step
stands_behind : (w v : World) (h : History) (d : Option Change) → StandsFor w h d → v.up ≡ w.up → v.durable ≡ w.durable → v.pending ≡ w.pending → v.doubt ≡ w.doubt → v.acked ≡ w.acked → StandsFor v h d
stands_behind w v h d s up durable pending doubt acked = record { up = up ∙ s.up; durable = durable ∙ s.durable; pending = pending ∙ s.pending; doubt = doubt ∙ s.doubt; acked = acked ∙ s.acked }

signed_stands : (w : World) (h : History) (d : Option Change) (n : ℕ) → StandsFor w h d → StandsFor (after w (Sign n)) h d
signed_stands w h d n s = stands_behind w (after w (Sign n)) h d s refl refl refl refl refl

sent_stands : (w : World) (h : History) (d : Option Change) (n : ℕ) → StandsFor w h d → StandsFor (after w (Send n)) h d
sent_stands w h d n s = stands_behind w (after w (Send n)) h d s refl refl refl refl refl

-- ---- sealed

-- the leaf of a text of the place, or of the founding, is signed with
is_among : (signed : List Signed) (h : History) (n : ℕ) (e : SignedText) (c : Change) → slice_get h (e.place - 1) ≡ Some c → SignsWith c e.key e.leaf → (e.place ≡ n) ⊎ (e.place ≡ 1) → IsAmong (with_place (with_place signed h 1) h n) e.key e.leaf
is_among signed h n e c there signs (inl here) = has_place (with_place signed h 1) h n c e.key e.leaf (subst (λ (p : ℕ). slice_get h (p - 1) ≡ Some c) here there) signs
is_among signed h n e c there signs (inr first) = place_keeps (with_place signed h 1) h n e.key e.leaf (has_place signed h 1 c e.key e.leaf (subst (λ (p : ℕ). slice_get h (p - 1) ≡ Some c) first there) signs)

-- and it is signed with for this text, since no leaf has two
abbrev entry_of : Key → ℕ → List ℕ → ℕ → SignedText
entry_of key leaf text place = record { key = key; leaf = leaf; text = text; place = place }

same_text : (k : Replier) (h : History) (e f : SignedText) → EachLeafOneText k h → Stands e (texts_of k h) → Stands f (texts_of k h) → e.key ≡ f.key → e.leaf ≡ f.leaf → e ≡ f
same_text k h e f once s t key leaf =
    let there : s.0 ≡ t.0 = once s.0 t.0 e f s.1 t.1 key leaf in
    same_Some e f (sym s.1 ∙ ap (slice_get (texts_of k h)) there ∙ t.1)

signed_so : (k : Replier) (v : World) (e : SignedText) (x : Signed) (text : List ℕ) → EachLeafOneText k v.durable → Stands e (texts_of k v.durable) → x.key ≡ e.key → x.leaf ≡ e.leaf → HasSigned k v x.key x.leaf text → HasSigned k v e.key e.leaf e.text
signed_so k v e x text once stands key leaf has =
    let same : entry_of x.key x.leaf text (place_of has.0.source) ≡ e = same_text k v.durable (entry_of x.key x.leaf text (place_of has.0.source)) e once has.4 stands key leaf in
    let told : Stands (entry_of e.key e.leaf e.text (place_of has.0.source)) (texts_of k v.durable) =
    subst (λ (t : List ℕ). Stands (entry_of e.key e.leaf t (place_of has.0.source)) (texts_of k v.durable)) (ap (λ (y : SignedText). y.text) same)
    (subst (λ (l : ℕ). Stands (entry_of e.key l text (place_of has.0.source)) (texts_of k v.durable)) leaf
    (subst (λ (y : Key). Stands (entry_of y x.leaf text (place_of has.0.source)) (texts_of k v.durable)) key has.4)) in
    (has.0, has.1, has.2 ∙ key, has.3 ∙ leaf, told)

are_signed : (k : Replier) (w : World) (n : ℕ) → EachLeafOneText k w.durable → AllHaveTexts k (after w (Sign n)) → AreSignedFor k w.durable n (after w (Sign n))
are_signed k w n once texts e stands at =
    let by = text_is_by k w.durable e stands in
    let is : IsAmong (with_place (with_place w.signed w.durable 1) w.durable n) e.key e.leaf = is_among w.signed w.durable n e by.change by.there by.signs at in
    let has = texts is.entry is.stands in
    signed_so k (after w (Sign n)) e is.entry has.0 once stands is.key_is is.leaf_is has.1

carries : (file octets : List ℕ) (s : Settings) (h : History) (r : Receipted) → RepliesAreSigned file h → settings_of h ≡ s → receipt_at h r.place ≡ Some r → octets ≡ reply_of (replier_of file s) r → CarriesText file h r octets
carries file octets s h r replies settings stands spelled = λ t leaf stamped has.
    let own : reply_of (authority file h) r ≡ octets = ap (λ (x : Settings). reply_of (replier_of file x) r) settings ∙ sym spelled in
    subst (IsSignedReply file h r.place) own (replies r.place r t leaf stands stamped has)

-- in the world's own history
abbrev LegalTexts : Type 0
LegalTexts = (k : Replier) (h : History) → Legal h → EachLeafOneText k h

sealed_in : LegalTexts → (k : Replier) (w : World) (h : History) (n : ℕ) → w.durable ≡ h → Legal w.durable → AllHaveTexts k (after w (Sign n)) → AreSignedFor k h n (after w (Sign n))
sealed_in once k w h n same legal texts = subst (λ (x : History). AreSignedFor k x n (after w (Sign n))) same (are_signed k w n (once k w.durable legal) texts)

abbrev RunsAreSafe : Type 0
RunsAreSafe = (steps : List Step) (w : World) → Run founded steps w → Safe w

abbrev RunsHaveTexts : Type 0
RunsHaveTexts = (k : Replier) (steps : List Step) (w : World) → Run founded steps w → AllHaveTexts k w

pub sealed : RunsAreSafe → LegalTexts → RunsHaveTexts → ((file : List ℕ) (h : History) → RepliesAreSigned file h) → SealIsSign
sealed safe once texts replies file octets s h d r settings stands spelled w reached =
    let v : World = after w (Sign r.place) in
    let at = placed h r stands in
    let may : Enabled w (Sign r.place) = (reached.2.up, at.low, acked_high w h d r.place reached.2 at.high) in
    let run = run_more founded reached.0 w (Sign r.place) v reached.1 (inl (may, refl)) in (
      v,
      (v, inl (may, refl), refl),
      signed_stands w h d r.place reached.2,
      refl,
      sealed_in once (authority file h) w h r.place reached.2.durable (safe reached.0 w reached.1).legal (texts (authority file h) (reached.0 ++ Sign r.place ∷ []) v run),
      carries file octets s h r (replies file h) settings stands spelled,
    )

-- ---- written

pub written : WriteIsSend
written h d r stands w s =
    let v : World = after w (Send r.place) in
    let at = placed h r stands in
    (v, (v, inl ((s.up, at.low, acked_high w h d r.place s at.high), refl), refl), sent_stands w h d r.place s, refl, refl)

-- ---- stopped

down : (w : World) (h : History) (d : Option Change) (keep : Bool) → StandsFor w h d → IsStopped (after w (Crash keep)) (cond keep (with_change h d) h)
down w h d true s = record { down = refl; durable = rw (s.pending, s.doubt, s.durable) refl; pending = refl; doubt = refl }
down w h d false s = record { down = refl; durable = s.durable; pending = refl; doubt = refl }

crashes : (w : World) (h : History) (d : Option Change) (keep : Bool) → StandsFor w h d → (v : World) × Run w (Crash keep ∷ []) v × IsStopped v (cond keep (with_change h d) h)
crashes w h d keep s = (after w (Crash keep), (after w (Crash keep), inl (s.up, refl), refl), down w h d keep s)

stopped_at : (h : History) (d : Option Change) (place n : ℕ) (keep : Bool) → IsPlaced h place → (w : World) → StandsFor w h d
    → (v : World) × Run w (take n (Sign place ∷ Send place ∷ []) ++ Crash keep ∷ []) v × IsStopped v (cond keep (with_change h d) h)
stopped_at h d place zero keep at w s = crashes w h d keep s
stopped_at h d place (suc zero) keep at w s =
    let u : World = after w (Sign place) in
    let rest = crashes u h d keep (signed_stands w h d place s) in
    (rest.0, (u, inl ((s.up, at.low, acked_high w h d place s at.high), refl), rest.1), rest.2)
stopped_at h d place (suc (suc n)) keep at w s =
    let u : World = after w (Sign place) in
    let x : World = after u (Send place) in
    let su = signed_stands w h d place s in
    let rest = crashes x h d keep (sent_stands u h d place su) in
    (rest.0, (u, inl ((s.up, at.low, acked_high w h d place s at.high), refl), (x, inl ((su.up, at.low, acked_high u h d place su at.high), refl), subst (λ (l : List Step). Run x (l ++ Crash keep ∷ []) rest.0) (none_taken n) rest.1)), rest.2)

pub stops : ReplyStops
stops h d r n keep stands w s = stopped_at h d r.place n keep (placed h r stands) w s
