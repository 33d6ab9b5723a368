-- Which steps of the world a reply is. The desk has the history h, with the change d in doubt, and the receipt r of the change at a
-- place of it.
use Rattle.std.specs.Prelude.{◌≡◌, ◌⊎◌, ℕ, Bool, List, [], ◌∷◌, ◌++◌, take, Option, Some, if◌then◌else◌}
use Rattle.deal_changes.specs.declared.change.Change.{Change}
use Rattle.deal_changes.specs.declared.change.Settings.{Settings}
use Rattle.deal_changes.specs.declared.change.Stamp.{Stamp}
use Rattle.deal_changes.specs.Times.{stamp_of}
use Rattle.deal_model.specs.Views.{History, settings_of}
use Rattle.deal_table.specs.History.{Receipted, receipt_at}
use Rattle.reply_maker.specs.Replies.{Replier, replier_of, reply_of}
use Rattle.world_core.specs.declared.world.World.{World}
use Rattle.world_core.specs.declared.world.Step.{Step}
use Rattle.world_core.specs.declared.world.Step.TheVariants.{Sign, Send, Crash}
use Rattle.world_core.specs.Steps.{founded, with_change, Run}
use Rattle.desk_steps.specs.Steps.{StandsFor, IsStopped}
use Rattle.signed_texts.specs.Texts.{SignedText, texts_of}
use Rattle.signed_texts.specs.Laws.{Stands, IsSignedReply, HasSigned, authority}

-- some steps lead to the world, and the desk stands for it
abbrev pub IsReached : World → History → Option Change → Type 0
IsReached w h d = (steps : List Step) × Run founded steps w × StandsFor w h d

-- Each text of the place, and of the founding change, is signed by its leaf.
abbrev pub AreSignedFor : Replier → History → ℕ → World → Type 0
AreSignedFor k h place w = (e : SignedText) → Stands e (texts_of k h) → (e.place ≡ place) ⊎ (e.place ≡ 1) → HasSigned k w e.key e.leaf e.text

-- where a leaf signs the reply, the octets carry a text of the place and its signature
abbrev pub CarriesText : List ℕ → History → Receipted → List ℕ → Type 0
CarriesText file h r octets = (s : Stamp) (leaf : ℕ) → stamp_of r.change ≡ Some s → s.leaf ≡ Some leaf → IsSignedReply file h r.place octets

-- A reply that is sealed, by a key file and the settings of the history, is the step that signs for its place. The texts that it
-- carries, and its certificates, are signed behind it.
abbrev pub SealIsSign : Type 0
SealIsSign = (file octets : List ℕ) (s : Settings) (h : History) (d : Option Change) (r : Receipted) → settings_of h ≡ s → receipt_at h r.place ≡ Some r → octets ≡ reply_of (replier_of file s) r
    → (w : World) → IsReached w h d
    → (v : World) × Run w (Sign r.place ∷ []) v × StandsFor v h d × (v.sent ≡ w.sent) × AreSignedFor (authority file h) h r.place v × CarriesText file h r octets

-- A reply that is written is the step that sends it.
abbrev pub WriteIsSend : Type 0
WriteIsSend = (h : History) (d : Option Change) (r : Receipted) → receipt_at h r.place ≡ Some r → (w : World) → StandsFor w h d
    → (v : World) × Run w (Send r.place ∷ []) v × StandsFor v h d × (v.signed ≡ w.signed) × (v.sent ≡ w.sent ++ r.place ∷ [])

-- A stop while a reply is sealed and written: some of the two steps are done; what was in doubt is kept or lost.
abbrev pub ReplyStops : Type 0
ReplyStops = (h : History) (d : Option Change) (r : Receipted) (n : ℕ) (keep : Bool) → receipt_at h r.place ≡ Some r → (w : World) → StandsFor w h d
    → (v : World) × Run w (take n (Sign r.place ∷ Send r.place ∷ []) ++ Crash keep ∷ []) v × IsStopped v (if keep then with_change h d else h)
