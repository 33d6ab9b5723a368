-- What sessions make.
use Rattle.std.proofs.Common.{◌≡◌, ℕ, ◌-◌, ◌<◌, true, false, List, [], ◌∷◌, ◌++◌, take, Option, Some, None, refl, ◌∙◌, ap, sym, subst}
use Rattle.std.specs.Prelude.{is_some, IfSome, flat_map}
use Rattle.std.specs.List.{AllByRecursion}
use Rattle.std.proofs.lemmas.List.Folds.{flat_map-map}
use Rattle.cmp_links.specs.declared.end.SessionEnd.{SessionEnd}
use Rattle.cmp_ports.specs.declared.note.Note.{Note}
use Rattle.cmp_ports.specs.declared.note.Outcome.{Outcome}
use Rattle.cmp_ports.specs.declared.note.Outcome.TheVariants as outcome
use Rattle.deal_changes.specs.declared.change.Change.{Change}
use Rattle.deal_changes.specs.declared.change.Change.TheVariants.{Found, Enlist, Dismiss, Grant, Hold, Release, Deny, Turned, Polled, Settled, Revoke, Lapse}
use Rattle.deal_changes.specs.Times.{stamp_of}
use Rattle.deal_model.specs.Views.{History}
use Rattle.deal_table.specs.Laws.{MakesTheStamped}
use Rattle.deal_table.specs.Message.{Letter}
use Rattle.deal_table.specs.Table.{Decision, Makes, Repeats, Refuses, Asks, decision}
use Rattle.front.specs.Answers.{IsOwn, addressed}
use Rattle.front.specs.Ends.{done_place}
use Rattle.letter_laws.specs.Laws.{HasLetter}
use Rattle.reply_maker.specs.Replies.{Replier, certificate_hash}
use Rattle.rounds.proofs.Lists.{all_append}
use Rattle.sessions.specs.Events.{Event, Lost, AreNoted, IsNotedAs, IsLost, IsMadeAt, before, done_places, lone_place, lost_places}
use Rattle.sessions.specs.Sessions.{IsSession}
use Rattle.cmpca_serve.specs.Parts.{IsNoOrder, is_order_change}

addressed_makes : (l : Letter) (d : Decision) (c : Change) → addressed l d ≡ Makes c → d ≡ Makes c
addressed_makes l (Makes b) c is = is
addressed_makes l (Repeats place) c is = absurd (cc is)
addressed_makes l (Refuses fail to) c is = absurd (cc is)
addressed_makes l (Asks place) c is = absurd (cc is)

stamped_no_order : (c : Change) → is_some (stamp_of c) ≡ true → is_order_change c ≡ false
stamped_no_order (Found s) is = refl
stamped_no_order (Enlist time list) is = refl
stamped_no_order (Dismiss time w) is = refl
stamped_no_order (Grant s b w serial leaf) is = refl
stamped_no_order (Hold s b w) is = refl
stamped_no_order (Release time tid) is = absurd (cc is)
stamped_no_order (Deny time tid) is = absurd (cc is)
stamped_no_order (Turned s) is = refl
stamped_no_order (Polled s) is = refl
stamped_no_order (Settled s accepted) is = refl
stamped_no_order (Revoke s serial reason) is = refl
stamped_no_order (Lapse time tid) is = refl

-- what octets make is no order
own_no_order : MakesTheStamped → (k : Replier) (b : List ℕ) (g : History) (now : ℕ) (w : List ℕ) (c : Change) → HasLetter b → IsOwn k b g now w c → is_order_change c ≡ false
own_no_order law k b g now w c letter own =
    let l = letter (certificate_hash k) in
    stamped_no_order c (law g l.0 now w c (addressed_makes l.0 (decision g l.0 now w) c (own l.0 l.1)))

noted_no_order : MakesTheStamped → (k : Replier) (h : History) (x : Event) (o : Outcome) → HasLetter x.request → IsNotedAs k h (before h x.note) x o → AllByRecursion (IsNoOrder h) (done_place x.note.place o)
noted_no_order law k h x outcome.Done letter noted = ((noted.0, noted.1, own_no_order law k x.request (before h x.note) x.note.time x.note.words noted.0 letter noted.2), tt)
noted_no_order law k h x outcome.Again letter noted = tt
noted_no_order law k h x (outcome.Refused fail) letter noted = tt
noted_no_order law k h x outcome.SystemFailure letter noted = tt

events_no_order : MakesTheStamped → (k : Replier) (h : History) (floor : ℕ) (xs : List Event) → AreNoted k h floor xs → AllByRecursion (IsNoOrder h) (flat_map (λ x. done_place x.note.place x.note.outcome) xs)
events_no_order law k h floor [] noted = tt
events_no_order law k h floor (x ∷ xs) noted =
    all_append (IsNoOrder h) (done_place x.note.place x.note.outcome) (flat_map (λ y. done_place y.note.place y.note.outcome) xs)
    (noted_no_order law k h x x.note.outcome noted.1.letter noted.1.answered)
    (events_no_order law k h x.note.place xs noted.2)

made_no_order : MakesTheStamped → (k : Replier) (h : History) (floor : ℕ) (x : Lost) (made : Option ℕ) → HasLetter x.request → IfSome made (IsMadeAt k h x) → AllByRecursion (IsNoOrder h) (lone_place made)
made_no_order law k h floor x None letter at = tt
made_no_order law k h floor x (Some place) letter at = ((at.change, at.stands, own_no_order law k x.request (take (place - 1) h) x.now at.words at.change letter at.own), tt)

only_made : (k : Replier) (h : History) (floor : ℕ) (x : Lost) (made : Option ℕ) → x.made ≡ made → IsLost k h floor x → IfSome made (IsMadeAt k h x)
only_made k h floor x None is lost = tt
only_made k h floor x (Some place) is lost =
    let P : ℕ → Type 0 = λ p. (floor < p) × IsMadeAt k h x p in
    let there : (floor < place) × IsMadeAt k h x place = subst (λ (o : Option ℕ). IfSome o P) is lost.made in
    there.1

lost_no_order : MakesTheStamped → (k : Replier) (h : History) (floor : ℕ) (lost : Option Lost) → IfSome lost (IsLost k h floor) → AllByRecursion (IsNoOrder h) (lost_places lost)
lost_no_order law k h floor None is = tt
lost_no_order law k h floor (Some x) is = made_no_order law k h floor x x.made is.letter (only_made k h floor x x.made refl is)

pub session_no_order : MakesTheStamped → (k : Replier) (h0 h : History) (left written after : Option (List ℕ)) (faults now : ℕ) (readings : List ℕ) (draws : List (Option (List ℕ))) (end : SessionEnd) (events : List Event) (lost : Option Lost)
    → IsSession k h0 h left written after faults now readings draws end events lost → AllByRecursion (IsNoOrder h) (done_places end.notes ++ lost_places lost)
session_no_order law k h0 h left written after faults now readings draws end events lost s =
    let told : done_places end.notes ≡ flat_map (λ x. done_place x.note.place x.note.outcome) events = ap (λ (l : List Note). done_places l) s.notes ∙ flat_map-map (λ n. done_place n.place n.outcome) (λ x. x.note) events in
    all_append (IsNoOrder h) (done_places end.notes) (lost_places lost)
    (subst (λ (l : List ℕ). AllByRecursion (IsNoOrder h) l) (sym told) (events_no_order law k h _ events s.noted))
    (lost_no_order law k h _ lost s.unanswered)
