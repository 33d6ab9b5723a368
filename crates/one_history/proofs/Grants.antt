-- A Grant or a Hold comes of a message that has earned it.
use Rattle.std.proofs.Common.{◌≡◌, ℕ, List, Some, None, refl, sym, ap, subst, ◌∙◌}
use Rattle.std.proofs.lemmas.Option.{none-some, same_Some}
use Rattle.cmp_ports.specs.declared.order.Order.{Order}
use Rattle.cmp_ports.specs.declared.order.Order.TheVariants as orders
use Rattle.deal_changes.specs.declared.change.Change.{Change}
use Rattle.deal_changes.specs.declared.change.Change.TheVariants.{Release, Deny}
use Rattle.deal_model.specs.Views.{History}
use Rattle.deal_table.specs.History.{Deal, deal_in, event_time}
use Rattle.deal_table.specs.Message.{Letter}
use Rattle.deal_table.specs.Table.{Decision, Makes, Repeats, Refuses, Asks}
use Rattle.desk.specs.Calls.{IsOrder}
use Rattle.intake.specs.Letter.{IsLetter}
use Rattle.reply_maker.specs.Replies.{certificate_hash}
use Rattle.front.specs.Answers.{addressed, IsOwn}
use Rattle.letter_laws.specs.Laws.{HasLetter}
use Rattle.signed_texts.specs.Laws.{Stands, authority}
use Rattle.grant_laws.specs.Grants.{IsEarned, GrantsOnlyOnProof}
use Rattle.one_history.specs.Visits.{Visit}
use Rattle.one_history.specs.Worlds.{IsMadeBy}
use Rattle.one_history.specs.Causes.{Cause, Founding, Listing, Dismissal, Commanded, Deadline, Message, IsCausedBy, Asked}
use Rattle.one_history.specs.Headline.{MayCause, IsEarnedBy}

-- what is addressed as a change is one
addressed_makes : (l : Letter) (d : Decision) (c : Change) → addressed l d ≡ Makes c → d ≡ Makes c
addressed_makes l (Makes x) c e = e
addressed_makes l (Repeats place) c e = absurd (let f : Repeats place ≡ Makes c = e in cc)
addressed_makes l (Refuses fail to) c e = absurd (let f : Refuses fail _ ≡ Makes c = e in cc)
addressed_makes l (Asks place) c e = absurd (let f : Asks place ≡ Makes c = e in cc)

-- The cause is a message that has earned this.
pub record IsGiven (x : Cause) (now : ℕ) (h : History) (d : Deal) : Type 0 where
  pub key : List ℕ
  pub octets : List ℕ
  pub words : List ℕ
  pub given : x ≡ Message key octets words
  pub letter : Letter
  pub is : IsLetter (certificate_hash (authority key h)) octets letter
  pub earned : IsEarned h (event_time h now) letter d

-- other changes are no Grant and no Hold
other : (P : Type 0) (x c : Change) (d : Deal) → c ≡ x → deal_in x ≡ None → deal_in c ≡ Some d → P
other P x c d is none deal = absurd (none-some d (sym none ∙ (ap deal_in (sym is) ∙ deal)))

ordered : (P : Type 0) (order : Order) (time : ℕ) (c : Change) (d : Deal) → IsOrder order time c → deal_in c ≡ Some d → P
ordered P (orders.Release tid) time c d is deal = other P (Release time tid) c d (sym (same_Some (Release time tid) c is)) refl deal
ordered P (orders.Deny tid) time c d is deal = other P (Deny time tid) c d (sym (same_Some (Deny time tid) c is)) refl deal
ordered P orders.Bad time c d is deal = absurd (none-some c is)

by_message : GrantsOnlyOnProof → (key octets words : List ℕ) (now : ℕ) (h : History) (c : Change) (d : Deal) → HasLetter octets → IsOwn (authority key h) octets h now words c → deal_in c ≡ Some d → IsGiven (Message key octets words) now h d
by_message proof key octets words now h c d has own deal =
    let letter = has (certificate_hash (authority key h)) in
    record {
      key = key;
      octets = octets;
      words = words;
      given = refl;
      letter = letter.0;
      is = letter.1;
      earned = proof h letter.0 now words c d (addressed_makes letter.0 _ c (own letter.0 letter.1)) deal;
    }

given : GrantsOnlyOnProof → (x : Cause) (now : ℕ) (h : History) (c : Change) (d : Deal) → IsCausedBy x now h c → deal_in c ≡ Some d → IsGiven x now h d
given proof (Founding key file) now h c d caused deal = other _ _ c d caused.2.2 refl deal
given proof (Listing file) now h c d caused deal = other _ _ c d caused.2 refl deal
given proof (Dismissal kind kid) now h c d caused deal = other _ _ c d caused refl deal
given proof (Commanded order) now h c d caused deal = ordered _ order (event_time h now) c d caused deal
given proof Deadline now h c d caused deal = other _ _ c d caused.2 refl deal
given proof (Message key octets words) now h c d caused deal = by_message proof key octets words now h c d caused.0 caused.2 deal

pub earned_by : {D : Type 0} → GrantsOnlyOnProof → (vs : List (Visit D Asked)) (h : History) (c : Change) (d : Deal) → IsMadeBy MayCause vs h c → deal_in c ≡ Some d → IsEarnedBy vs h d
earned_by proof vs h c d made deal =
    let caused = made.3 in
    let is = given proof caused.0.0 caused.0.1 h c d caused.2 deal in
    record {
      run = made.1;
      among = (made.0, made.2);
      key = is.key;
      octets = is.octets;
      words = is.words;
      now = caused.0.1;
      given = subst (λ (x : Cause). Stands (x, caused.0.1) made.1.asked.causes) is.given caused.1;
      letter = is.letter;
      is = is.is;
      earned = is.earned;
    }
