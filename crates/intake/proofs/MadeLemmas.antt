-- What was made of the one message that octets are was made of each.
use Rattle.std.proofs.Common.{◌≡◌, ℕ, true, List, Option, Some, None, sym, ap, subst, ◌∙◌}
use Rattle.asn_fields.proofs.FieldLemmas.{none_some, some_same}
use Rattle.pki_message.specs.Message.{MessageForm, IsMessage}
use Rattle.deal_model.specs.declared.asking.Ask.{Ask}
use Rattle.deal_model.specs.declared.asking.Echo.{Echo}
use Rattle.deal_changes.specs.declared.change.Kind.{Kind}
use Rattle.deal_table.specs.Message.{Header, echo_of, echoed}
use Rattle.deal_table.specs.Table.{pass, header_rows}
use Rattle.intake.specs.Bodies.{nested_inside}
use Rattle.intake.specs.Letter.{IsReading}
use Rattle.intake.specs.Made.{heading_of, credential_of, IsAskFor, IsMadeOf, IsMade}

module _ (bytes : List ℕ) (m : MessageForm) (ask : Ask) (echo outer_echo : Echo) (one : (o : Option MessageForm) → IsReading bytes o → o ≡ Some m) (found : IsMessage bytes m) (passes : pass (header_rows (heading_of (Some m))) ≡ true) where
  same_inside : (n : MessageForm) → IsMessage bytes n → nested_inside n.body ≡ nested_inside m.body
  same_inside n is = ap (λ (f : MessageForm). nested_inside f.body) (some_same n m (one (Some n) is))

  same_header : (n : MessageForm) → IsMessage bytes n → pass (header_rows (heading_of (Some n))) ≡ true
  same_header n is = subst (λ (f : MessageForm). pass (header_rows (heading_of (Some f))) ≡ true) (sym (some_same n m (one (Some n) is))) passes

  pub made_plain : nested_inside m.body ≡ None → IsMadeOf bytes (heading_of (Some m)) (heading_of (Some m)) None ask echo outer_echo → IsMade bytes ask echo outer_echo
  made_plain none made = record {
    some = λ none. none m found;
    header = same_header;
    plain = λ n is alone. subst (λ (f : MessageForm). IsMadeOf bytes (heading_of (Some f)) (heading_of (Some f)) None ask echo outer_echo) (sym (some_same n m (one (Some n) is))) made;
    nested = λ n inside o is some reads. absurd (none_some inside (sym none ∙ sym (same_inside n is) ∙ some));
  }

  pub made_nested : (inside : List ℕ) → nested_inside m.body ≡ Some inside
      → ((o : Option MessageForm) → IsReading inside o → IsMadeOf inside (heading_of o) (heading_of (Some m)) (credential_of (heading_of (Some m))) ask echo outer_echo) → IsMade bytes ask echo outer_echo
  made_nested inside there made = record {
    some = λ none. none m found;
    header = same_header;
    plain = λ n is alone. absurd (none_some inside (sym alone ∙ same_inside n is ∙ there));
    nested = λ n other o is some reads.
        let k : inside ≡ other = some_same inside other (sym there ∙ sym (same_inside n is) ∙ some) in
        subst (λ (x : List ℕ). (p : Option MessageForm) → IsReading x p → IsMadeOf x (heading_of p) (heading_of (Some n)) (credential_of (heading_of (Some n))) ask echo outer_echo) k
        (subst (λ (f : MessageForm). (p : Option MessageForm) → IsReading inside p → IsMadeOf inside (heading_of p) (heading_of (Some f)) (credential_of (heading_of (Some f))) ask echo outer_echo) (sym (some_same n m (one (Some n) is))) made) o reads;
  }

-- what was made of what was read inside was made of each reading
pub made_at : (inside : List ℕ) (read : Option MessageForm) (around : Header) (outer : Option (Kind × List ℕ)) (ask : Ask) (echo outer_echo : Echo) → ((o : Option MessageForm) → IsReading inside o → o ≡ read) → IsAskFor inside (heading_of read) outer ask
    → echoed echo ≡ echo_of (heading_of read) → echoed outer_echo ≡ echo_of around → (o : Option MessageForm) → IsReading inside o → IsMadeOf inside (heading_of o) around outer ask echo outer_echo
made_at inside read around outer ask echo outer_echo one asked same outer_same o reads =
    subst (λ (p : Option MessageForm). IsMadeOf inside (heading_of p) around outer ask echo outer_echo) (sym (one o reads)) (record { asked = asked; echo_is = same; outer_is = outer_same })
