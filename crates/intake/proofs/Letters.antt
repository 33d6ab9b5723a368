-- What octets are read as is what their letter says.
use Rattle.std.proofs.Common.{◌≡◌, ℕ, Bool, true, false, List, [], Option, Some, None, is_some, refl, sym, ap, subst, ◌∙◌}
use Rattle.std.specs.Prelude.{unwrap_or}
use Rattle.sha2.specs.Sha256.{sha256}
use Rattle.pki_message.specs.Body as forms
use Rattle.pki_message.specs.Body.{BodyForm}
use Rattle.pki_message.specs.Message.{MessageForm, IsMessage}
use Rattle.deal_changes.specs.declared.change.Kind.{Kind}
use Rattle.deal_model.specs.declared.asking.Ask.{Ask}
use Rattle.deal_model.specs.declared.asking.Echo.{Echo}
use Rattle.deal_table.specs.Carry.{IsReadable}
use Rattle.deal_table.specs.History.{Receipted}
use Rattle.deal_table.specs.Looked.{IsAskOf}
use Rattle.deal_table.specs.Message.{is_nested, Header, Facts, Letter, subject_of, echo_of}
use Rattle.deal_table.specs.Table.{pass, tid_of, header_rows}
use Rattle.intake.specs.Bodies.{body_facts, nested_inside}
use Rattle.intake.specs.Letter.{IsReading, Checks, facts_of, inside_of, IsLetter}
use Rattle.intake.specs.Made.{FirstApplies, heading_of, with_kid, credential_of, IsMadeOf}
use Rattle.intake.specs.Intake.{IsRequest}
use Rattle.intake.specs.declared.request.Request.{Request}

-- octets that are one message are read as no other one
pub reading_is : (bytes : List ℕ) (m : MessageForm) → IsMessage bytes m → ((n : MessageForm) → IsMessage bytes n → Some n ≡ Some m) → (o : Option MessageForm) → IsReading bytes o → o ≡ Some m
reading_is bytes m found only (Some n) is = only n is
reading_is bytes m found only None none = absurd (none m found)

pub facts_header : (hashes : Receipted → List ℕ) (bytes : List ℕ) (o : Option MessageForm) (c : Checks) → (facts_of hashes bytes o c).header ≡ heading_of o
facts_header hashes bytes None c = refl
facts_header hashes bytes (Some m) c = refl

pub facts_digest : (hashes : Receipted → List ℕ) (bytes : List ℕ) (o : Option MessageForm) (c : Checks) → (facts_of hashes bytes o c).digest ≡ sha256 bytes
facts_digest hashes bytes None c = refl
facts_digest hashes bytes (Some m) c = refl

-- a nested message is one among the facts
nests : (hashes : Receipted → List ℕ) (implicit proven : Bool) (b : BodyForm) → is_nested (body_facts hashes implicit proven b) ≡ is_some (nested_inside b)
nests hashes implicit proven (forms.ir list) = refl
nests hashes implicit proven (forms.cr list) = refl
nests hashes implicit proven (forms.kur list) = refl
nests hashes implicit proven (forms.p10cr request) = refl
nests hashes implicit proven (forms.cert_conf list) = refl
nests hashes implicit proven (forms.poll_req list) = refl
nests hashes implicit proven (forms.rr list) = refl
nests hashes implicit proven (forms.nested messages) = refl
nests hashes implicit proven (forms.ip replies) = refl
nests hashes implicit proven (forms.cp replies) = refl
nests hashes implicit proven (forms.kup replies) = refl
nests hashes implicit proven (forms.rp responses) = refl
nests hashes implicit proven forms.pkiconf = refl
nests hashes implicit proven (forms.genm infos) = refl
nests hashes implicit proven (forms.genp infos) = refl
nests hashes implicit proven (forms.error message) = refl
nests hashes implicit proven (forms.poll_rep answers) = refl
nests hashes implicit proven (forms.other tag) = refl

readable : (f : Facts) → f.is_message ≡ true → pass (header_rows f.header) ≡ true → IsReadable f
readable f e passes = record { form = rw e refl; header = passes }

-- octets that are this message alone
module _ (bytes : List ℕ) (m : MessageForm) (unique : (o : Option MessageForm) → IsReading bytes o → o ≡ Some m) where
  pub message_is : (hashes : Receipted → List ℕ) (l : Letter) (w : IsLetter hashes bytes l) → l.message ≡ facts_of hashes bytes (Some m) w.outer_checks
  message_is hashes l w = w.message ∙ ap (λ (o : Option MessageForm). facts_of hashes bytes o w.outer_checks) (unique w.outer w.is_outer)

  pub header_is : (hashes : Receipted → List ℕ) (l : Letter) → IsLetter hashes bytes l → l.message.header ≡ heading_of (Some m)
  header_is hashes l w = ap (λ (f : Facts). f.header) (message_is hashes l w)

  is_one : (hashes : Receipted → List ℕ) (l : Letter) → IsLetter hashes bytes l → l.message.is_message ≡ true
  is_one hashes l w = ap (λ (f : Facts). f.is_message) (message_is hashes l w)

  pub nested_is : (hashes : Receipted → List ℕ) (l : Letter) → IsLetter hashes bytes l → is_nested l.message.body ≡ is_some (nested_inside m.body)
  nested_is hashes l w = ap (λ (f : Facts). is_nested f.body) (message_is hashes l w) ∙ nests hashes _ _ m.body

  pub is_readable : FirstApplies (header_rows (heading_of (Some m))) None → (hashes : Receipted → List ℕ) (l : Letter) → IsLetter hashes bytes l → IsReadable l.message
  is_readable passes hashes l w = readable l.message (is_one hashes l w)
      (subst (λ (head : Header). pass (header_rows head) ≡ true) (sym (header_is hashes l w)) passes)

  -- it nests another one
  pub subject_is_inside : (hashes : Receipted → List ℕ) (l : Letter) (w : IsLetter hashes bytes l) (inside : List ℕ) → nested_inside m.body ≡ Some inside → subject_of l ≡ facts_of hashes inside w.inner w.inner_checks
  subject_is_inside hashes l w inside some =
      let nested : is_nested l.message.body ≡ true = nested_is hashes l w ∙ ap is_some some in
      let there : inside_of w.outer ≡ inside = ap inside_of (unique w.outer w.is_outer) ∙ ap (λ (o : Option (List ℕ)). unwrap_or o []) some in
      let subject : subject_of l ≡ l.inner = rw nested refl in
      subject ∙ w.inside ∙ ap (λ (b : List ℕ). facts_of hashes b w.inner w.inner_checks) there

  pub reads_inside : (hashes : Receipted → List ℕ) (l : Letter) (w : IsLetter hashes bytes l) (inside : List ℕ) → nested_inside m.body ≡ Some inside → IsReading inside w.inner
  reads_inside hashes l w inside some =
      subst (λ (b : List ℕ). IsReading b w.inner) (ap inside_of (unique w.outer w.is_outer) ∙ ap (λ (o : Option (List ℕ)). unwrap_or o []) some) w.is_inner

  outer_is : (head : Header) (kind : Kind) → head.kind ≡ Some kind → credential_of head ≡ Some (kind, head.kid)
  outer_is head kind e = ap (λ (k : Option Kind). with_kid k head.kid) e

  pub nested_asks : (r : Request) (inside : List ℕ) → FirstApplies (header_rows (heading_of (Some m))) None → nested_inside m.body ≡ Some inside
      → ((o : Option MessageForm) → IsReading inside o → IsMadeOf inside (heading_of o) (heading_of (Some m)) (credential_of (heading_of (Some m))) r.ask r.echo r.outer_echo) → r.bytes.now ≡ bytes → IsRequest bytes r
  nested_asks r inside passes some made octets = record {
    octets = octets;
    readable = is_readable passes;
    asks = λ hashes l w.
        let s = subject_is_inside hashes l w inside some in
        let it = made w.inner (reads_inside hashes l w inside some) in
        let head : (subject_of l).header ≡ heading_of w.inner = ap (λ (f : Facts). f.header) s ∙ facts_header hashes inside w.inner w.inner_checks in
        record {
          digest = ap (λ (f : Facts). f.digest) s ∙ facts_digest hashes inside w.inner w.inner_checks ∙ sym it.asked.digest;
          tid = ap tid_of head ∙ sym it.asked.tid;
          kind = ap (λ (x : Header). x.kind) head ∙ sym it.asked.kind;
          kid = ap (λ (x : Header). x.kid) head ∙ sym it.asked.kid;
          outer = λ kind nested k.
              let around = header_is hashes l w in
              it.asked.outer ∙ outer_is (heading_of (Some m)) kind (ap (λ (x : Header). x.kind) (sym around) ∙ k) ∙ ap (λ (x : Header). Some (kind, x.kid)) (sym around);
        };
    inner = λ hashes l w.
        let it = made w.inner (reads_inside hashes l w inside some) in
        it.echo_is ∙ ap echo_of (sym (ap (λ (f : Facts). f.header) (subject_is_inside hashes l w inside some) ∙ facts_header hashes inside w.inner w.inner_checks));
    outer = λ hashes l w.
        let it = made w.inner (reads_inside hashes l w inside some) in
        it.outer_is ∙ ap echo_of (sym (header_is hashes l w));
  }

  pub plain_made : (ask : Ask) (echo outer_echo : Echo) → nested_inside m.body ≡ None → IsMadeOf bytes (heading_of (Some m)) (heading_of (Some m)) None ask echo outer_echo → (hashes : Receipted → List ℕ) (l : Letter) → IsLetter hashes bytes l → IsAskOf l ask
  plain_made ask echo outer_echo none made hashes l w =
      let n : is_nested l.message.body ≡ false = nested_is hashes l w ∙ ap is_some none in
      let head : l.message.header ≡ heading_of (Some m) = header_is hashes l w in
      let subject : subject_of l ≡ l.message = rw n refl in
      record {
        digest = ap (λ (f : Facts). f.digest) subject ∙ ap (λ (f : Facts). f.digest) (message_is hashes l w) ∙ sym made.asked.digest;
        tid = ap (λ (f : Facts). tid_of f.header) subject ∙ ap tid_of head ∙ sym made.asked.tid;
        kind = ap (λ (f : Facts). f.header.kind) subject ∙ ap (λ (x : Header). x.kind) head ∙ sym made.asked.kind;
        kid = ap (λ (f : Facts). f.header.kid) subject ∙ ap (λ (x : Header). x.kid) head ∙ sym made.asked.kid;
        outer = λ kind nested k. absurd (let h : false ≡ true = sym n ∙ nested in cc);
      }

  pub plain_asks : (r : Request) → FirstApplies (header_rows (heading_of (Some m))) None → nested_inside m.body ≡ None → IsMadeOf bytes (heading_of (Some m)) (heading_of (Some m)) None r.ask r.echo r.outer_echo → r.bytes.now ≡ bytes → IsRequest bytes r
  plain_asks r passes none made octets = record {
    octets = octets;
    readable = is_readable passes;
    asks = plain_made r.ask r.echo r.outer_echo none made;
    inner = λ hashes l w.
        let n : is_nested l.message.body ≡ false = nested_is hashes l w ∙ ap is_some none in
        let subject : subject_of l ≡ l.message = rw n refl in
        made.echo_is ∙ ap echo_of (sym (ap (λ (f : Facts). f.header) subject ∙ header_is hashes l w));
    outer = λ hashes l w. made.outer_is ∙ ap echo_of (sym (header_is hashes l w));
  }
