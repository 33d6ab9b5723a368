-- What a look at the history decides of a message: the rows of the table that ask no more than a look tells.
use Rattle.std.specs.Prelude.{◌≡◌, ℕ, Bool, true, false, List, ◌++◌, Option, Some, None, if◌then◌else◌}
use Rattle.deal_changes.specs.declared.change.Kind.{Kind}
use Rattle.deal_model.specs.declared.asking.Ask.{Ask}
use Rattle.deal_model.specs.declared.states.Owner.{Owner}
use Rattle.deal_model.specs.declared.states.Standing.{Standing}
use Rattle.deal_model.specs.declared.states.Standing.TheVariants.{Unknown, OtherKind, Barred, Good}
use Rattle.cmp_values.specs.declared.fail_info.FailInfo.{FailInfo}
use Rattle.cmp_values.specs.declared.fail_info.FailInfo.TheVariants.{BadRequest}
use Rattle.deal_table.specs.declared.look.Look.{Look}
use Rattle.deal_table.specs.Message.{Body, Enrols, Confirms, Polls, Withdraws, Nests, OtherBody, is_nested, Facts, Letter, subject_of}
use Rattle.deal_table.specs.Table.{Secret, To, Decision, Refuses, unless, bare, guarded, trusted_by, tid_of, served_rows, new_rows, old_rows, wish_rows, reason_rows, wrap_rows, repeated, read}

-- What is asked of the history is what the message says: of the one that is about something its digest, its transaction and its
-- credential; of the nested one around it its credential, where it has one of a kind that is served.
pub record IsAskOf (l : Letter) (ask : Ask) : Type 0 where
  pub digest : (subject_of l).digest ≡ ask.digest
  pub tid : tid_of (subject_of l).header ≡ ask.tid
  pub kind : (subject_of l).header.kind ≡ ask.kind
  pub kid : (subject_of l).header.kid ≡ ask.kid
  pub outer : (kind : Kind) → is_nested l.message.body ≡ true → l.message.header.kind ≡ Some kind → ask.outer ≡ Some (kind, l.message.header.kid)

-- what a message is about, as far as the state of its transaction and the authority's name tell
abbrev pub looked_about : Look → List ℕ → To → Owner → Body → Decision → Decision
looked_about look name to o (Enrols e) next = unless to (new_rows look.tid_state ++ wish_rows name o e) next
looked_about look name to o (Confirms c) next = unless to (old_rows look.tid_state) next
looked_about look name to o (Polls p) next = unless to (old_rows look.tid_state) next
looked_about look name to o (Withdraws w) next = unless to (new_rows look.tid_state ++ reason_rows name w) next
looked_about look name to o (Nests count) next = Refuses BadRequest to
looked_about look name to o OtherBody next = Refuses BadRequest to

abbrev pub looked_passed : Look → List ℕ → Facts → Decision → Decision
looked_passed look name m next = repeated look.repeat (unless (bare false) (served_rows m)
    (trusted_by look.cred look.settings.skew look.time false m (λ o. looked_about look name (guarded false m o) o m.body next)))

abbrev pub looked_opened : Look → List ℕ → Letter → Decision → Decision
looked_opened look name l next = if is_nested l.message.body
    then trusted_by look.outer look.settings.skew look.time true l.message (λ o. unless (guarded true l.message o) (wrap_rows l.message o)
    (read (guarded true l.message o) (bare false) l.inner (looked_passed look name l.inner next)))
    else looked_passed look name l.message next

-- the first of these rows that applies, or else what is decided next; this is the authority's name
abbrev pub looked : Look → List ℕ → Letter → Decision → Decision
looked look name l next = read (bare false) (bare (is_nested l.message.body)) l.message (looked_opened look name l next)

-- the look refuses the message, whatever would be decided next
abbrev pub IsRefusedByLook : Look → List ℕ → Letter → FailInfo → To → Type 0
IsRefusedByLook look name l fail to = (next : Decision) → looked look name l next ≡ Refuses fail to

-- the secret of a sender that is good, under this reference
abbrev pub secret_in : List ℕ → Standing → Option Secret
secret_in kid (Good who key rights) = Some (record { kid = kid; key = key })
secret_in kid Unknown = None
secret_in kid OtherKind = None
secret_in kid Barred = None

abbrev pub outer_secret : Option (Kind × List ℕ) → Standing → Option Secret
outer_secret (Some o) standing = secret_in o.1 standing
outer_secret None standing = None

-- whom a refusal answers, guarded by the secret that the look tells or not at all
abbrev pub looked_to : Ask → Look → Bool → Bool → To
looked_to ask look outer is_guarded = record { outer = outer; guard = if is_guarded then (if outer then outer_secret ask.outer look.outer else secret_in ask.kid look.cred) else None }
