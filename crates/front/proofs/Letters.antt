-- Octets are some letter, so that what each letter settles by computing is so.
use Rattle.std.proofs.Common.{◌≡◌, ℕ, ◌≤◌, Bool, true, false, cond, List, [], length, Option, Some, None, refl, sym, ap, subst, inl, inr, arith}
use Rattle.std.specs.Prelude.{IsTrue, ◌↔◌}
use Rattle.deal_changes.specs.declared.change.Kind.{Kind}
use Rattle.deal_model.specs.declared.asking.Echo.{Echo}
use Rattle.pki_message.specs.Message.{MessageForm}
use Rattle.deal_table.specs.History.{Receipted}
use Rattle.deal_table.specs.Message.{Facts, Letter, is_nested, subject_of, echo_of, echoed, Echoed}
use Rattle.intake.specs.Headers.{kind_of}
use Rattle.intake.specs.Holds.{key_by, VerifiesAs, Verifies}
use Rattle.intake.specs.Intake.{IsStopped, IsRequest}
use Rattle.intake.specs.Letter.{IsReading, Checks, AreChecks, facts_of, inside_of, IsLetter}
use Rattle.intake.proofs.Limits.{head_within}
use Rattle.intake.specs.declared.request.Request.{Request}
use Rattle.cmp_values.specs.declared.fail_info.FailInfo.{FailInfo}
use Rattle.front.specs.Courses.{AreShort}
use Rattle.front.proofs.Decided.{Known, none_known, protection_known, le_known}

-- ---- some letter

verifies_as : (kind : Option Kind) (m : MessageForm) (key : List ℕ) → Known (VerifiesAs kind m key)
verifies_as None m key = none_known
verifies_as (Some kind) m key = protection_known (key_by kind key) m

verifies_known : (m : MessageForm) (key : List ℕ) → Known (Verifies m key)
verifies_known m key = verifies_as (kind_of m.head.alg) m key

abbrev is_so : {P : Type 0} → Known P → Bool
is_so (inl p) = true
is_so (inr f) = false

so : {P : Type 0} (k : Known P) → IsTrue (is_so k) ↔ P
so (inl p) = (λ e. p, λ q. refl)
so (inr f) = (λ e. absurd (let d : false ≡ true = e in cc), λ q. absurd (f q))

checks_with : (m : MessageForm) → Bool → Checks
checks_with m proven = record { verifies = λ key. is_so (verifies_known m key); is_proven = proven }

some_checks : (o : Option MessageForm) → ((c : Checks) → AreChecks o c → ⊥) → ⊥
unfolding checks_with
some_checks None never = never (record { verifies = λ key. false; is_proven = false }) tt
some_checks (Some m) never = never (checks_with m false) (record {
  verified = λ key. so (verifies_known m key);
  proven = (λ e. absurd (let d : false ≡ true = e in cc), λ p. absurd (never (checks_with m true) (record { verified = λ key. so (verifies_known m key); proven = (λ e. p, λ q. refl) })));
})

some_reading : (bytes : List ℕ) → ((o : Option MessageForm) → IsReading bytes o → ⊥) → ⊥
some_reading bytes never = never None (λ m is. never (Some m) is)

pub some_letter : (hashes : Receipted → List ℕ) (bytes : List ℕ) → ((l : Letter) → IsLetter hashes bytes l → ⊥) → ⊥
some_letter hashes bytes never =
    some_reading bytes (λ o is. some_reading (inside_of o) (λ i inside. some_checks o (λ c checked. some_checks i (λ d inner.
    never (record { message = facts_of hashes bytes o c; inner = facts_of hashes (inside_of o) i d })
    (record { outer = o; inner = i; outer_checks = c; inner_checks = d; is_outer = is; is_inner = inside; outer_checked = checked; inner_checked = inner; message = refl; inside = refl })))))

pub stable : {P : Type 0} → Known P → ((P → ⊥) → ⊥) → P
stable (inl p) h = p
stable (inr f) h = absurd (h f)

-- what holds whichever letter the octets are, and is settled by computing, holds
pub by_letter : {P : Type 0} (hashes : Receipted → List ℕ) (bytes : List ℕ) → Known P → ((l : Letter) → IsLetter hashes bytes l → P) → P
by_letter hashes bytes known each = stable known (λ never. some_letter hashes bytes (λ l is. never (each l is)))

-- ---- the senders of messages

facts_short : (hashes : Receipted → List ℕ) (bytes : List ℕ) (o : Option MessageForm) (c : Checks) → IsReading bytes o → length (facts_of hashes bytes o c).header.sender ≤ 131072
facts_short hashes bytes None c is = omega arith
facts_short hashes bytes (Some m) c is = head_within bytes m is

abbrev IsShort : Facts → Type 0
IsShort f = length f.header.sender ≤ 131072

message_short : (hashes : Receipted → List ℕ) (bytes : List ℕ) (l : Letter) → IsLetter hashes bytes l → IsShort l.message
message_short hashes bytes l is = subst IsShort (sym is.message) (facts_short hashes bytes is.outer is.outer_checks is.is_outer)

inner_short : (hashes : Receipted → List ℕ) (bytes : List ℕ) (l : Letter) → IsLetter hashes bytes l → IsShort l.inner
inner_short hashes bytes l is = subst IsShort (sym is.inside) (facts_short hashes (inside_of is.outer) is.inner is.inner_checks is.is_inner)

subject_short : (hashes : Receipted → List ℕ) (bytes : List ℕ) (l : Letter) → IsLetter hashes bytes l → IsShort (subject_of l)
subject_short hashes bytes l is = elim (is_nested l.message.body) as (λ v. IsShort (cond v l.inner l.message)) [ true ↦ inner_short hashes bytes l is | false ↦ message_short hashes bytes l is ]

pub no_hash : Receipted → List ℕ
no_hash r = []

echoed_short : (e : Echo) (f : Facts) → echoed e ≡ echo_of f.header → IsShort f → length e.sender.now ≤ 131072
echoed_short e f same short = subst (λ (x : List ℕ). length x ≤ 131072) (sym (ap (λ (x : Echoed). x.sender) same)) short

-- so what a refusal repeats isn't longer than a message
pub stop_short : (bytes : List ℕ) (fail : FailInfo) (e : Echo) → IsStopped bytes fail e → length e.sender.now ≤ 131072
stop_short bytes fail e stops = by_letter no_hash bytes (le_known _ _) (λ l is. echoed_short e l.message (stops.repeated no_hash l is) (message_short no_hash bytes l is))

pub request_short : (bytes : List ℕ) (r : Request) → IsRequest bytes r → AreShort r
request_short bytes r asks = record {
  inner = by_letter no_hash bytes (le_known _ _) (λ l is. echoed_short r.echo (subject_of l) (asks.inner no_hash l is) (subject_short no_hash bytes l is));
  outer = by_letter no_hash bytes (le_known _ _) (λ l is. echoed_short r.outer_echo l.message (asks.outer no_hash l is) (message_short no_hash bytes l is));
}
