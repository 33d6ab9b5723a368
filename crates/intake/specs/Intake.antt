-- What is asked of the history about octets, or why they are refused before anything is asked.
use Rattle.std.specs.Prelude.{◌≡◌, ℕ, true, false, List}
use Rattle.deal_model.specs.declared.asking.Echo.{Echo}
use Rattle.deal_model.specs.Views.{History}
use Rattle.cmp_values.specs.declared.fail_info.FailInfo.{FailInfo}
use Rattle.deal_table.specs.Carry.{IsReadable}
use Rattle.deal_table.specs.History.{Receipted}
use Rattle.deal_table.specs.Looked.{IsAskOf}
use Rattle.deal_table.specs.Message.{is_nested, Letter, echo_of, echo_to, echoed}
use Rattle.deal_table.specs.Table.{Refuses, bare, decision}
use Rattle.intake.specs.Letter.{IsLetter}
use Rattle.intake.specs.declared.request.Request.{Request}
use Rattle.intake.specs.declared.asking.Intake.{Intake}
use Rattle.intake.specs.declared.asking.Intake.TheVariants.{Stop, Go}

-- what octets are refused for, whatever the history, the time and the words
pub record IsStopped (bytes : List ℕ) (fail : FailInfo) (echo : Echo) : Type 0 where
  pub refused : (hashes : Receipted → List ℕ) (l : Letter) → IsLetter hashes bytes l
      → (h : History) (now : ℕ) (words : List ℕ) → decision h l now words ≡ Refuses fail (bare (is_nested l.message.body))
  pub repeated : (hashes : Receipted → List ℕ) (l : Letter) → IsLetter hashes bytes l → echoed echo ≡ echo_of l.message.header

-- The octets aren't refused so, and this is asked of the history; a refusal that comes later repeats this of the message that is
-- about something, or of the outer one.
pub record IsRequest (bytes : List ℕ) (r : Request) : Type 0 where
  pub octets : r.bytes.now ≡ bytes
  pub readable : (hashes : Receipted → List ℕ) (l : Letter) → IsLetter hashes bytes l → IsReadable l.message
  pub asks : (hashes : Receipted → List ℕ) (l : Letter) → IsLetter hashes bytes l → IsAskOf l r.ask
  pub inner : (hashes : Receipted → List ℕ) (l : Letter) → IsLetter hashes bytes l → echoed r.echo ≡ echo_to l false
  pub outer : (hashes : Receipted → List ℕ) (l : Letter) → IsLetter hashes bytes l → echoed r.outer_echo ≡ echo_to l true

abbrev pub IsIntake : List ℕ → Intake → Type 0
IsIntake bytes (Stop fail echo) = IsStopped bytes fail echo
IsIntake bytes (Go r) = IsRequest bytes r
