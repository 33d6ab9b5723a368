-- That octets have a letter, and one alone.
use Rattle.std.specs.Prelude.{◌≡◌, ℕ, List}
use Rattle.deal_table.specs.History.{Receipted}
use Rattle.deal_table.specs.Message.{Facts, Letter}
use Rattle.intake.specs.Letter.{IsLetter}

-- The facts are the same, and what verifies agrees for every secret or key.
pub record AgreeFacts (a b : Facts) : Type 0 where
  pub is_message : a.is_message ≡ b.is_message
  pub digest : a.digest ≡ b.digest
  pub header : a.header ≡ b.header
  pub is_protected : a.is_protected ≡ b.is_protected
  pub verifies : (key : List ℕ) → a.verifies key ≡ b.verifies key
  pub body : a.body ≡ b.body

-- both messages of two letters agree
pub record AgreeLetters (a b : Letter) : Type 0 where
  pub message : AgreeFacts a.message b.message
  pub inner : AgreeFacts a.inner b.inner

-- the octets have a letter, whatever the certificates' hashes are
abbrev pub HasLetter : List ℕ → Type 0
HasLetter bytes = (hashes : Receipted → List ℕ) → (l : Letter) × IsLetter hashes bytes l

-- any two letters of the octets agree
abbrev pub HasOneLetter : List ℕ → Type 0
HasOneLetter bytes = (hashes : Receipted → List ℕ) (a b : Letter) → IsLetter hashes bytes a → IsLetter hashes bytes b → AgreeLetters a b
