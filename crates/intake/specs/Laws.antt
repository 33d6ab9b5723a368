-- What holds of the facts of a message.
use Rattle.std.specs.Prelude.{◌≡◌, ℕ, true, List}
use Rattle.deal_table.specs.History.{Receipted}
use Rattle.deal_table.specs.Message.{Body, Enrols, Confirms, Polls, Withdraws, Nests, OtherBody, Facts, Letter, FitsMessage}
use Rattle.intake.specs.Letter.{IsLetter}

-- a request for a certificate names a key
abbrev pub NamesKey : Body → Type 0
NamesKey (Enrols e) = e.has_key ≡ true
NamesKey (Confirms c) = Unit {0}
NamesKey (Polls p) = Unit {0}
NamesKey (Withdraws w) = Unit {0}
NamesKey (Nests count) = Unit {0}
NamesKey OtherBody = Unit {0}

-- what a change keeps of a message fits, where a key is named
abbrev pub FitsKeyed : Facts → Type 0
FitsKeyed m = NamesKey m.body → FitsMessage m

-- It fits of each message that octets are, and of the one inside.
abbrev pub LettersFit : Type 0
LettersFit = (hashes : Receipted → List ℕ) (bytes : List ℕ) (l : Letter) → IsLetter hashes bytes l → FitsKeyed l.message × FitsKeyed l.inner
