-- The lines that tell how a history stands, in ASCII, one function a line. Numbers are decimal, and a transactionID is in hex
-- of lower case.
use Rattle.std.specs.Prelude.{ℕ, List, [], ◌∷◌, ◌++◌, Option, Some, None, length, codes}
use Rattle.std.specs.List.{flat_map}
use Rattle.std.specs.Fmt.{decimal}
use Rattle.hex.specs.Hex.{encode_lower}
use Rattle.deal_changes.specs.declared.change.Change.{Change}
use Rattle.deal_changes.specs.declared.change.Change.TheVariants.{Grant, Hold}
use Rattle.deal_model.specs.declared.states.Key.TheVariants.{Issue, Reply}
use Rattle.deal_model.specs.declared.states.Reason.{Reason}
use Rattle.deal_model.specs.declared.states.Reason.TheVariants.{Rejected, Timeout, Asked}
use Rattle.deal_model.specs.declared.states.CertificateState.{CertificateState}
use Rattle.deal_model.specs.declared.states.CertificateState.TheVariants.{Open, Confirmed, Revoked}
use Rattle.deal_model.specs.declared.states.DealState.{DealState}
use Rattle.deal_model.specs.declared.states.DealState.TheVariants as deals
use Rattle.deal_model.specs.Keys.{leaves_of}
use Rattle.deal_model.specs.Views.{History, settings_of, certificate_state, transaction_state, leaves_used}

-- a text and the end of its line
abbrev pub line : List ℕ → List ℕ
line text = text ++ 10 ∷ []

-- ---- numbers of the whole history

abbrev pub changes_line : History → List ℕ
changes_line h = line (codes "changes " ++ decimal (length h))

-- how many leaves of a key are used, of how many that its tree has
abbrev pub share : ℕ → ℕ → List ℕ
share used size = decimal used ++ (codes " of " ++ decimal size)

abbrev pub issue_line : History → List ℕ
issue_line h = line (codes "issue " ++ share (leaves_used h Issue) (leaves_of (settings_of h).issue_key))

abbrev pub reply_line : History → List ℕ
reply_line h = line (codes "reply " ++ share (leaves_used h Reply) (leaves_of (settings_of h).reply_key))

-- ---- certificates

-- a reason that was asked for is its number (RFC 5280, 5.3.1)
abbrev pub reason_text : Reason → List ℕ
reason_text Rejected = codes "rejected"
reason_text Timeout = codes "timeout"
reason_text (Asked number) = decimal number

abbrev pub state_text : CertificateState → List ℕ
state_text (Open deadline) = codes "open " ++ decimal deadline
state_text Confirmed = codes "confirmed"
state_text (Revoked reason) = codes "revoked " ++ reason_text reason

abbrev pub certificate_line : ℕ → List ℕ → Option CertificateState → List ℕ
certificate_line serial tid (Some state) = line (codes "cert " ++ (decimal serial ++ (codes " " ++ (state_text state ++ (codes " " ++ encode_lower tid)))))
certificate_line serial tid None = []

-- the line of a Grant; no other change has one
abbrev pub granted : History → Change → List ℕ
granted h (Grant s b w serial leaf) = certificate_line serial s.tid (certificate_state h serial)
granted h _ = []

-- ---- requests that waited for an order

-- a transaction without a Grant; one with a Grant has its line above
abbrev pub waiting_line : List ℕ → DealState → List ℕ
waiting_line tid deals.Held = line (codes "held " ++ encode_lower tid)
waiting_line tid deals.Released = line (codes "released " ++ encode_lower tid)
waiting_line tid deals.Denied = line (codes "denied " ++ encode_lower tid)
waiting_line tid _ = []

-- the line of a Hold; no other change has one
abbrev pub waiting : History → Change → List ℕ
waiting h (Hold s b w) = waiting_line s.tid (transaction_state h s.tid)
waiting h _ = []

-- ---- the whole text

abbrev pub lines_of : History → List ℕ
lines_of h = changes_line h ++ (issue_line h ++ (reply_line h ++ (flat_map (granted h) h ++ flat_map (waiting h) h)))
