-- What holds of a history's answers and of the table.
use Rattle.std.specs.Prelude.{◌≡◌, ◌⊎◌, ℕ, ◌≤◌, Bool, true, false, not, List, [], ◌++◌, length, Option, Some, None, is_some, find}
use Rattle.std.specs.List.{list_any}
use Rattle.deal_changes.specs.declared.change.Kind.{Kind}
use Rattle.deal_changes.specs.declared.change.Settings.{Settings}
use Rattle.deal_changes.specs.declared.change.Change.{Change}
use Rattle.deal_changes.specs.Times.{time_of_change, tid_of, stamp_of}
use Rattle.deal_model.specs.declared.states.Owner.{Owner}
use Rattle.deal_model.specs.Views.{History, same, founding, transaction_state}
use Rattle.deal_model.specs.Rules.{Allowed, Legal}
use Rattle.deal_model.specs.declared.asking.Ask.{Ask}
use Rattle.deal_model.specs.declared.asking.Checked.{Checked}
use Rattle.deal_model.specs.declared.states.Standing.TheVariants.{Good}
use Rattle.deal_table.specs.Looked.{IsAskOf, IsRefusedByLook, looked_to}
use Rattle.deal_table.specs.declared.look.Look.{Look}
use Rattle.cmp_values.specs.declared.fail_info.FailInfo.{FailInfo}
use Rattle.deal_table.specs.History.{Receipted, IsFounded, secret_of, Begins, name_of, look_of, deal_of, place_of, owner_for, event_time, receipt_at, grant_receipt}
use Rattle.deal_table.specs.Message.{Compares, FitsMessage, Letter, subject_of, blind}
use Rattle.deal_table.specs.Table.{To, Decision, is_unused, is_deal, Makes, Refuses, Asks, decision}
use Rattle.deal_table.specs.Carry.{left, FitsChecked, Carries, untold, HashIsTold, as_told, IsAnswer, IsStale, carried_to}

-- ---- what a history has settled stands in each later one

-- what the service was founded with
abbrev pub SettingsStay : Type 0
SettingsStay = (h more : History) (s : Settings) → founding h ≡ Some s → founding (h ++ more) ≡ Some s

-- to whom a credential belongs, with which key and which rights
abbrev pub OwnersStay : Type 0
OwnersStay = (h more : History) (kind : Option Kind) (kid : List ℕ) (o : Owner) → owner_for h kind kid ≡ Some o → owner_for (h ++ more) kind kid ≡ Some o

-- the first change of any sort, as a transaction's Grant or Hold or that of a message, and its place
abbrev pub FirstsStay : Type 0
FirstsStay = (test : Change → Bool) (h more : History) (c : Change) → find test h ≡ Some c → find test (h ++ more) ≡ Some c

abbrev pub PlacesStay : Type 0
PlacesStay = (test : Change → Bool) (h more : History) (place : ℕ) → place_of test h ≡ Some place → place_of test (h ++ more) ≡ Some place

-- what the reply to a change needs
abbrev pub ReceiptsStay : Type 0
ReceiptsStay = (h more : History) (place : ℕ) (r : Receipted) → receipt_at h place ≡ Some r → receipt_at (h ++ more) place ≡ Some r

abbrev pub GrantReceiptsStay : Type 0
GrantReceiptsStay = (h more : History) (tid : List ℕ) (r : Receipted) → grant_receipt h tid ≡ Some r → grant_receipt (h ++ more) tid ≡ Some r

-- ---- the decision in parts

-- What carried a message at an earlier history decides it at a later one: an answer of what is left is the whole table's.
abbrev pub LeftAnswers : Type 0
LeftAnswers = (l : Letter) (c : Checked) (looked told h : History) (now : ℕ) (w : List ℕ) (d : Decision) → Carries l (untold c) looked → Begins looked h → HashIsTold l c told → Begins told h
    → left h c now w ≡ d → IsAnswer d → decision h l now w ≡ d

-- Where what is left asks, so does the table of a message of which nobody has compared certHash, and nobody has: it is a certConf,
-- to be compared with the certificate at the place of its transaction's Grant.
abbrev pub LeftAsks : Type 0
LeftAsks = (l : Letter) (c : Checked) (looked told h : History) (now : ℕ) (w : List ℕ) (place : ℕ) → Carries l (untold c) looked → Begins looked h → HashIsTold l c told → Begins told h
    → left h c now w ≡ Asks place → (decision h (blind l) now w ≡ Asks place) × IsStale h c place

-- the answer of what is left is that of the table, as far as certHash was told
abbrev pub IsDecidedByTheRest : Type 0
IsDecidedByTheRest = (l : Letter) (c : Checked) (looked told h : History) (now : ℕ) (w : List ℕ) → Carries l (untold c) looked → Begins looked h → HashIsTold l c told → Begins told h
    → decision h (as_told c.hash_ok l) now w ≡ left h c now w

-- where nobody has compared certHash, a message is decided as where somebody has, or it has to be compared first
abbrev pub DecidesOrAsks : Type 0
DecidesOrAsks = (h : History) (l : Letter) (now : ℕ) (w : List ℕ) → (decision h (blind l) now w ≡ decision h l now w) ⊎ ((place : ℕ) × (decision h (blind l) now w ≡ Asks place))

-- a refusal of what is left is protected by nothing, or by the secret that is carried
abbrev pub RefusesToTheCarried : Type 0
RefusesToTheCarried = (l : Letter) (c : Checked) (looked h : History) (now : ℕ) (w : List ℕ) (fail : FailInfo) (to : To) → Carries l (untold c) looked → Begins looked h → left h c now w ≡ Refuses fail to
    → to ≡ carried_to c to.outer (is_some to.guard)

-- a message whose certHash is compared never asks
abbrev pub ComparedNeverAsks : Type 0
ComparedNeverAsks = (h : History) (l : Letter) (now : ℕ) (w : List ℕ) (place : ℕ) → Compares (subject_of l).body → decision h l now w ≡ Asks place → ⊥

-- of the clock's reading only the event's time is asked
abbrev pub DecidesByTheTime : Type 0
DecidesByTheTime = (h : History) (l : Letter) (now : ℕ) (w : List ℕ) → decision h l (event_time h now) w ≡ decision h l now w

-- ---- what a look tells

-- what a look refuses is refused at the history that it looked at, with the same reason, to the same header, under the same
-- secret
abbrev pub LookRefuses : Type 0
LookRefuses = (h : History) (l : Letter) (ask : Ask) (now : ℕ) (w : List ℕ) (fail : FailInfo) (to : To) → IsAskOf l ask → IsRefusedByLook (look_of h ask now) (name_of h) l fail to → decision h l now w ≡ Refuses fail to

-- a refusal of a look is protected by nothing, or by the secret that the look tells
abbrev pub RefusesToTheLooked : Type 0
RefusesToTheLooked = (l : Letter) (ask : Ask) (look : Look) (name : List ℕ) (fail : FailInfo) (to : To) → IsAskOf l ask → IsRefusedByLook look name l fail to → to ≡ looked_to ask look to.outer (is_some to.guard)

-- a sender that is good at a look is the owner of its credential, who stays so
abbrev pub LookTellsTheOwner : Type 0
LookTellsTheOwner = (h : History) (ask : Ask) (now : ℕ) (o : Owner) → (look_of h ask now).cred ≡ Good o.who o.key o.rights → owner_for h ask.kind ask.kid ≡ Some o

abbrev pub LookTellsTheOuterOwner : Type 0
LookTellsTheOuterOwner = (h : History) (ask : Ask) (now : ℕ) (outer : Kind × List ℕ) (o : Owner) → ask.outer ≡ Some outer → (look_of h ask now).outer ≡ Good o.who o.key o.rights → owner_for h (Some outer.0) outer.1 ≡ Some o

-- ---- what the table makes

-- A change that the table makes over a legal history may come next, at the event's time, where the parts of the message fit.
abbrev pub MakesTheAllowed : Type 0
MakesTheAllowed = (h : History) (l : Letter) (now : ℕ) (w : List ℕ) (c : Change) → Legal h → FitsMessage (subject_of l) → now ≤ 250000000000 → length w ≡ 32 → decision h l now w ≡ Makes c
    → Allowed h c × (time_of_change c ≡ event_time h now)

-- so may a change that what is left of a message makes
abbrev pub LeftMakesTheAllowed : Type 0
LeftMakesTheAllowed = (h : History) (k : Checked) (now : ℕ) (w : List ℕ) (c : Change) → Legal h → FitsChecked k → now ≤ 250000000000 → length w ≡ 32 → left h k now w ≡ Makes c
    → Allowed h c × (time_of_change c ≡ event_time h now)

-- A change that the table makes has the stamp of a message: it is no Found, Enlist, Dismiss, Release, Deny or Lapse.
abbrev pub MakesTheStamped : Type 0
MakesTheStamped = (h : History) (l : Letter) (now : ℕ) (w : List ℕ) (c : Change) → decision h l now w ≡ Makes c → is_some (stamp_of c) ≡ true

-- so has a change that what is left of a message makes
abbrev pub LeftMakesTheStamped : Type 0
LeftMakesTheStamped = (h : History) (k : Checked) (now : ℕ) (w : List ℕ) (c : Change) → left h k now w ≡ Makes c → is_some (stamp_of c) ≡ true

-- ---- what legal histories say

-- the service was founded, under a name that is one common name
abbrev pub LegalIsFounded : Type 0
LegalIsFounded = (h : History) → Legal h → IsFounded h

-- the time of an event is one that a clock may say
abbrev pub EventsAreTimely : Type 0
EventsAreTimely = (h : History) (now : ℕ) → Legal h → now ≤ 250000000000 → event_time h now ≤ 250000000000

-- nobody has the empty identifier, as which an absent senderKID is read
abbrev pub NobodyIsUnnamed : Type 0
NobodyIsUnnamed = (h : History) (kind : Option Kind) → Legal h → owner_for h kind [] ≡ None

abbrev pub is_tid : List ℕ → Option (List ℕ) → Bool
is_tid tid (Some id) = same id tid
is_tid tid None = false

-- a change of this transaction
abbrev pub is_change_for : List ℕ → Change → Bool
is_change_for tid c = is_tid tid (tid_of c)

-- a transaction is unused by its state exactly where no change has its transactionID
abbrev pub UnusedHasNoChange : Type 0
UnusedHasNoChange = (h : History) (tid : List ℕ) → Legal h → is_unused (transaction_state h tid) ≡ not (list_any (is_change_for tid) h)

-- a request began it by its state exactly where a Grant or a Hold has its transactionID
abbrev pub DealHasGrantOrHold : Type 0
DealHasGrantOrHold = (h : History) (tid : List ℕ) → Legal h → is_deal (transaction_state h tid) ≡ is_some (deal_of h tid)

-- what protects the reply to a sender is its credential's secret or key, in each later history too
abbrev pub SecretIsTheOwners : Type 0
SecretIsTheOwners = (h more : History) (kind : Option Kind) (kid : List ℕ) (o : Owner) → Legal h → owner_for h kind kid ≡ Some o → secret_of (h ++ more) o.who ≡ o.key
