-- How what is left of a checked message is ruled, and the parts in which it is computed.
use Rattle.std.specs.Prelude.{◌++◌, unwrap_or, ◌≡◌, ℕ, Bool, true, false, List, [], ◌∷◌, Option, Some, None, is_some, Result, Ok, Err, if◌then◌else◌}
use Rattle.std.specs.List.{list_any}
use Rattle.deal_changes.specs.declared.change.Kind.{Kind}
use Rattle.deal_changes.specs.declared.change.Who.{Who}
use Rattle.deal_changes.specs.declared.change.Stamp.{Stamp}
use Rattle.deal_model.specs.declared.asking.Checked.{Checked}
use Rattle.deal_model.specs.declared.states.Key.{Key}
use Rattle.deal_model.specs.declared.states.Key.TheVariants.{Issue}
use Rattle.deal_model.specs.declared.states.Owner.{Owner}
use Rattle.deal_model.specs.declared.states.Standing.{Standing}
use Rattle.deal_model.specs.declared.states.Standing.TheVariants.{Unknown, OtherKind, Barred, Good}
use Rattle.deal_model.specs.Views.{History, is_told, leaves_used, reply_leaves}
use Rattle.deal_model.specs.Rules.{reply_leaf}
use Rattle.cmp_values.specs.declared.fail_info.FailInfo.{FailInfo}
use Rattle.cmp_values.specs.declared.fail_info.FailInfo.TheVariants.{BadAlg, SignerNotTrusted, WrongIntegrity, NotAuthorized, SystemUnavail}
use Rattle.deal_table.specs.Message.{Enrolment, Confirmation, Polling, Withdrawal}
use Rattle.deal_table.specs.History.{name_of}
use Rattle.deal_table.specs.Table.{Row, Event, Sent, Decision, Makes, Repeats, Refuses, Asks, unless, bare, guarded, header_rows, passed, tid_of, state_now, deal_now, new_rows, old_rows, party_rows, wish_rows, key_rows, is_possessed, proof_rows, deal_certificate, confirm_rows, poll_rows, entry_rows, reason_rows, revoke_rows, stamp_by, is_past_key}
use Rattle.deal_table.specs.Carry.{header_by, rest_facts, id_by}
use Rattle.deal_rulings.specs.declared.rows.Statuses.{Statuses}
use Rattle.deal_rulings.specs.declared.ruling.Ruling.{Ruling}
use Rattle.deal_rulings.specs.declared.ruling.Ruling.TheVariants as rulings

-- A decision, of whose guard only is told whether a secret stands: it is the one that was checked.
abbrev pub ruling_of : Decision → Ruling
ruling_of (Makes c) = rulings.Makes c
ruling_of (Repeats place) = rulings.Repeats place
ruling_of (Refuses fail to) = rulings.Refuses fail (is_some to.guard) to.outer
ruling_of (Asks place) = rulings.Asks place

-- ---- the parts

-- the reason of the first row that applies, or that none does
abbrev pub outcome : List Row → Result (Unit {0}) FailInfo
outcome [] = Ok tt
outcome (row ∷ rows) = if row.applies then Err row.fail else outcome rows

-- the event at which what is left is decided
abbrev pub event : History → ℕ → List ℕ → Event
event h t w = record { history = h; time = t; words = w }

-- what is left of a message whose sender is known; the authority's name isn't asked of its header
abbrev pub sent_by : Checked → Owner → Sent
sent_by c o = record { to = guarded false (rest_facts [] c) o; digest = (rest_facts [] c).digest; header = (rest_facts [] c).header; owner = o }

-- the sender by how its credential stands, or why there is none
abbrev pub known_sender : Standing → Result Owner FailInfo
known_sender Unknown = Err SignerNotTrusted
known_sender OtherKind = Err WrongIntegrity
known_sender Barred = Err NotAuthorized
known_sender (Good who key rights) = Ok (record { who = who; key = key; rights = rights })

-- the same of a message by the kind of its protection
abbrev pub sender_in : Option Kind → Standing → Result Owner FailInfo
sender_in None standing = Err BadAlg
sender_in (Some kind) standing = known_sender standing

-- what is left of a certConf and of a pollReq
abbrev pub rest_confirmation : Checked → Statuses → Confirmation
rest_confirmation c s = record { count = s.count; id = id_by s.id_ok c.minus_one; status = s.status; has_known_hash = s.hash_alg_ok; matches = λ r. c.hash_ok }

abbrev pub rest_polling : Checked → Bool → Polling
rest_polling c ids_ok = record { is_one = ids_ok; id = id_by true c.minus_one }

-- what a request, a certConf, a pollReq and an rr ask before something is made
abbrev pub enrol_rows : Event → Sent → Enrolment → List Row
enrol_rows v s e = new_rows (state_now v s) ++ wish_rows (name_of v.history) s.owner e ++ key_rows v.history e ++ proof_rows (is_possessed s.owner e)

abbrev pub confirmed_rows : Event → Sent → List Row
confirmed_rows v s = old_rows (state_now v s) ++ party_rows v.history s.header s.owner.who ++ confirm_rows (deal_certificate v.history (tid_of s.header)) v.time

abbrev pub polled_rows : Event → Sent → Polling → List Row
polled_rows v s p = old_rows (state_now v s) ++ party_rows v.history s.header s.owner.who ++ poll_rows (state_now v s) (is_told v.history (tid_of s.header)) ++ entry_rows (deal_now v s) p

abbrev pub withdraw_rows : Event → Sent → Withdrawal → List Row
withdraw_rows v s w = new_rows (state_now v s) ++ reason_rows (name_of v.history) w ++ revoke_rows v.history s.owner (unwrap_or w.certificate.serial 0)

-- the message that is about something
abbrev pub subject : Event → Checked → Decision
subject v c = unless (bare false) (header_rows (header_by c)) (passed v (rest_facts (name_of v.history) c))

-- no leaf is left of those that a change takes
abbrev pub lacks_leaf : History → List (Key × ℕ) → Bool
lacks_leaf h leaves = list_any (is_past_key h) leaves

-- the leaf of the reply to a sender, or that one is needed and all are used
abbrev pub IsReplyLeaf : History → Who → Result (Option ℕ) FailInfo → Type 0
IsReplyLeaf h who (Ok leaf) = (lacks_leaf h (reply_leaves (reply_leaf h who)) ≡ false) × (leaf ≡ reply_leaf h who)
IsReplyLeaf h who (Err fail) = (lacks_leaf h (reply_leaves (reply_leaf h who)) ≡ true) × (fail ≡ SystemUnavail)

-- the leaf that signs the next certificate, or that all are used
abbrev pub IsIssueLeaf : History → Result ℕ FailInfo → Type 0
IsIssueLeaf h (Ok leaf) = (is_past_key h (Issue, leaf) ≡ false) × (leaf ≡ leaves_used h Issue)
IsIssueLeaf h (Err fail) = (is_past_key h (Issue, leaves_used h Issue) ≡ true) × (fail ≡ SystemUnavail)

-- the stamp that the message leaves, or that no leaf is left for its reply
abbrev pub IsStamped : Event → Sent → Result Stamp FailInfo → Type 0
IsStamped v s (Ok stamp) = (lacks_leaf v.history (reply_leaves (reply_leaf v.history s.owner.who)) ≡ false) × (stamp ≡ stamp_by v s)
IsStamped v s (Err fail) = (lacks_leaf v.history (reply_leaves (reply_leaf v.history s.owner.who)) ≡ true) × (fail ≡ SystemUnavail)
