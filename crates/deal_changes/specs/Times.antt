-- What a change is told by: its time, the stamp that a message left in it, its transaction.
use Rattle.std.specs.Prelude.{ℕ, List, Option, Some, None}
use Rattle.deal_changes.specs.declared.change.Stamp.{Stamp}
use Rattle.deal_changes.specs.declared.change.Change.{Change}
use Rattle.deal_changes.specs.declared.change.Change.TheVariants.{Found, Enlist, Dismiss, Grant, Hold, Release, Deny, Turned, Polled, Settled, Revoke, Lapse}

-- when the change was made
abbrev pub time_of_change : Change → ℕ
time_of_change (Found s) = s.time
time_of_change (Enlist time list) = time
time_of_change (Dismiss time w) = time
time_of_change (Grant s b w serial leaf) = s.time
time_of_change (Hold s b w) = s.time
time_of_change (Release time tid) = time
time_of_change (Deny time tid) = time
time_of_change (Turned s) = s.time
time_of_change (Polled s) = s.time
time_of_change (Settled s accepted) = s.time
time_of_change (Revoke s serial reason) = s.time
time_of_change (Lapse time tid) = time

-- the stamp of a change that a message made
abbrev pub stamp_of : Change → Option Stamp
stamp_of (Found s) = None
stamp_of (Enlist time list) = None
stamp_of (Dismiss time w) = None
stamp_of (Grant s b w serial leaf) = Some s
stamp_of (Hold s b w) = Some s
stamp_of (Release time tid) = None
stamp_of (Deny time tid) = None
stamp_of (Turned s) = Some s
stamp_of (Polled s) = Some s
stamp_of (Settled s accepted) = Some s
stamp_of (Revoke s serial reason) = Some s
stamp_of (Lapse time tid) = None

-- the transaction of a change that has one
abbrev pub tid_of : Change → Option (List ℕ)
tid_of (Found s) = None
tid_of (Enlist time list) = None
tid_of (Dismiss time w) = None
tid_of (Grant s b w serial leaf) = Some s.tid
tid_of (Hold s b w) = Some s.tid
tid_of (Release time tid) = Some tid
tid_of (Deny time tid) = Some tid
tid_of (Turned s) = Some s.tid
tid_of (Polled s) = Some s.tid
tid_of (Settled s accepted) = Some s.tid
tid_of (Revoke s serial reason) = Some s.tid
tid_of (Lapse time tid) = Some tid
