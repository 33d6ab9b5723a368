-- How many octets parts of a change have.
use Rattle.std.specs.Prelude.{ℕ, ◌+◌, ◌-◌, ◌^◌, min, length}
use Rattle.deal_changes.specs.declared.change.Credential.{Credential}
use Rattle.deal_changes.specs.declared.change.Change.{Change}
use Rattle.deal_changes.specs.declared.change.Change.TheVariants.{Found, Enlist, Dismiss, Grant, Hold, Release, Deny, Turned, Polled, Settled, Revoke, Lapse}
use Rattle.deal_changes.specs.Spelling.{who, stamp, wish, settings, credential, credentials}

-- the octets of a credential
abbrev pub credential_size : Credential → ℕ
credential_size c = length (credential c)

-- a number, or the most that 64 bits can tell
abbrev pub capped : ℕ → ℕ
capped n = min n (2 ^ 64 - 1)

-- the octets of a change, by those of its parts
abbrev pub octets_of : Change → ℕ
octets_of (Found s) = 1 + length (settings s)
octets_of (Enlist time list) = 9 + length (credentials list)
octets_of (Dismiss time w) = 9 + length (who w)
octets_of (Grant s b w serial leaf) = 14 + (length (stamp s) + length (wish w))
octets_of (Hold s b w) = 2 + (length (stamp s) + length (wish w))
octets_of (Release time tid) = 10 + length tid
octets_of (Deny time tid) = 10 + length tid
octets_of (Turned s) = 1 + length (stamp s)
octets_of (Polled s) = 1 + length (stamp s)
octets_of (Settled s accepted) = 2 + length (stamp s)
octets_of (Revoke s serial reason) = 10 + length (stamp s)
octets_of (Lapse time tid) = 10 + length tid
