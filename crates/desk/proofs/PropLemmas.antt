-- That a change with a stamp may come next has one proof, so it may be taken out of what a desk keeps.
use Rattle.std.proofs.Common.{◌≡◌, ℕ, Bool, true, Option, Some, None}
use Rattle.std.specs.Prelude.{is_some, IfSome, IsSome}
use Rattle.std.proofs.Props.{props}
use Rattle.deal_changes.specs.declared.change.Kind.TheVariants.{Mac, Lms}
use Rattle.deal_changes.specs.declared.change.Who.{Who}
use Rattle.deal_changes.specs.declared.change.Who.TheVariants.{Listed, Cert}
use Rattle.deal_changes.specs.declared.change.Body4.{Body4}
use Rattle.deal_changes.specs.declared.change.Stamp.{Stamp}
use Rattle.deal_changes.specs.declared.change.Wish.{Wish}
use Rattle.deal_changes.specs.declared.change.Change.{Change}
use Rattle.deal_changes.specs.declared.change.Change.TheVariants.{Found, Enlist, Dismiss, Grant, Hold, Release, Deny, Turned, Polled, Settled, Revoke, Lapse}
use Rattle.deal_changes.specs.Spelling.{IsWho, IsStamp, IsWish}
use Rattle.deal_changes.specs.Times.{stamp_of}
use Rattle.deal_model.specs.declared.states.DealState.{DealState}
use Rattle.deal_model.specs.declared.states.DealState.TheVariants.{Unused, Held, Released, Denied, Open, Closed, Other}
use Rattle.deal_model.specs.Views.{History}
use Rattle.deal_model.specs.Rules.{Allowed, StampHolds, GrantComes, GrantHolds, HoldHolds, TurnedHolds, PolledHolds, IsOpenPast, SettledHolds, RevokeHolds}

who_prop : (who : Who) → IsProp (IsWho who)
who_prop (Listed Mac id) = Prim.hlevel props
who_prop (Listed Lms id) = Prim.hlevel props
who_prop (Cert serial) = Prim.hlevel props

some_prop : (P : ℕ → Type 0) (o : Option ℕ) → ((n : ℕ) → IsProp (P n)) → IsProp (IfSome o P)
some_prop P (Some n) each = each n
some_prop P None each = Prim.hlevel props

is_some_prop : (o : Option ℕ) → IsProp (IsSome o)
is_some_prop (Some n) = Prim.hlevel props
is_some_prop None = Prim.hlevel props

comes_prop : (state : DealState) (taken : Bool) (rights : Option ℕ) (held_as : Bool) → IsProp (GrantComes state taken rights held_as)
comes_prop Unused taken rights held_as = Prim.hlevel props
comes_prop Held taken rights held_as = Prim.hlevel props
comes_prop Released taken rights held_as = Prim.hlevel props
comes_prop Denied taken rights held_as = Prim.hlevel props
comes_prop (Open serial deadline) taken rights held_as = Prim.hlevel props
comes_prop Closed taken rights held_as = Prim.hlevel props
comes_prop Other taken rights held_as = Prim.hlevel props

past_prop : (time : ℕ) (state : DealState) → IsProp (IsOpenPast time state)
past_prop time Unused = Prim.hlevel props
past_prop time Held = Prim.hlevel props
past_prop time Released = Prim.hlevel props
past_prop time Denied = Prim.hlevel props
past_prop time (Open serial deadline) = Prim.hlevel props
past_prop time Closed = Prim.hlevel props
past_prop time Other = Prim.hlevel props

stamp_prop : (s : Stamp) → IsProp (IsStamp s)
stamp_prop s = Prim.hlevel (props, who_prop, some_prop)

holds_prop : (h : History) (s : Stamp) → IsProp (StampHolds h s)
holds_prop h s = Prim.hlevel (props, is_some_prop, some_prop)

wish_prop : (w : Wish) → IsProp (IsWish w)
wish_prop w = Prim.hlevel props

grant_prop : (h : History) (s : Stamp) (b : Body4) (w : Wish) (serial leaf : ℕ) → IsProp (GrantHolds h s b w serial leaf)
grant_prop h s b w serial leaf = Prim.hlevel (props, comes_prop)

hold_prop : (h : History) (s : Stamp) (w : Wish) → IsProp (HoldHolds h s w)
hold_prop h s w = Prim.hlevel props

turned_prop : (h : History) (s : Stamp) → IsProp (TurnedHolds h s)
turned_prop h s = Prim.hlevel props

polled_prop : (h : History) (s : Stamp) → IsProp (PolledHolds h s)
polled_prop h s = Prim.hlevel props

settled_prop : (h : History) (s : Stamp) → IsProp (SettledHolds h s)
settled_prop h s = Prim.hlevel (props, past_prop)

revoke_prop : (h : History) (s : Stamp) (serial : ℕ) → IsProp (RevokeHolds h s serial)
revoke_prop h s serial = Prim.hlevel props

pub allowed_prop : (h : History) (c : Change) → is_some (stamp_of c) ≡ true → IsProp (Allowed h c)
allowed_prop h (Found s) some = absurd (cc some)
allowed_prop h (Enlist time list) some = absurd (cc some)
allowed_prop h (Dismiss time w) some = absurd (cc some)
allowed_prop h (Grant s b w serial leaf) some = Prim.hlevel (props, stamp_prop, wish_prop, holds_prop, grant_prop)
allowed_prop h (Hold s b w) some = Prim.hlevel (props, stamp_prop, wish_prop, holds_prop, hold_prop)
allowed_prop h (Release time tid) some = absurd (cc some)
allowed_prop h (Deny time tid) some = absurd (cc some)
allowed_prop h (Turned s) some = Prim.hlevel (props, stamp_prop, holds_prop, turned_prop)
allowed_prop h (Polled s) some = Prim.hlevel (props, stamp_prop, holds_prop, polled_prop)
allowed_prop h (Settled s accepted) some = Prim.hlevel (props, stamp_prop, holds_prop, settled_prop)
allowed_prop h (Revoke s serial reason) some = Prim.hlevel (props, stamp_prop, holds_prop, revoke_prop)
allowed_prop h (Lapse time tid) some = absurd (cc some)
