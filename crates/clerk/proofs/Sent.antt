-- A desk, and a clerk that shares it, may go to another thread wherever the desk's disk may.
use denote.RattleType.{RattleType}
use denote.Ref.{NamedLft, ShrRef}
use denote.Hole.{as_row}
use denote.Param.Send.{IsSend, IsSync, shr_send, sendable}
use denote.Param.SendFields.{declared_send, as_row_send}
use denote.Struct.Field.{row_field, shr_ref_field}
use Rattle.std.specs.contracts.snapshot.Snapshot as Snapshot
use Rattle.std.specs.contracts.option.Option as Option
use Rattle.std.proofs.vec.Vec.TheSendSync as VecSent
use Rattle.std.proofs.alloc.Global.TheSendSync as GlobalSent
use Rattle.std.proofs.Crossing.{frees}
use Rattle.atomic_table.specs.contracts.shared.Seat as Seat
use Rattle.atomic_table.proofs.shared.Seat.TheSendSync as SeatSent
use Rattle.cmp_ports.specs.declared.disk.Disk.{Ghosts}
use Rattle.deal_changes.specs.contracts.change.Change as Change
use Rattle.deal_changes.proofs.change.Change.TheSendSync as ChangeSent
use Rattle.turnstile.specs.declared.chronicle.Chronicle as Chronicle
use Rattle.turnstile.specs.contracts.turnstile.Turnstile as Turnstile
use Rattle.turnstile.specs.contracts.view.View as View
use Rattle.turnstile.proofs.turnstile.Turnstile.TheSendSync as StileSent
use Rattle.desk.specs.contracts.mark.FaultMark as FaultMark
use Rattle.desk.specs.contracts.desk.Desk as Desk
use Rattle.desk.proofs.mark.FaultMarks.TheSendSync as MarksSent
use Rattle.clerk.specs.contracts.shared.SharedClerk as SharedClerk

snapshot_send : (Y : RattleType) → IsSend (Snapshot.the_row Y)
snapshot_send Y = record { owned = λ d vs. ((λ vss. (tt, ((λ uss. (tt, tt)), tt))), tt); leaving = λ k f vs. tt }

option_send : (Y : RattleType) → IsSend Y → IsSend (Option.the_row Y)
option_send Y s = search sendable depth 12

mark_send : (D : RattleType) (g : Ghosts D.Denot) → IsSend (FaultMark.the_row D g)
mark_send D g = declared_send (FaultMark.the_type D g) (snapshot_send D, (snapshot_send D, tt))

pub desk_send : (D : RattleType) (g : Ghosts D.Denot) → IsSend D → IsSend (Desk.the_row D g)
desk_send D g s =
    let changes = VecSent.the_send Change.the_row _ _ ChangeSent.the_send GlobalSent.the_send frees in
    let doubt = option_send Change.the_row ChangeSent.the_send in
    let mark = option_send (FaultMark.the_row D g) (mark_send D g) in
    declared_send (Desk.the_type D g) (as_row_send (row_field D) s, (search sendable depth 30, (changes, (doubt, (mark, tt)))))

-- a borrowed turnstile, and a seat at it, wherever its value may
stile_send : (κ : NamedLft) (T E : RattleType) (h : Chronicle.Ghosts T.Denot E.Denot) → IsSend T → IsSend (as_row (shr_ref_field κ (Turnstile.the_row T E h) tt))
stile_send κ T E h s = as_row_send (shr_ref_field κ (Turnstile.the_row T E h) tt) (shr_send κ.mir κ.lft (Turnstile.the_row T E h) (StileSent.the_sync T E h s))

seat_send : (T E : RattleType) → IsSend T → IsSend (Seat.the_row (Option.the_row T) (View.the_row E))
seat_send T E s = SeatSent.the_send (Option.the_row T) (View.the_row E) (option_send T s)

-- besides, threads may share its runtime
pub clerk_send : (κ : NamedLft) (D R : RattleType) (g : Ghosts D.Denot) → IsSend D → IsSync R → IsSend (SharedClerk.the_row κ D R g)
clerk_send κ D R g s y =
    let desk = desk_send D g s in
    let runtime = as_row_send (row_field (ShrRef κ.mir κ.lft R)) (shr_send κ.mir κ.lft R y) in
    let seat = seat_send (Desk.the_row D g) Change.the_row desk in
    declared_send (SharedClerk.the_type κ D R g) (runtime, (stile_send κ (Desk.the_row D g) Change.the_row _ desk, (seat, (MarksSent.the_send, tt))))
