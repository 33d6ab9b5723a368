-- What is done beside the stations, and what workers share, may be other threads' wherever the desk's disk may go to another thread.
use denote.RattleType.{RattleType}
use denote.Hole.{as_row}
use denote.Ref.{NamedLft, ShrRef}
use denote.Param.Send.{IsSend, IsSync, shr_sync, sendable}
use denote.Param.SendFields.{declared_sync, as_row_sync}
use denote.Struct.Field.{row_field, shr_ref_field}
use Rattle.std.proofs.alloc.Global.TheSendSync as GlobalSent
use Rattle.std.proofs.sync.atomic.AtomicU64.TheSendSync as AtomicSent
use Rattle.std.specs.contracts.sync.atomic.AtomicU64 as Atomic
use Rattle.cmp_ports.specs.declared.disk.Disk.{Ghosts}
use Rattle.deal_changes.specs.contracts.change.Change as Change
use Rattle.turnstile.specs.declared.chronicle.Chronicle as Chronicle
use Rattle.turnstile.specs.contracts.turnstile.Turnstile as Turnstile
use Rattle.turnstile.proofs.turnstile.Turnstile.TheSendSync as StileSent
use Rattle.desk.specs.contracts.desk.Desk as Desk
use Rattle.reply_maker.specs.contracts.keys.Keys as Keys
use Rattle.reply_maker.proofs.keys.Keys.TheSendSync as KeysSent
use Rattle.workers.specs.contracts.workers.Workers as Workers
use Rattle.cmpca_serve.specs.contracts.beside.Keeping as Keeping
use Rattle.clerk.proofs.Sent.{desk_send}

-- a turnstile with a desk behind it may be shared
pub stile_sync : (D : RattleType) (g : Ghosts D.Denot) (h : Chronicle.Ghosts (Desk.the_row D g).Denot Change.the_row.Denot) → IsSend D → IsSync (Turnstile.the_row (Desk.the_row D g) Change.the_row h)
stile_sync D g h s = StileSent.the_sync (Desk.the_row D g) Change.the_row h (desk_send D g s)

-- a borrowed one too
stile_lent : (κ : NamedLft) (T E : RattleType) (h : Chronicle.Ghosts T.Denot E.Denot) → IsSend T → IsSync (as_row (shr_ref_field κ (Turnstile.the_row T E h) tt))
stile_lent κ T E h s = as_row_sync (shr_ref_field κ (Turnstile.the_row T E h) tt) (shr_sync κ.mir κ.lft (Turnstile.the_row T E h) (StileSent.the_sync T E h s))

keys_lent : (κ : NamedLft) → IsSync (as_row (shr_ref_field κ Keys.the_row tt))
keys_lent κ = as_row_sync (shr_ref_field κ Keys.the_row tt) (shr_sync κ.mir κ.lft Keys.the_row KeysSent.the_sync)

count_lent : (κ : NamedLft) → IsSync (as_row (shr_ref_field κ Atomic.the_row tt))
count_lent κ = as_row_sync (shr_ref_field κ Atomic.the_row tt) (shr_sync κ.mir κ.lft Atomic.the_row AtomicSent.the_sync)

-- so may what workers share, where their runtime may be
pub workers_sync : (κ : NamedLft) (D R : RattleType) (g : Ghosts D.Denot) → IsSend D → IsSync R → IsSync (Workers.the_row κ D R g)
workers_sync κ D R g s y =
    let runtime = as_row_sync (row_field (ShrRef κ.mir κ.lft R)) (shr_sync κ.mir κ.lft R y) in
    declared_sync (Workers.the_type κ D R g) (search (sendable, GlobalSent.the_sync) depth 30, (runtime, (keys_lent κ, (stile_lent κ (Desk.the_row D g) Change.the_row _ (desk_send D g s), (search sendable depth 30, (count_lent κ, tt))))))

-- and what is known beside them
pub keeping_sync : (κ : NamedLft) (D R : RattleType) (g : Ghosts D.Denot) → IsSend D → IsSync R → IsSync (Keeping.the_row κ D R g)
keeping_sync κ D R g s y =
    let runtime = as_row_sync (row_field (ShrRef κ.mir κ.lft R)) (shr_sync κ.mir κ.lft R y) in
    declared_sync (Keeping.the_type κ D R g) (runtime, (stile_lent κ (Desk.the_row D g) Change.the_row _ (desk_send D g s), (count_lent κ, tt)))
