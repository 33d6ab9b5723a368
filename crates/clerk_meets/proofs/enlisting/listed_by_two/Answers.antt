use denote.Param.Send.{sendable}
use Rattle.cmp_ports.proofs.mem_disk.MemDisk.TheSendSync as MemDiskSent
use Rattle.clerk.proofs.Sent.{desk_send}
use Rattle.clerk_meets.proofs.enlisting.listed_by_two.Goals as goal

-- a desk over a disk in memory may go to another thread
pub list_by_two-first-requires-send-T : goal.list_by_two-first-requires-send-T
list_by_two-first-requires-send-T g c κs within = search (sendable, desk_send, MemDiskSent.the_send) depth 8
