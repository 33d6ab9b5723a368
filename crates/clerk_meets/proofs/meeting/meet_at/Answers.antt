use denote.Param.Send.{sendable}
use Rattle.cmp_ports.proofs.mem_disk.MemDisk.TheSendSync as MemDiskSent
use Rattle.clerk.proofs.Sent.{clerk_send}
use Rattle.clerk_meets.proofs.meeting.meet_at.Goals as goal

-- a clerk over a disk in memory may go to another thread
pub meet-one-requires-send-K : goal.meet-one-requires-send-K
meet-one-requires-send-K g c κs within = search (sendable, clerk_send, MemDiskSent.the_send) depth 8
