-- How a session ended.
use Rattle.std.specs.Prelude.{Bool, true, false}
use Rattle.cmp_ports.specs.declared.note.Note.{Note}
use Rattle.cmp_ports.specs.declared.note.Outcome.{Outcome}
use Rattle.cmp_ports.specs.declared.note.Outcome.TheVariants.{SystemFailure}
use Rattle.cmp_links.specs.declared.end.EndCause.{EndCause}
use Rattle.cmp_links.specs.declared.end.EndCause.TheVariants.{ReadFault, WriteFault}

-- a call of the stream failed
abbrev pub is_link_fault : EndCause → Bool
is_link_fault ReadFault = true
is_link_fault WriteFault = true
is_link_fault _ = false

-- the message ended with a failure of the service
abbrev pub is_system_failure : Outcome → Bool
is_system_failure SystemFailure = true
is_system_failure _ = false

-- the answer told that the service failed
abbrev pub is_failure : Note → Bool
is_failure n = is_system_failure n.outcome
