-- Each end is a reply to why there is no list.
use Rattle.std.proofs.Common.{inl, inr, ◌∙◌}
use Rattle.cmpca_tool.proofs.file.unread_reply.Goals as goal

pub returns-in-Ok-clause-reply : goal.returns-in-Ok-clause-reply
returns-in-Ok-clause-reply c = rw c.in-Bad.is (inl (c.made.ensures.ends ∙ c.file_status.ensures.status, c.made.ensures.says ∙ c.in-Ok.ensures))

pub returns-in-Err-clause-reply : goal.returns-in-Err-clause-reply
returns-in-Err-clause-reply c = rw c.in-Bad.is (inr (c.no_memory.ensures.ends, c.no_memory.ensures.says))
