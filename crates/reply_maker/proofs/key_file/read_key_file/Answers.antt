-- What is read of the source tells what the whole of it gives.
use Rattle.reply_maker.proofs.FileLemmas.{is_read, unread, read_so_far}
use Rattle.reply_maker.proofs.key_file.read_key_file.Goals as goal

pub returns-in-Some-clause-read : goal.returns-in-Some-clause-read
returns-in-Some-clause-read g c =
    is_read _ c.in-Ok.octets.items _ c.in-Ok.ensures.octets (rw c.as_slice.ensures.value at c.in-Some.ensures)

pub returns-in-Ok-clause-read : goal.returns-in-Ok-clause-read
returns-in-Ok-clause-read g c =
    is_read _ c.in-Ok.octets.items _ c.in-Ok.ensures.octets (rw c.as_slice.ensures.value at c.in-None.ensures)

pub returns-in-Err-Fault-clause-read : goal.returns-in-Err-Fault-clause-read
returns-in-Err-Fault-clause-read g c = unread _ _ (λ file. tt)

pub returns-clause-read : goal.returns-clause-read
returns-clause-read g c = unread _ _ (λ file. tt)

pub returns-in-Some-clause-rest : goal.returns-in-Some-clause-rest
returns-in-Some-clause-rest g c = read_so_far _ _ c.in-Ok.octets.items c.in-Ok.ensures.octets c.in-Ok.ensures.taken

pub returns-in-Ok-clause-rest : goal.returns-in-Ok-clause-rest
returns-in-Ok-clause-rest g c = read_so_far _ _ c.in-Ok.octets.items c.in-Ok.ensures.octets c.in-Ok.ensures.taken
