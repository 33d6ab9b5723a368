-- What is heard, of what was read.
use Rattle.std.proofs.Common.{ℕ, List, Some, Result, Ok, Err, IfOk}
use Rattle.pki_message.specs.Message.{MessageForm, IsMessage}
use Rattle.device_table.specs.declared.event.Heard.{Heard}
use Rattle.device_hearing.specs.declared.listener.Listener.{Listener}
use Rattle.device_hearing.specs.Hearing.{IsSaid, IsHeard}

pub heard_by : {E : Type 0} (l : Listener) (octets : List ℕ) (m : MessageForm) (r : Result Heard E) → IsMessage octets m → IfOk r (IsSaid l m) → IfOk r (IsHeard l octets)
heard_by l octets m (Ok h) is said = record { form = Some m; reading = is; told = said }
heard_by l octets m (Err e) is said = tt
