-- What a run makes of what it is lent beside the disk.
use Rattle.std.specs.Prelude.{ℕ, ◌≡◌, List, Option, IfSome}
use Rattle.cmp_ports.specs.Faults.{Rose}
use Rattle.cmpca_tool.specs.declared.status.Status.{Status}

-- What a source tells of a run: it is as it was, since no octet was read; a call of it failed.
pub record SourceRun : Type 1 where
  pub unread : Type 0
  pub failed : Type 0

abbrev pub source_run : {S : Type 0} → (S → ℕ) → S → S → SourceRun
source_run faults old new = record { unread = new ≡ old; failed = Rose (faults old) (faults new) }

-- What a run makes of its input and its key file; whether its clock and its entropy are as they were; whether a draw failed.
pub record Devices : Type 1 where
  pub input : SourceRun
  pub key : SourceRun
  pub unused : Type 0
  pub entropy_failed : Type 0

abbrev pub devices_of : {S K C E : Type 0} → (S → ℕ) → (K → ℕ) → (E → ℕ) → S → S → K → K → C → C → E → E → Devices
devices_of input_faults key_faults entropy_faults input input_after key key_after clock clock_after entropy entropy_after = record {
  input = source_run input_faults input input_after;
  key = source_run key_faults key key_after;
  unused = (clock_after ≡ clock) × (entropy_after ≡ entropy);
  entropy_failed = Rose (entropy_faults entropy) (entropy_faults entropy_after);
}

-- how many octets are read at most, of a message, of a file of the operator's and of a key file: one past the limit, so that a longer
-- one is told
abbrev pub message_most : ℕ
message_most = 131073

abbrev pub file_most : ℕ
file_most = 65537

abbrev pub key_most : ℕ
key_most = 97

-- The reply is by the input: what its source had left, where it tells it.
pub record Told (left : Option (List ℕ)) (IsForm : List ℕ → Status → List ℕ → Type 0) (status : Status) (text : List ℕ) : Type 0 where
  pub input : List ℕ
  pub read : IfSome left (λ all. all ≡ input)
  pub is_reply : IsForm input status text

-- The reply is by the input and the key file: what their sources had left, where they tell it.
pub record ToldBoth (left key_left : Option (List ℕ)) (IsForm : List ℕ → List ℕ → Status → List ℕ → Type 0) (status : Status) (text : List ℕ) : Type 0 where
  pub input : List ℕ
  pub read : IfSome left (λ all. all ≡ input)
  pub key : List ℕ
  pub key_read : IfSome key_left (λ all. all ≡ key)
  pub is_reply : IsForm input key status text
