-- A message that waits for its signature.
use Rattle.std.specs.Prelude.{◌≡◌, ℕ, ◌+◌, ◌*◌, ◌≤◌, List, length, Some}
use Rattle.protect.specs.Algorithms.{hss_lms, algorithm_octets}
use Rattle.protect.specs.Written.{with_algorithm}
use Rattle.reply_maker.specs.Messages.{header_octets}
use Rattle.device_table.specs.declared.stage.Deal.{Deal}
use Rattle.device_table.specs.declared.deeds.Speech.{Speech}
use Rattle.device_plan.specs.declared.messages.Draft.{Draft}
use Rattle.device_plan.specs.declared.plan.DeviceGuard.{DeviceGuard}
use Rattle.device_plan.specs.declared.plan.DeviceGuard.TheVariants.{Mac, Signed}
use Rattle.device_plan.specs.declared.plan.DevicePlan.{DevicePlan}
use Rattle.device_plan.specs.Plans.{list_limit}
use Rattle.device_plan.specs.Speeches.{body_of, header_of, signed_text_of}

-- a secret protects what a device says; or its certificate's key does
abbrev pub IsByMac : DeviceGuard → Type 0
IsByMac (Mac reference secret) = Unit {0}
IsByMac (Signed cert) = ⊥

abbrev pub IsByKey : DeviceGuard → Type 0
IsByKey (Mac reference secret) = ⊥
IsByKey (Signed cert) = Unit {0}

-- It has the header and the body of what a device says, and what is to be signed of both.
pub record IsDraft (p : DevicePlan) (key proof : List ℕ) (d : Deal) (s : Speech) (now : ℕ) (words : List ℕ) (draft : Draft) : Type 0 where
  pub header : draft.unsigned.header ≡ header_octets (with_algorithm (header_of p d s now words) (Some (algorithm_octets hss_lms)))
  pub body : draft.body ≡ body_of p key proof s
  pub text : draft.unsigned.part ≡ signed_text_of p key proof d s now words

-- It has at most so many octets.
abbrev pub IsShortDraft : Draft → Type 0
IsShortDraft draft = length draft.unsigned.header + length draft.body ≤ 6 * list_limit + 2048
