-- The messages of an authority as functions of what they say (RFC 9810, 5.1).
use Rattle.std.specs.Prelude.{ℕ, ◌==◌, List, [], length, take, drop, Option, option_map, if◌then◌else◌}
use Rattle.der_base.specs.Element.{element}
use Rattle.asn_types.specs.Algorithm.{Algorithm}
use Rattle.pki_header.specs.Plan.{planned_content}
use Rattle.pki_header.specs.declared.plan.HeaderPlan.{HeaderPlan}
use Rattle.pki_message.specs.Frame.{protected_part}
use Rattle.pki_message.specs.Written.{written_content}
use Rattle.protect.specs.Algorithms.{algorithm_octets}
use Rattle.protect.specs.Written.{with_algorithm}
use Rattle.cert_maker.specs.Moments.{generalized_of}

-- the header of a plan, whose time is written as a GeneralizedTime
abbrev pub header_octets : HeaderPlan → List ℕ
header_octets p = element 0x30 (planned_content p (option_map generalized_of p.time))

abbrev pub message_octets : List ℕ → List ℕ → (List ℕ → Option (List ℕ)) → Option (List ℕ) → List ℕ
message_octets header body protect cert = element 0x30 (written_content header body (protect (protected_part header body)) cert)

-- The message of a planned header with this algorithm, a body, the protection that its protected part gets, and the one
-- certificate of extraCerts.
unfoldable pub planned_message : HeaderPlan → List ℕ → Option Algorithm → (List ℕ → Option (List ℕ)) → Option (List ℕ) → List ℕ
planned_message p body alg protect cert = message_octets (header_octets (with_algorithm p (option_map algorithm_octets alg))) body protect cert

-- a Name as a general name: directoryName, [4] (RFC 5280, 4.2.1.6)
abbrev pub directory_name : List ℕ → List ℕ
directory_name name = element 0xA4 name

-- Whom a reply is for: the sender of the message, or nobody where that can't be read.
abbrev pub recipient_for : List ℕ → List ℕ
recipient_for sender = if length sender == 0 then directory_name (element 0x30 []) else sender

-- The words that are drawn for a reply: the first 16 octets are its senderNonce, and the last 16 the salt of its MAC.
abbrev pub nonce_in : List ℕ → List ℕ
nonce_in words = take 16 words

abbrev pub salt_in : List ℕ → List ℕ
salt_in words = drop 16 words
