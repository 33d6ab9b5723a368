-- The words of the command line, as lists of octets.
use Rattle.std.specs.Prelude.{ℕ, ◌/◌, Bool, true, false, List, [], ◌∷◌, Option, Some, None, option_map, length, nat_le, ◌&&◌, if◌then◌else◌, codes}
use Rattle.std.specs.Str.{bytes_eq}
use Rattle.std.specs.Result.{result_ok}
use Rattle.hex.specs.Hex.{decode_of}
use Rattle.deal_changes.specs.declared.change.Kind.TheVariants.{Mac, Lms}
use Rattle.cmpca_tool.specs.Sources.{message_most, file_most, key_most}
use Rattle.cmpca_tool.specs.declared.words.Command.{Command}
use Rattle.cmpca_tool.specs.declared.words.Command.TheVariants.{Verify, Init, Take, Show, Enlist, Dismiss, Release, Deny}

-- the octets that the digits of a word stand for, in hex of either case, where there are so many
abbrev pub octets_of : ℕ → ℕ → List ℕ → Option (List ℕ)
octets_of least most word = if nat_le least (length word / 2) && nat_le (length word / 2) most then result_ok (decode_of word) else None

-- the reference of a shared secret: 1 to 64 octets
abbrev pub reference_of : List ℕ → Option (List ℕ)
reference_of word = if nat_le 1 (length word) && nat_le (length word) 64 then Some word else None

-- to dismiss a credential: by its reference, or by the 20 octets of its key's identifier in 40 digits
abbrev pub dismissal_of : List ℕ → List ℕ → Option Command
dismissal_of kind id =
    if bytes_eq kind (codes "mac") then option_map (Dismiss Mac) (reference_of id)
    else (if bytes_eq kind (codes "lms") then option_map (Dismiss Lms) (octets_of 20 20 id) else None)

-- an order on the request of a transaction, whose identifier has 1 to 64 octets
abbrev pub order_of : List ℕ → List ℕ → Option Command
order_of verb word =
    if bytes_eq verb (codes "release") then option_map Release (octets_of 1 64 word)
    else (if bytes_eq verb (codes "deny") then option_map Deny (octets_of 1 64 word) else None)

-- a word that stands for itself
abbrev pub lone_of : List ℕ → Option Command
lone_of verb =
    if bytes_eq verb (codes "init") then Some Init
    else (if bytes_eq verb (codes "take") then Some Take
    else (if bytes_eq verb (codes "show") then Some Show else (if bytes_eq verb (codes "enlist") then Some Enlist else None)))

-- What is asked for of a journal: `init`, `take`, `show`, `enlist`, `dismiss KIND ID`, `release TID` or `deny TID`.
abbrev pub journal_command_of : List (List ℕ) → Option Command
journal_command_of (verb ∷ []) = lone_of verb
journal_command_of (verb ∷ word ∷ []) = order_of verb word
journal_command_of (verb ∷ kind ∷ id ∷ []) = if bytes_eq verb (codes "dismiss") then dismissal_of kind id else None
journal_command_of _ = None

-- What the words ask for: `verify SECRET`, with a secret of 8 to 64 octets, or JOURNAL, KEY and what is asked for of the
-- journal; None where they are of no form. JOURNAL and KEY are any words.
abbrev pub command_of : List (List ℕ) → Option Command
command_of (verb ∷ word ∷ []) = if bytes_eq verb (codes "verify") then option_map Verify (octets_of 8 64 word) else None
command_of (journal ∷ key ∷ asked) = journal_command_of asked
command_of _ = None

-- which commands read the input, which the key file, which draw words, which read the disk, and which may change what it holds
abbrev pub reads_input : Option Command → Bool
reads_input (Some (Verify secret)) = true
reads_input (Some Init) = true
reads_input (Some Take) = true
reads_input (Some Enlist) = true
reads_input _ = false

abbrev pub reads_key : Option Command → Bool
reads_key (Some Init) = true
reads_key (Some Take) = true
reads_key _ = false

abbrev pub draws_words : Option Command → Bool
draws_words (Some Take) = true
draws_words _ = false

abbrev pub reads_disk : Option Command → Bool
reads_disk (Some (Verify secret)) = false
reads_disk None = false
reads_disk _ = true

abbrev pub changes_history : Option Command → Bool
changes_history (Some Init) = true
changes_history (Some Take) = true
changes_history (Some Enlist) = true
changes_history (Some (Dismiss kind id)) = true
changes_history (Some (Release tid)) = true
changes_history (Some (Deny tid)) = true
changes_history _ = false

-- how many octets of the input, and of the key file, a command reads at most
abbrev pub input_most : Option Command → ℕ
input_most (Some (Verify secret)) = message_most
input_most (Some Init) = file_most
input_most (Some Take) = message_most
input_most (Some Enlist) = file_most
input_most _ = 0

abbrev pub key_file_most : Option Command → ℕ
key_file_most (Some Init) = key_most
key_file_most (Some Take) = key_most
key_file_most _ = 0
