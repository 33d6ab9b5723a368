-- What a file is, and what its reader answers.
use Rattle.std.specs.Prelude.{◌≡◌, ℕ, ◌&&◌, nat_le, List, length, Option, None, Result, Ok, Err, ok_or, if◌then◌else◌}
use Rattle.std.specs.Str.{is_utf8}
use Rattle.toml.specs.Data.{Members}
use Rattle.toml.specs.Parse.{parse_document}
use Rattle.registry.specs.declared.fault.RegFault.{RegFault}
use Rattle.registry.specs.declared.fault.RegFault.TheVariants.{BadToml, BadCount, BadCredential, BadSetting, NoMemory}

-- reading stops at the first fault
infixl 10 ◌>>=◌
abbrev pub ◌>>=◌ : {A B F : Type 0} → Result A F → (A → Result B F) → Result B F
Ok x >>= f = f x
Err e >>= f = Err e

-- the same, with the fault told so
abbrev pub told : {X F G : Type 0} → (F → G) → Result X F → Result X G
told fault (Ok x) = Ok x
told fault (Err f) = Err (fault f)

-- the table of a file: at most 65,536 octets of TOML, which is UTF-8
unfoldable pub table_in : List ℕ → Option Members
table_in file = if nat_le (length file) 65536 && is_utf8 file then parse_document file else None

-- what is read of the table of a file
abbrev pub file_in : {X : Type 0} → (Members → Result X RegFault) → List ℕ → Result X RegFault
file_in read file = ok_or (table_in file) BadToml >>= read

-- ---- what a reader of the code answered, seen by view, is what reading gives, unless memory ran out

abbrev pub Fails : {Y : Type 0} → RegFault → Result Y RegFault → Type 0
Fails BadToml read = read ≡ Err BadToml
Fails BadCount read = read ≡ Err BadCount
Fails (BadCredential index cause) read = read ≡ Err (BadCredential index cause)
Fails (BadSetting key) read = read ≡ Err (BadSetting key)
Fails NoMemory read = Unit {0}

abbrev pub Gives : {X Y : Type 0} → (X → Y) → Result X RegFault → Result Y RegFault → Type 0
Gives view (Ok x) read = read ≡ Ok (view x)
Gives view (Err f) read = Fails f read

-- the same of what takes no memory
abbrev pub Reads : {X Y F : Type 0} → (X → Y) → Result X F → Result Y F → Type 0
Reads view (Ok x) read = read ≡ Ok (view x)
Reads view (Err f) read = read ≡ Err f
