-- The credentials that an operator lists, as their file has them.
use Rattle.std.specs.Prelude.{◌<◌, ◌≤◌, ℕ, ◌+◌, List, [], ◌∷◌, ◌++◌, length, codes, Option, Some, None, Result, Ok, Err, ok_or, option_and_then, if◌then◌else◌}
use Rattle.std.specs.List.{list_any, AllByRecursion}
use Rattle.toml.specs.Data.{Data, Members, get_member}
use Rattle.deal_changes.specs.declared.change.Kind.{Kind}
use Rattle.deal_changes.specs.declared.change.Kind.TheVariants.{Mac, Lms}
use Rattle.deal_changes.specs.declared.change.Credential.{Credential}
use Rattle.deal_model.specs.Keys.{key_id}
use Rattle.deal_model.specs.Views.{is_entry}
use Rattle.deal_model.specs.Rules.{AreNew}
use Rattle.registry.specs.declared.fault.CredCause.{CredCause}
use Rattle.registry.specs.declared.fault.CredCause.TheVariants as causes
use Rattle.registry.specs.declared.fault.RegFault.{RegFault}
use Rattle.registry.specs.declared.fault.RegFault.TheVariants.{BadCount, BadCredential}
use Rattle.registry.specs.declared.forms.Kinds.{Kinds}
use Rattle.registry.specs.declared.forms.Kinds.TheVariants.{MacOrLms, MacAlone}
use Rattle.registry.specs.Words.{cause_word}
use Rattle.registry.specs.Forms.{text_in, hex_in, kind_among, key_in, rights_in, hold_in, tables_in, has_only}
use Rattle.registry.specs.Files.{◌>>=◌, told, file_in}

-- ---- one credential

-- what stands at the key of a cause
abbrev pub value_of : CredCause → Members → Option Data
value_of key t = get_member (cause_word key) t

-- the value of this form at a key, which is at fault where it has none
abbrev pub needed : {X : Type 0} → CredCause → (Data → Option X) → Members → Result X CredCause
needed key form t = ok_or (option_and_then form (value_of key t)) key

-- the kind that a table tells, of these
abbrev pub kind_told : Kinds → Members → Option Kind
kind_told kinds t = option_and_then (kind_among kinds) (value_of causes.Kind t)

-- the keys of a table of this kind; those of both kinds where it tells none
abbrev pub keys_for : Option Kind → List (List ℕ)
keys_for (Some Mac) = codes "kind" ∷ codes "reference" ∷ codes "secret" ∷ codes "rights" ∷ codes "hold" ∷ []
keys_for (Some Lms) = codes "kind" ∷ codes "key" ∷ codes "rights" ∷ codes "hold" ∷ []
keys_for None = codes "kind" ∷ codes "reference" ∷ codes "secret" ∷ codes "key" ∷ codes "rights" ∷ codes "hold" ∷ []

-- a table has only keys of its kind
abbrev pub known : Kinds → Members → Result (Unit {0}) CredCause
known kinds t = if has_only (keys_for (kind_told kinds t)) t then Ok tt else Err causes.Unknown

-- the identifier and the secret or key: a reference is told, a key has its own identifier
abbrev pub material_of : Kind → Members → Result (List ℕ × List ℕ) CredCause
material_of Mac t = do
  reference ← needed causes.Reference (text_in 1 64) t
  secret ← needed causes.Secret (hex_in 8 64) t
  Ok (reference, secret)
material_of Lms t = do
  key ← needed causes.Key key_in t
  Ok (key_id key, key)

-- The credential of a table, of one of these kinds, or the first cause at fault, by this order.
unfoldable pub credential_of : Kinds → Members → Result Credential CredCause
credential_of kinds t = do
  all_known ← known kinds t
  kind ← needed causes.Kind (kind_among kinds) t
  material ← material_of kind t
  rights ← needed causes.Rights rights_in t
  hold ← ok_or (hold_in (value_of causes.Hold t)) causes.Hold
  Ok (record { kind = kind; kid = material.0; material = material.1; rights = rights + (if hold then 16 else 0) })

-- ---- all credentials

-- it isn't there yet, by its kind and identifier
abbrev pub new : List Credential → Credential → Result Credential CredCause
new before c = if list_any (is_entry c.kind c.kid) before then Err causes.Duplicate else Ok c

-- the credential of a table that stands behind these
abbrev pub next_of : Kinds → List Credential → Members → Result Credential CredCause
next_of kinds before t = credential_of kinds t >>= new before

-- the credentials of tables, behind these; the index of a credential counts from 0
unfoldable pub behind : Kinds → List Credential → List Members → Result (List Credential) RegFault
behind kinds before [] = Ok before
behind kinds before (t ∷ more) = do
  c ← told (BadCredential (length before)) (next_of kinds before t)
  behind kinds (before ++ c ∷ []) more

-- the array `credential`, where no other key stands beside it
unfoldable pub listed : Members → Option (List Members)
listed t = if has_only (codes "credential" ∷ []) t then option_and_then (tables_in 1 256) (get_member (codes "credential") t) else None

-- the credentials of a table, or the first fault
unfoldable pub credentials_of : Members → Result (List Credential) RegFault
credentials_of t = ok_or (listed t) BadCount >>= behind MacOrLms []

-- the credentials of a file
abbrev pub credentials_in : List ℕ → Result (List Credential) RegFault
credentials_in file = file_in credentials_of file

-- the credentials of kind mac alone in the array `credential` of a table, whatever other keys stand beside it, or the first fault
unfoldable pub macs_in : Members → Result (List Credential) RegFault
macs_in t = ok_or (option_and_then (tables_in 1 256) (get_member (codes "credential") t)) BadCount >>= behind MacAlone []

-- ---- what is read

-- each is of its form, with its rights in five bits, and none stands twice: they may be listed where nothing is listed yet
pub record AreFit (list : List Credential) : Type 0 where
  pub rights : AllByRecursion (λ c. c.rights < 32) list
  pub new : AreNew [] list

-- The same of 1 to 256 credentials, so many as one change lists.
pub record AreListable (list : List Credential) : Type 0 where
  pub some : 1 ≤ length list
  pub most : length list ≤ 256
  pub fit : AreFit list
