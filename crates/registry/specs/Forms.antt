-- The forms of a value in a file (TOML 1.1). Each says what a value of the form gives; a value of another form gives nothing.
use Rattle.std.specs.Prelude.{◌≡◌, ℕ, ◌+◌, ◌*◌, ℤ, pos, negsuc, Bool, false, ◌&&◌, ◌==◌, nat_le, List, [], ◌∷◌, length, Option, Some, None, option_map, count_by, codes, if◌then◌else◌}
use Rattle.std.specs.List.{list_any, list_all}
use Rattle.std.specs.Result.{result_ok}
use Rattle.std.specs.Str.{bytes_eq}
use Rattle.hex.specs.Hex.{decode_of}
use Rattle.toml.specs.Data.{Data, Items, no_items, item, string, Members, no_members, member, as_str, as_integer, as_bool, as_array, as_table}
use Rattle.deal_changes.specs.Bind.{◌>>=◌}
use Rattle.deal_changes.specs.declared.change.Kind.{Kind}
use Rattle.deal_changes.specs.declared.change.Kind.TheVariants.{Mac, Lms}
use Rattle.registry.specs.declared.forms.Kinds.{Kinds}
use Rattle.registry.specs.declared.forms.Kinds.TheVariants.{MacOrLms, MacAlone}
use Rattle.deal_model.specs.Keys.{levels_of, tree_of, ots_of}

-- ---- texts, numbers and octets

-- a list, where it is so long
abbrev pub if_sized : {X : Type 0} → ℕ → ℕ → List X → Option (List X)
if_sized least most list = if nat_le least (length list) && nat_le (length list) most then Some list else None

-- a text of so many octets
abbrev pub text_in : ℕ → ℕ → Data → Option (List ℕ)
text_in least most d = as_str d >>= if_sized least most

-- a number that is not negative
abbrev pub natural : ℤ → Option ℕ
natural (pos n) = Some n
natural (negsuc n) = None

-- a number within these bounds
abbrev pub number_in : ℕ → ℕ → Data → Option ℕ
number_in least most d = do
  z ← as_integer d
  n ← natural z
  if nat_le least n && nat_le n most then Some n else None

-- so many octets, in hex digits of either case (RFC 4648, 8)
abbrev pub hex_in : ℕ → ℕ → Data → Option (List ℕ)
hex_in least most d = do
  digits ← as_str d
  octets ← result_ok (decode_of digits)
  if_sized least most octets

-- ---- what is said of a credential

-- the kind of a word
abbrev pub kind_of : List ℕ → Option Kind
kind_of word = if bytes_eq word (codes "mac") then Some Mac else (if bytes_eq word (codes "lms") then Some Lms else None)

-- how a credential protects a message
abbrev pub kind_in : Data → Option Kind
kind_in d = as_str d >>= kind_of

-- the kind, where it is one of these
abbrev pub of_kinds : Kinds → Kind → Option Kind
of_kinds MacOrLms kind = Some kind
of_kinds MacAlone Mac = Some Mac
of_kinds MacAlone Lms = None

-- how a credential of one of these kinds protects a message
abbrev pub kind_among : Kinds → Data → Option Kind
kind_among kinds d = kind_in d >>= of_kinds kinds

-- one of these kinds
abbrev pub IsAmong : Kinds → Kind → Type 0
IsAmong kinds kind = of_kinds kinds kind ≡ Some kind

-- a key has 1 to 8 levels, and known types of its first tree and of that tree's one-time signatures (RFC 8554, 5.1, 4.1 and 6)
abbrev pub has_known_types : List ℕ → Bool
has_known_types key = nat_le 1 (levels_of key) && nat_le (levels_of key) 8 && nat_le 5 (tree_of key) && nat_le (tree_of key) 9 && nat_le 1 (ots_of key) && nat_le (ots_of key) 4

-- an HSS/LMS key in hex digits: 60 octets (RFC 8554, 6.1)
abbrev pub key_in : Data → Option (List ℕ)
key_in d = do
  key ← hex_in 60 60 d
  if has_known_types key then Some key else None

-- the items of an array
abbrev pub data_of : Items → List Data
data_of no_items = []
data_of (item d more) = d ∷ data_of more

-- whether a value is this word
abbrev pub is_word : List ℕ → Data → Bool
is_word word (string text) = bytes_eq text word
is_word word _ = false

-- how many of them are this word
abbrev pub times : List ℕ → List Data → ℕ
times word items = count_by (is_word word) items

-- the four rights, each named so often, among so many items: each at most once, and nothing else
unfoldable pub rights_sum : ℕ → ℕ → ℕ → ℕ → ℕ → Option ℕ
rights_sum enrol vouch wrap revoke items =
    if nat_le enrol 1 && nat_le vouch 1 && nat_le wrap 1 && nat_le revoke 1 && (enrol + vouch + wrap + revoke == items)
    then Some (enrol + 2 * vouch + 4 * wrap + 8 * revoke) else None

-- the rights that these values name, by the bits of a credential
unfoldable pub rights_of : List Data → Option ℕ
rights_of items = rights_sum (times (codes "enrol") items) (times (codes "vouch") items) (times (codes "wrap") items) (times (codes "revoke") items) (length items)

-- rights, as an array of their words
abbrev pub rights_in : Data → Option ℕ
rights_in d = option_map data_of (as_array d) >>= rights_of

-- whether the requests of a credential wait for an order; they don't where nothing is said
abbrev pub hold_in : Option Data → Option Bool
hold_in None = Some false
hold_in (Some d) = as_bool d

-- ---- tables

-- the tables that all of the values are
abbrev pub tables_of : List Data → Option (List Members)
tables_of [] = Some []
tables_of (d ∷ more) = do
  t ← as_table d
  tables ← tables_of more
  Some (t ∷ tables)

-- so many tables, in an array
unfoldable pub tables_in : ℕ → ℕ → Data → Option (List Members)
tables_in least most d = do
  items ← as_array d
  tables ← tables_of (data_of items)
  if_sized least most tables

-- ---- keys

-- the keys of a table
abbrev pub keys_of : Members → List (List ℕ)
keys_of no_members = []
keys_of (member key d more) = key ∷ keys_of more

-- whether a key is one of these words
abbrev pub is_among : List (List ℕ) → List ℕ → Bool
is_among words key = list_any (bytes_eq key) words

-- whether each key of a table is one of these
unfoldable pub has_only : List (List ℕ) → Members → Bool
has_only words t = list_all (is_among words) (keys_of t)
