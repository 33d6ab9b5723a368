-- The table of a file, by what the crate `toml` says of its text.
use Rattle.std.proofs.Common.{◌≡◌, ℕ, ◌<◌, ◌≤◌, List, length, Some, None, arith, IsUtf8, inl, inr}
use Rattle.std.specs.Str.{is_utf8}
use Rattle.std.proofs.lemmas.Bool.{cases_Bool}
use Rattle.std.proofs.lemmas.Bool.Decides.{nat_tests}
use Rattle.std.proofs.lemmas.Str.{IsUtf8-from_is_utf8, is_utf8-from_IsUtf8}
use Rattle.toml.specs.Data.{Members}
use Rattle.toml.specs.Parse.{parse_document}
use Rattle.registry.specs.Files.{table_in}

pub table_long : (file : List ℕ) → 65536 < length file → table_in file ≡ None
unfolding table_in
table_long file h = grind (arith, nat_tests)

pub table_read : (file : List ℕ) (t : Members) → length file ≤ 65536 → IsUtf8 file → parse_document file ≡ Some t → table_in file ≡ Some t
unfolding table_in
table_read file t h u e = rw (is_utf8-from_IsUtf8 file u) (grind (arith, nat_tests, e))

pub table_none : (file : List ℕ) → length file ≤ 65536 → (IsUtf8 file → parse_document file ≡ None) → table_in file ≡ None
unfolding table_in
table_none file h n = elim (cases_Bool (is_utf8 file)) [
  | inl is ↦ rw (n (IsUtf8-from_is_utf8 file is)) (grind (arith, nat_tests))
  | inr not_is ↦ rw not_is (grind (arith, nat_tests))
]
