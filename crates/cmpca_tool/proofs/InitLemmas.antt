-- What settings need to be before their keys are made, and what they are with the keys of a key file.
use Rattle.std.proofs.Common.{◌≡◌, ◌≢◌, ◌⊎◌, inl, inr, ℕ, ◌+◌, ◌<◌, ◌≤◌, ◌==◌, Bool, true, false, List, [], ◌∷◌, ◌++◌, length, take, drop, replicate, Some, None, refl, sym, ◌∙◌, ap, subst, arith}
use Rattle.std.specs.Prelude.{Option, Result, Err, ok_or, IfSome}
use Rattle.std.proofs.Common.{length-drop, length-take-le, eqb-true}
use Rattle.std.proofs.lemmas.List.{take_all}
use Rattle.std.proofs.lemmas.Bool.{cases_lt, and_parts}
use Rattle.std.specs.List.{list_all}
use Rattle.std.specs.Int.{w32, to_be_bytes}
use Rattle.lms_params.specs.Parameters.{OtsRow, ots_row, tree_height}
use Rattle.lms_tree.specs.Keys.{Secret, public_key}
use Rattle.hss_sig.specs.OneLevel.{hss_key}
use Rattle.deal_changes.specs.Spelling.{u32}
use Rattle.deal_changes.specs.declared.change.Settings.{Settings}
use Rattle.deal_model.specs.Keys.{tree_of, ots_of}
use Rattle.deal_model.specs.Rules.{Allowed}
use Rattle.desk.specs.Founded.{founding}
use Rattle.registry.specs.declared.fault.RegFault.{RegFault}
use Rattle.registry.specs.declared.fault.RegFault.TheVariants.{BadSetting}
use Rattle.registry.specs.declared.fault.RegFault.TheVariants as files
use Rattle.registry.specs.Files.{◌>>=◌, told}
use Rattle.registry.proofs.FileLemmas.{table_long}
use Rattle.registry.specs.Settings.{settings_in, settings_of, blank_key, IsBlank, AreUnmade, Fills, MayFound}
use Rattle.registry.proofs.FoundLemmas.{blank_levels, blank_tree, blank_ots}
use Rattle.reply_maker.specs.KeyFile.{IsKeyFile, issue_seed, issue_id, reply_seed, reply_id}
use Rattle.reply_maker.specs.Keys.{HasOwnSets, AreUsable, secret_of, issue_secret, reply_secret, known_identity, are_blank}
use Rattle.cmpca_tool.specs.Inits.{SaysSettings, with_keys}

-- ---- settings without keys

-- a key that isn't blank, with these type codes
abbrev some_key : ℕ → ℕ → List ℕ
some_key tree ots = u32 1 ++ (u32 tree ++ (u32 ots ++ replicate 48 1))

some_fills : (tree ots : ℕ) → Fills (blank_key tree ots) (some_key tree ots)
unfolding u32
some_fills tree ots = record { whole = refl; types = refl; filled = refl }

some_fills_key : (key : List ℕ) (b : IsBlank key) → Fills key (some_key b.tree b.ots)
some_fills_key key b = subst (λ (k : List ℕ). Fills k (some_key b.tree b.ots)) (sym b.blank) (some_fills b.tree b.ots)

blank_whole : (tree ots : ℕ) → length (blank_key tree ots) ≡ 60
unfolding u32
blank_whole tree ots = refl

own_sets : (key : List ℕ) → IsBlank key → HasOwnSets key
own_sets key b =
    let is_tree : tree_of (blank_key b.tree b.ots) ≡ b.tree = blank_tree b.tree b.ots (omega (arith, b.tree_in.1)) in
    let is_ots : ots_of (blank_key b.tree b.ots) ≡ b.ots = blank_ots b.tree b.ots (omega (arith, b.ots_in.1)) in
    subst (λ (k : List ℕ). HasOwnSets k) (sym b.blank) record {
      whole = blank_whole b.tree b.ots;
      levels = blank_levels b.tree b.ots;
      tree_low = rw is_tree b.tree_in.0;
      tree_high = rw is_tree b.tree_in.1;
      ots_low = rw is_ots b.ots_in.0;
      ots_high = rw is_ots b.ots_in.1;
    }

pub usable : (s : Settings) → MayFound s → AreUnmade s → AreUsable s
usable s may u =
    let a = may 0 (some_key u.issue_key.tree u.issue_key.ots) (some_key u.reply_key.tree u.reply_key.ots) (omega arith) (some_fills_key s.issue_key u.issue_key) (some_fills_key s.reply_key u.reply_key) in
    record {
      time = rw u.time (omega arith);
      name = a.form.is_ca_name;
      issue_key = own_sets s.issue_key u.issue_key;
      reply_key = own_sets s.reply_key u.reply_key;
      wait_low = a.holds.wait_low;
      wait_high = a.holds.wait_high;
      skew_high = a.holds.skew_high;
      rounds_low = a.holds.rounds_low;
      rounds_high = a.holds.rounds_high;
      check_low = a.holds.check_low;
      check_high = a.holds.check_high;
      days_low = a.holds.days_low;
      days_high = a.holds.days_high;
    }

zeros_behind : (tree ots : ℕ) → drop 12 (blank_key tree ots) ≡ replicate 48 0
unfolding u32
zeros_behind tree ots = refl

pub blank : (s : Settings) → AreUnmade s → are_blank s ≡ true
unfolding known_identity
blank s u =
    rw (u.issue_key.blank, u.reply_key.blank, zeros_behind u.issue_key.tree u.issue_key.ots, zeros_behind u.reply_key.tree u.reply_key.ots) refl

-- ---- settings with keys

-- 5, 6 and 7 are types of trees, and 1 to 4 of one-time signatures
three : (tree : ℕ) → 5 ≤ tree → tree ≤ 7 → (tree ≡ 5) ⊎ ((tree ≡ 6) ⊎ (tree ≡ 7))
three tree low high = elim (cases_lt 5 tree) [
  | inl above ↦ elim (cases_lt 6 tree) [ inl more ↦ inr (inr (omega arith)) | inr less ↦ inr (inl (omega arith)) ]
  | inr less ↦ inl (omega arith)
]

height_of : (tree : ℕ) → (5 ≤ tree) × (tree ≤ 7) → (h : ℕ) × (tree_height tree ≡ Some h)
height_of tree bounds = elim (three tree bounds.0 bounds.1) [
  | inl is ↦ (5, ap tree_height is)
  | inr more ↦ elim more [ inl is ↦ (10, ap tree_height is) | inr is ↦ (15, ap tree_height is) ]
]

four : (ots : ℕ) → 1 ≤ ots → ots ≤ 4 → (ots ≡ 1) ⊎ ((ots ≡ 2) ⊎ ((ots ≡ 3) ⊎ (ots ≡ 4)))
four ots low high = elim (cases_lt 1 ots) [
  | inl above ↦ elim (cases_lt 2 ots) [
    | inl more ↦ elim (cases_lt 3 ots) [ inl most ↦ inr (inr (inr (omega arith))) | inr less ↦ inr (inr (inl (omega arith))) ]
    | inr less ↦ inr (inl (omega arith))
  ]
  | inr less ↦ inl (omega arith)
]

row_of : (ots : ℕ) → (1 ≤ ots) × (ots ≤ 4) → (row : OtsRow) × (ots_row ots ≡ Some row)
row_of ots bounds = elim (four ots bounds.0 bounds.1) [
  | inl is ↦ (record { w = 1; p = 265; ls = 7 }, ap ots_row is)
  | inr more ↦ elim more [
    | inl is ↦ (record { w = 2; p = 133; ls = 6 }, ap ots_row is)
    | inr most ↦ elim most [
      | inl is ↦ (record { w = 4; p = 67; ls = 4 }, ap ots_row is)
      | inr is ↦ (record { w = 8; p = 34; ls = 0 }, ap ots_row is)
    ]
  ]
]

-- a public key with known sets
key_is : (s : Secret) (h : ℕ) (row : OtsRow) → tree_height s.tree ≡ Some h → ots_row s.ots ≡ Some row → hss_key s ≡ to_be_bytes w32 1 ++ public_key h row s
unfolding hss_key
key_is s h row height known = rw (height, known) refl

front_is : (s : Secret) (h : ℕ) (row : OtsRow) → take 12 (to_be_bytes w32 1 ++ public_key h row s) ≡ take 12 (blank_key s.tree s.ots)
unfolding public_key u32
front_is s h row = refl

-- only zeros are all zeros
zeros_only : (xs : List ℕ) → list_all (λ n. n == 0) xs ≡ true → xs ≡ replicate (length xs) 0
zeros_only [] h = refl
zeros_only (x ∷ xs) h =
    let parts = and_parts (x == 0) (list_all (λ n. n == 0) xs) h in
    let first : x ≡ 0 = eqb-true x 0 parts.0 in
    let rest : xs ≡ replicate (length xs) 0 = zeros_only xs parts.1 in
    ap (λ (n : ℕ). n ∷ xs) first ∙ ap (λ (l : List ℕ). 0 ∷ l) rest

front_zeros : (xs ys : List ℕ) → list_all (λ n. n == 0) (xs ++ ys) ≡ true → list_all (λ n. n == 0) xs ≡ true
front_zeros [] ys h = refl
front_zeros (x ∷ xs) ys h =
    let parts = and_parts (x == 0) (list_all (λ n. n == 0) (xs ++ ys)) h in
    let first : (x == 0) ≡ true = parts.0 in
    let rest : list_all (λ n. n == 0) xs ≡ true = front_zeros xs ys parts.1 in
    rw (first, rest) refl

not_true : (b : Bool) → (b ≡ true → ⊥) → b ≡ false
not_true true h = absurd (h refl)
not_true false h = refl

behind_filled : (s : Secret) (h : ℕ) (row : OtsRow) → length s.id ≡ 16 → s.id ≢ replicate 16 0 → list_all (λ n. n == 0) (drop 12 (to_be_bytes w32 1 ++ public_key h row s)) ≡ false
unfolding public_key
behind_filled s h row size given = not_true _ (λ zeros. given (zeros_only s.id (front_zeros s.id _ zeros) ∙ ap (λ (n : ℕ). replicate n 0) size))

-- the public key of a secret fills the blank key of its sets
fills : (seed id key : List ℕ) → IsBlank key → length id ≡ 16 → id ≢ replicate 16 0 → length (hss_key (secret_of seed id key)) ≡ 60 → Fills key (hss_key (secret_of seed id key))
fills seed id key b size given whole =
    let s = secret_of seed id key in
    let is_tree : s.tree ≡ b.tree = ap tree_of b.blank ∙ blank_tree b.tree b.ots (omega (arith, b.tree_in.1)) in
    let is_ots : s.ots ≡ b.ots = ap ots_of b.blank ∙ blank_ots b.tree b.ots (omega (arith, b.ots_in.1)) in
    let height = height_of b.tree b.tree_in in
    let row = row_of b.ots b.ots_in in
    let is : hss_key s ≡ to_be_bytes w32 1 ++ public_key height.0 row.0 s = key_is s height.0 row.0 (ap tree_height is_tree ∙ height.1) (ap ots_row is_ots ∙ row.1) in
    subst (λ (k : List ℕ). Fills key k) (sym is) record {
      whole = ap length (sym is) ∙ whole;
      types = front_is s height.0 row.0 ∙ ap (take 12) (ap (λ (t : ℕ). blank_key t s.ots) is_tree ∙ ap (λ (o : ℕ). blank_key b.tree o) is_ots ∙ sym b.blank);
      filled = behind_filled s height.0 row.0 size given;
    }

part_size : (n : ℕ) (xs : List ℕ) → n ≤ length xs → length (take n xs) ≡ n
part_size n xs fits = length-take-le n xs fits

-- the settings with the keys of a key file may found a service
pub may_found : (file : List ℕ) (s : Settings) (now : ℕ) → MayFound s → AreUnmade s → IsKeyFile file → now ≤ 250000000000
    → length (with_keys file s).issue_key ≡ 60 → length (with_keys file s).reply_key ≡ 60 → Allowed [] (founding (with_keys file s) now)
unfolding issue_secret reply_secret
may_found file s now may u form bound issue reply =
    may now _ _ bound
    (fills (issue_seed file) (issue_id file) s.issue_key u.issue_key (part_size 16 (drop 32 file) (omega (arith, form.size, length-drop 32 file))) form.issue_id_given issue)
    (fills (reply_seed file) (reply_id file) s.reply_key u.reply_key (part_size 16 (drop 80 file) (omega (arith, form.size, length-drop 80 file))) form.reply_id_given reply)

-- ---- the file of settings

-- more octets than the limit are no table
long_said : (file : List ℕ) → 65536 < length file → settings_in file ≡ Err files.BadToml
long_said file long = ap (λ t. ok_or t files.BadToml >>= (λ m. told BadSetting (settings_of m))) (table_long file long)

front_said : (all : List ℕ) → settings_in (take (65536 + 1) all) ≡ settings_in all
front_said all = elim (cases_lt 65536 (length all)) [
  | inl long ↦ long_said (take (65536 + 1) all) (omega (arith, length-take-le (65536 + 1) all (omega arith))) ∙ sym (long_said all long)
  | inr short ↦ ap settings_in (take_all (65536 + 1) all (omega arith))
]

pub said : (left : Option (List ℕ)) (octets : List ℕ) (answer : Result Settings RegFault) → IfSome left (λ all. octets ≡ take (65536 + 1) all) → settings_in octets ≡ answer → SaysSettings left answer
said None octets answer read tells = record { file = octets; whole = tt; tells = tells }
said (Some all) octets answer read tells =
    record { file = all; whole = refl; tells = sym (front_said all) ∙ sym (ap settings_in read) ∙ tells }
