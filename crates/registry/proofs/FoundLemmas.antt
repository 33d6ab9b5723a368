-- Settings that were read may found a service, once their keys are made.
use Rattle.std.proofs.Common.{◌≢◌, ◌%◌, append-nil, eq-eqb, lit<, lit≤, ◌≡◌, ℕ, ◌+◌, ◌<◌, ◌≤◌, ◌^◌, true, List, [], ◌∷◌, ◌++◌, length, take, drop, Some, Ok, IsTrue, refl, sym, subst, ap, ◌∙◌, arith}
use Rattle.std.specs.Int.{w32, from_be_bytes}
use Rattle.std.specs.Str.{is_utf8}
use Rattle.std.proofs.lemmas.Bool.Decides.{nat_tests}
use Rattle.std.proofs.lemmas.List.{length-append, take-take, drop-take}
use Rattle.std.proofs.lemmas.Nat.{from_be_bytes-to_be_bytes_4}
use Rattle.der_base.specs.Element.{element}
use Rattle.der_base.specs.Reading.{part, element_at}
use Rattle.der_base.proofs.ElementLemmas.{element_again}
use Rattle.der_base.proofs.LengthLemmas.{length_octets-one}
use Rattle.asn_types.specs.Name as names
use Rattle.deal_changes.specs.declared.change.Settings.{Settings}
use Rattle.deal_changes.specs.Spki.{content_at, only_at, is_name_text, common_name, is_ca_name}
use Rattle.deal_changes.specs.Spelling.{u32, u64, settings}
use Rattle.deal_model.specs.Keys.{levels_of, tree_of, ots_of}
use Rattle.deal_model.specs.Rules.{IsOwnKey}
use Rattle.registry.specs.declared.settings.Fields.{Fields}
use Rattle.registry.specs.Settings.{blank_key, settings_with, AreWithin, Fills, MayFound}

-- ---- the name

-- an element of a short content takes two octets more
length-element : (tag : ℕ) (content : List ℕ) → length content < 128 → length (element tag content) ≡ length content + 2
unfolding element
length-element tag content h = rw (length_octets-one (length content) h) (omega arith)

-- an element alone is read as its content
only_element : (tag : ℕ) (content : List ℕ) → tag % 32 ≢ 31 → length content < 128 → only_at tag (element tag content) ≡ Some content
unfolding only_at content_at
only_element tag content low short =
    let read : element_at (element tag content) ≡ Ok (part tag content, []) = rw append-nil at (element_again tag content [] low (omega arith)) in
    rw (read, eq-eqb tag tag refl) refl

-- an element in front of octets is read as its content, and they are left
content_element : (tag : ℕ) (content rest : List ℕ) → tag % 32 ≢ 31 → length content < 128 → content_at tag (element tag content ++ rest) ≡ Some (content, rest)
unfolding content_at
content_element tag content rest low short = rw (element_again tag content rest low (omega arith), eq-eqb tag tag refl) refl

-- the name that is written of a text is one that the service may have
pub ca_name : (text : List ℕ) → 1 ≤ length text → length text ≤ 58 → IsTrue (is_utf8 text) → is_ca_name (names.common_name text) ≡ true
unfolding is_ca_name common_name is_name_text
ca_name text low high u =
    let oid : List ℕ = 0x55 ∷ 0x04 ∷ 0x03 ∷ [] in
    let a : length (element 0x06 oid) ≡ 5 = length-element 0x06 oid (lit< tt) in
    let b : length (element 0x0C text) ≡ length text + 2 = length-element 0x0C text (omega arith) in
    let inner : List ℕ = element 0x06 oid ++ element 0x0C text in
    let c : length inner ≡ length text + 7 = length-append (element 0x06 oid) (element 0x0C text) ∙ omega arith in
    let d : length (element 0x30 inner) ≡ length inner + 2 = length-element 0x30 inner (omega arith) in
    let e : length (element 0x31 (element 0x30 inner)) ≡ length (element 0x30 inner) + 2 = length-element 0x31 (element 0x30 inner) (omega arith) in
    rw (
      only_element 0x30 (element 0x31 (element 0x30 inner)) (omega arith) (omega arith),
      only_element 0x31 (element 0x30 inner) (omega arith) (omega arith),
      only_element 0x30 inner (omega arith) (omega arith),
      content_element 0x06 oid (element 0x0C text) (omega arith) (lit< tt),
      only_element 0x0C text (omega arith) (omega arith),
      u,
    ) (grind (arith, nat_tests))

pub name_short : (text : List ℕ) → length text ≤ 58 → length (names.common_name text) ≤ 71
name_short text high =
    let oid : List ℕ = 0x55 ∷ 0x04 ∷ 0x03 ∷ [] in
    let a : length (element 0x06 oid) ≡ 5 = length-element 0x06 oid (lit< tt) in
    let b : length (element 0x0C text) ≡ length text + 2 = length-element 0x0C text (omega arith) in
    let inner : List ℕ = element 0x06 oid ++ element 0x0C text in
    let c : length inner ≡ length text + 7 = length-append (element 0x06 oid) (element 0x0C text) ∙ omega arith in
    let d : length (element 0x30 inner) ≡ length inner + 2 = length-element 0x30 inner (omega arith) in
    let e : length (element 0x31 (element 0x30 inner)) ≡ length (element 0x30 inner) + 2 = length-element 0x31 (element 0x30 inner) (omega arith) in
    let f : length (element 0x30 (element 0x31 (element 0x30 inner))) ≡ length (element 0x31 (element 0x30 inner)) + 2 = length-element 0x30 (element 0x31 (element 0x30 inner)) (omega arith) in
    omega arith

-- ---- the keys

pub blank_levels : (tree ots : ℕ) → levels_of (blank_key tree ots) ≡ 1
unfolding levels_of u32
blank_levels tree ots = refl

pub blank_tree : (tree ots : ℕ) → tree < 2 ^ 32 → tree_of (blank_key tree ots) ≡ tree
unfolding tree_of u32
blank_tree tree ots h = from_be_bytes-to_be_bytes_4 tree h

pub blank_ots : (tree ots : ℕ) → ots < 2 ^ 32 → ots_of (blank_key tree ots) ≡ ots
unfolding ots_of u32
blank_ots tree ots h = from_be_bytes-to_be_bytes_4 ots h

-- keys that begin alike have the same level and type codes
same_levels : (a b : List ℕ) → take 12 a ≡ take 12 b → levels_of a ≡ levels_of b
unfolding levels_of
same_levels a b e = ap (from_be_bytes w32) (sym (take-take 4 12 a (lit≤ tt)) ∙ ap (take 4) e ∙ take-take 4 12 b (lit≤ tt))

middle : (a : List ℕ) → take 4 (drop 4 (take 12 a)) ≡ take 4 (drop 4 a)
middle a = ap (take 4) (drop-take 4 8 a) ∙ take-take 4 8 (drop 4 a) (lit≤ tt)

same_tree : (a b : List ℕ) → take 12 a ≡ take 12 b → tree_of a ≡ tree_of b
unfolding tree_of
same_tree a b e = ap (from_be_bytes w32) (sym (middle a) ∙ ap (λ x. take 4 (drop 4 x)) e ∙ middle b)

same_ots : (a b : List ℕ) → take 12 a ≡ take 12 b → ots_of a ≡ ots_of b
unfolding ots_of
same_ots a b e = ap (from_be_bytes w32) (sym (drop-take 8 4 a) ∙ ap (drop 8) e ∙ drop-take 8 4 b)

own_key : (tree ots : ℕ) (key : List ℕ) → (5 ≤ tree) × (tree ≤ 7) → (1 ≤ ots) × (ots ≤ 4) → Fills (blank_key tree ots) key → IsOwnKey key
own_key tree ots key t o f =
    let levels : levels_of key ≡ 1 = same_levels key (blank_key tree ots) f.types ∙ blank_levels tree ots in
    let is_tree : tree_of key ≡ tree = same_tree key (blank_key tree ots) f.types ∙ blank_tree tree ots (omega (arith, t.1)) in
    let is_ots : ots_of key ≡ ots = same_ots key (blank_key tree ots) f.types ∙ blank_ots tree ots (omega (arith, o.1)) in
    record { levels = levels; tree_low = rw is_tree t.0; tree_high = rw is_tree t.1; ots_low = rw is_ots o.0; ots_high = rw is_ots o.1; filled = f.filled }

-- ---- the change

short_spelling : (s : Settings) → length s.name ≤ 71 → length s.issue_key ≡ 60 → length s.reply_key ≡ 60 → length (settings s) ≤ 1000
unfolding u32 u64
short_spelling s n i r = simp length-append (omega arith)

pub may_found : (f : Fields) → AreWithin f → MayFound (settings_with f)
may_found f w now issue reply bound fi fr =
    let short : length (names.common_name f.name.now) ≤ 71 = name_short f.name.now w.name_high in
    let size = short_spelling (record (settings_with f) { time = now; issue_key = issue; reply_key = reply }) short fi.whole fr.whole in
    record {
      form = record {
        time = omega arith;
        name = omega arith;
        is_ca_name = ca_name f.name.now w.name_low w.name_high w.name_text;
        issue_key = fi.whole;
        reply_key = fr.whole;
        wait = omega (arith, w.wait.1);
        skew = omega (arith, w.skew.1);
        rounds = omega (arith, w.rounds.1);
        check_after = omega (arith, w.check_after.1);
        days = omega (arith, w.days.1);
      };
      later = omega arith;
      bounded = bound;
      room = lit< tt;
      size = omega (arith, size);
      opening = refl;
      holds = record {
        issue_key = own_key f.issue_tree f.issue_ots issue w.issue_tree w.issue_ots fi;
        reply_key = own_key f.reply_tree f.reply_ots reply w.reply_tree w.reply_ots fr;
        wait_low = w.wait.0;
        wait_high = w.wait.1;
        skew_high = w.skew.1;
        rounds_low = w.rounds.0;
        rounds_high = w.rounds.1;
        check_low = w.check_after.0;
        check_high = w.check_after.1;
        days_low = w.days.0;
        days_high = w.days.1;
      };
    }

-- the same of settings that were made of these parts
pub made : (f : Fields) (name issue_key reply_key : List ℕ) → AreWithin f → name ≡ names.common_name f.name.now → issue_key ≡ blank_key f.issue_tree f.issue_ots
    → reply_key ≡ blank_key f.reply_tree f.reply_ots
    → MayFound (record { time = 0; name = name; issue_key = issue_key; reply_key = reply_key; wait = f.wait; skew = f.skew; rounds = f.rounds; check_after = f.check_after; days = f.days })
made f name issue_key reply_key w n i r =
    let e : record { time = 0; name = name; issue_key = issue_key; reply_key = reply_key; wait = f.wait; skew = f.skew; rounds = f.rounds; check_after = f.check_after; days = f.days }
    ≡ settings_with f = rw (n, i, r) refl in
    subst MayFound (sym e) (may_found f w)
