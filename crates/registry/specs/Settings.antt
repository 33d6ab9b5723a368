-- The settings of a service, as its file has them.
use Rattle.std.specs.Prelude.{◌≡◌, ◌≤◌, ◌==◌, false, length, take, drop, IsTrue, ℕ, List, [], ◌∷◌, ◌++◌, replicate, map, Option, Result, Ok, Err, ok_or, option_and_then, if◌then◌else◌}
use Rattle.std.specs.List.{list_all}
use Rattle.std.specs.Str.{is_utf8}
use Rattle.toml.specs.Data.{Data, Members, get_member}
use Rattle.asn_types.specs.Name.{common_name}
use Rattle.deal_changes.specs.Spelling.{u32}
use Rattle.deal_changes.specs.declared.change.Settings.{Settings}
use Rattle.registry.specs.declared.fault.SettingKey.{SettingKey}
use Rattle.registry.specs.declared.fault.SettingKey.TheVariants.{Name, IssueTree, ReplyTree, IssueOts, ReplyOts, Wait, Skew, Rounds, CheckAfter, Days, Unknown}
use Rattle.registry.specs.declared.fault.RegFault.{RegFault}
use Rattle.registry.specs.declared.fault.RegFault.TheVariants.{BadSetting}
use Rattle.deal_changes.specs.declared.change.Change.TheVariants.{Found}
use Rattle.deal_model.specs.Rules.{Allowed}
use Rattle.registry.specs.declared.settings.Fields.{Fields}
use Rattle.registry.specs.Words.{setting_word}
use Rattle.registry.specs.Forms.{text_in, number_in, has_only}
use Rattle.registry.specs.Files.{◌>>=◌, told, file_in}

-- the value of this form at a key, which is at fault where it has none
abbrev pub setting : {X : Type 0} → SettingKey → (Data → Option X) → Members → Result X SettingKey
setting key form t = ok_or (option_and_then form (get_member (setting_word key) t)) key

-- the keys of a file of settings
abbrev pub setting_keys : List (List ℕ)
setting_keys = map setting_word (Name ∷ IssueTree ∷ ReplyTree ∷ IssueOts ∷ ReplyOts ∷ Wait ∷ Skew ∷ Rounds ∷ CheckAfter ∷ Days ∷ [])

-- an HSS key that isn't made yet: one level, its type codes, and zeros behind them (RFC 8554, 5.3 and 6.1)
abbrev pub blank_key : ℕ → ℕ → List ℕ
blank_key tree ots = u32 1 ++ (u32 tree ++ (u32 ots ++ replicate 48 0))

-- The settings of a table, or the first key at fault, by this order: each key is there, with a value of its form, and no other is.
unfoldable pub settings_of : Members → Result Settings SettingKey
settings_of t = do
  name ← setting Name (text_in 1 58) t
  issue_tree ← setting IssueTree (number_in 5 7) t
  reply_tree ← setting ReplyTree (number_in 5 7) t
  issue_ots ← setting IssueOts (number_in 1 4) t
  reply_ots ← setting ReplyOts (number_in 1 4) t
  wait ← setting Wait (number_in 1 604800) t
  skew ← setting Skew (number_in 0 86400) t
  rounds ← setting Rounds (number_in 1 200000) t
  check_after ← setting CheckAfter (number_in 1 86400) t
  days ← setting Days (number_in 1 36500) t
  if has_only setting_keys t then Ok (record {
    time = 0;
    name = common_name name;
    issue_key = blank_key issue_tree issue_ots;
    reply_key = blank_key reply_tree reply_ots;
    wait = wait;
    skew = skew;
    rounds = rounds;
    check_after = check_after;
    days = days;
  }) else Err Unknown

-- the settings of a file
abbrev pub settings_in : List ℕ → Result Settings RegFault
settings_in file = file_in (λ t. told BadSetting (settings_of t)) file

-- ---- what is read

-- the settings that these fields are
abbrev pub settings_with : Fields → Settings
settings_with f = record {
  time = 0;
  name = common_name f.name.now;
  issue_key = blank_key f.issue_tree f.issue_ots;
  reply_key = blank_key f.reply_tree f.reply_ots;
  wait = f.wait;
  skew = f.skew;
  rounds = f.rounds;
  check_after = f.check_after;
  days = f.days;
}

-- each field is within its bounds
pub record AreWithin (f : Fields) : Type 0 where
  pub name_low : 1 ≤ length f.name.now
  pub name_high : length f.name.now ≤ 58
  pub name_text : IsTrue (is_utf8 f.name.now)
  pub issue_tree : (5 ≤ f.issue_tree) × (f.issue_tree ≤ 7)
  pub reply_tree : (5 ≤ f.reply_tree) × (f.reply_tree ≤ 7)
  pub issue_ots : (1 ≤ f.issue_ots) × (f.issue_ots ≤ 4)
  pub reply_ots : (1 ≤ f.reply_ots) × (f.reply_ots ≤ 4)
  pub wait : (1 ≤ f.wait) × (f.wait ≤ 604800)
  pub skew : (0 ≤ f.skew) × (f.skew ≤ 86400)
  pub rounds : (1 ≤ f.rounds) × (f.rounds ≤ 200000)
  pub check_after : (1 ≤ f.check_after) × (f.check_after ≤ 86400)
  pub days : (1 ≤ f.days) × (f.days ≤ 36500)

-- The key isn't made yet: it is blank, with type codes that the service may have.
pub record IsBlank (key : List ℕ) : Type 0 where
  pub tree : ℕ
  pub ots : ℕ
  pub tree_in : (5 ≤ tree) × (tree ≤ 7)
  pub ots_in : (1 ≤ ots) × (ots ≤ 4)
  pub blank : key ≡ blank_key tree ots

-- the settings have no keys yet
pub record AreUnmade (s : Settings) : Type 0 where
  pub time : s.time ≡ 0
  pub issue_key : IsBlank s.issue_key
  pub reply_key : IsBlank s.reply_key

-- a key with the level and the type codes of a blank one, which is not blank
pub record Fills (blank key : List ℕ) : Type 0 where
  pub whole : length key ≡ 60
  pub types : take 12 key ≡ take 12 blank
  pub filled : list_all (λ n. n == 0) (drop 12 key) ≡ false

-- The settings may found a service, at each time that a clock may say, once its keys are made.
abbrev pub MayFound : Settings → Type 0
MayFound s = (now : ℕ) (issue reply : List ℕ) → now ≤ 250000000000 → Fills s.issue_key issue → Fills s.reply_key reply
    → Allowed [] (Found (record s { time = now; issue_key = issue; reply_key = reply }))
