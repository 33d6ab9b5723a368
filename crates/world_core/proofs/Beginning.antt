-- The change that everything begins with may come first.
use Rattle.std.proofs.Common.{◌≡◌, ℕ, zero, suc, ◌<◌, Bool, true, false, List, [], ◌∷◌, length, refl, lit<, lit≤}
use Rattle.deal_changes.specs.Spki.{content_at, only_at, is_name_text, common_name, is_ca_name}
use Rattle.deal_changes.specs.Spelling.{u16, u32, u64, AreSettings}
use Rattle.deal_model.specs.Keys.{levels_of, tree_of, ots_of}
use Rattle.deal_model.specs.Rules.{IsOwnKey, IsFounding, Allowed}
use Rattle.der_base.specs.Element.{length_octets, element}
use Rattle.der_base.specs.Reading.{big_endian, more_of, stands_for, is_short, is_bad_tag, is_bad_length, element_at}
use Rattle.std.specs.Str.{is_utf8}
use Rattle.std.specs.List.{slice_index}
use Rattle.std.proofs.lemmas.Str.{IsUtf8-from_ascii, is_utf8-from_IsUtf8}
use Rattle.world_core.specs.Steps.{first_name, first_key, first_settings, first_change}

ascii : (i : ℕ) → slice_index (120 ∷ []) i < 128
ascii zero = lit< tt
ascii (suc zero) = lit< tt
ascii (suc (suc i)) = lit< tt

-- the letter "x" is UTF-8
letter : is_utf8 (120 ∷ []) ≡ true
letter = is_utf8-from_IsUtf8 (120 ∷ []) (IsUtf8-from_ascii (120 ∷ []) ascii)

named : is_ca_name first_name ≡ true
unfolding is_ca_name common_name only_at content_at is_name_text length_octets element big_endian more_of stands_for is_short is_bad_tag is_bad_length element_at
named = rw letter refl

own_key : IsOwnKey first_key
unfolding levels_of tree_of ots_of
own_key = record { levels = refl; tree_low = lit≤ tt; tree_high = lit≤ tt; ots_low = lit≤ tt; ots_high = lit≤ tt; filled = refl }

settings : AreSettings first_settings
settings = record { time = lit< tt; name = lit< tt; is_ca_name = named; issue_key = refl; reply_key = refl; wait = lit< tt; skew = lit< tt; rounds = lit< tt; check_after = lit< tt; days = lit< tt }

founding : IsFounding first_settings
founding = record { issue_key = own_key; reply_key = own_key; wait_low = lit≤ tt; wait_high = lit≤ tt; skew_high = lit≤ tt; rounds_low = lit≤ tt; rounds_high = lit≤ tt; check_low = lit≤ tt; check_high = lit≤ tt; days_low = lit≤ tt; days_high = lit≤ tt }

pub first_allowed : Allowed [] first_change
unfolding first_change u16 u32 u64
first_allowed = record { form = settings; later = lit≤ tt; bounded = lit≤ tt; room = lit< tt; size = lit≤ tt; opening = refl; holds = founding }
