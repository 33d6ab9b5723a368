-- How long the spellings are.
use Rattle.std.proofs.Common.{◌≡◌, ℕ, ◌+◌, List, [], ◌∷◌, ◌++◌, length, refl, ap, ◌∙◌, arith}
use Rattle.std.specs.List.{flat_map, sum_by}
use Rattle.std.proofs.lemmas.List.{length-append}
use Rattle.std.proofs.lemmas.List.Concat.{length-flat_map}
use Rattle.deal_changes.specs.declared.change.Credential.{Credential}
use Rattle.deal_changes.specs.declared.change.Stamp.{Stamp}
use Rattle.deal_changes.specs.declared.change.Wish.{Wish}
use Rattle.deal_changes.specs.declared.change.Settings.{Settings}
use Rattle.deal_changes.specs.declared.change.Change.{Change}
use Rattle.deal_changes.specs.declared.change.Change.TheVariants.{Found, Enlist, Dismiss, Grant, Hold, Release, Deny, Turned, Polled, Settled, Revoke, Lapse}
use Rattle.deal_changes.specs.Spelling.{u16, u32, u64, short, blob, optional, who, body, outcome, stamp, wish, settings, credential, credentials, spelling}
use Rattle.deal_rules.specs.Sizes.{credential_size, octets_of}

pub length_u16 : (n : ℕ) → length (u16 n) ≡ 2
unfolding u16
length_u16 n = refl

pub length_u32 : (n : ℕ) → length (u32 n) ≡ 4
unfolding u32
length_u32 n = refl

pub length_u64 : (n : ℕ) → length (u64 n) ≡ 8
unfolding u64
length_u64 n = refl

short_length : (octets : List ℕ) → length (short octets) ≡ 1 + length octets
short_length octets = omega arith

pub blob_length : (octets : List ℕ) → length (blob octets) ≡ 4 + length octets
blob_length octets = length-append (u32 (length octets)) octets ∙ ap (λ (n : ℕ). n + length octets) (length_u32 (length octets))

pub stamp_length : (s : Stamp) → length (stamp s) ≡ 15 + length s.tid + length s.digest + length (who s.who) + length s.sender + length s.sender_nonce + length s.words + length (optional s.leaf)
stamp_length s = simp (length-append, length_u32, length_u64) (omega (arith, short_length s.tid, short_length s.sender_nonce))

pub wish_length : (w : Wish) → length (wish w) ≡ 13 + length w.subject + length w.spki + length w.exts
wish_length w = simp (length-append, length_u32) (omega arith)

pub settings_length : (s : Settings) → length (settings s) ≡ 32 + length s.name + length s.issue_key + length s.reply_key
settings_length s = simp (length-append, length_u32, length_u64) (omega arith)

pub credential_length : (c : Credential) → credential_size c ≡ 4 + length c.kid + length c.material
credential_length c = simp (length-append) (omega arith)

pub credentials_length : (list : List Credential) → length (credentials list) ≡ 2 + sum_by credential_size list
credentials_length list = length-append (u16 (length list)) (flat_map credential list) ∙ ap (λ (n : ℕ). n + length (flat_map credential list)) (length_u16 (length list)) ∙ ap (λ (n : ℕ). 2 + n) (length-flat_map credential list)

-- each kind of change has the octets of its parts
pub spelled_length : (c : Change) → length (spelling c) ≡ octets_of c
spelled_length (Found s) = omega arith
spelled_length (Enlist time list) = simp (length-append, length_u64) (omega arith)
spelled_length (Dismiss time w) = simp (length-append, length_u64) (omega arith)
spelled_length (Grant s b w serial leaf) = rw (length-append (stamp s) (body b ∷ wish w ++ (u64 serial ++ u32 leaf)), length-append (wish w) (u64 serial ++ u32 leaf), length-append (u64 serial) (u32 leaf), length_u64 serial, length_u32 leaf) (omega arith)
spelled_length (Hold s b w) = rw (length-append (stamp s) (body b ∷ wish w)) (omega arith)
spelled_length (Release time tid) = simp (length-append, length_u64) (omega arith)
spelled_length (Deny time tid) = simp (length-append, length_u64) (omega arith)
spelled_length (Turned s) = omega arith
spelled_length (Polled s) = omega arith
spelled_length (Settled s accepted) = rw (length-append (stamp s) (outcome accepted ∷ [])) (omega arith)
spelled_length (Revoke s serial reason) = rw (length-append (stamp s) (u64 serial ++ reason ∷ []), length-append (u64 serial) (reason ∷ []), length_u64 serial) (omega arith)
spelled_length (Lapse time tid) = simp (length-append, length_u64) (omega arith)
