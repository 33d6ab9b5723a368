-- How a run without losses goes: the rows that apply, one after another.
use Rattle.std.proofs.Common.{◌≡◌, ℕ, List, true, refl}
use Rattle.std.specs.Str.{bytes_eq}
use Rattle.std.proofs.lemmas.Slice.Eq.{bytes_eq-Decides}
use Rattle.device_table.specs.Laws.{Granted, GrantedImplicitly, Enrolled}

same_refl : (a : List ℕ) → bytes_eq a a ≡ true
same_refl a = (bytes_eq-Decides a a).1 refl

pub granted : Granted
granted d o m cert is word implicit =
    rw (is.is_message, is.tid, is.answers, same_refl d.tid, same_refl o.nonce, word, is.verifies, implicit) refl

pub implied : GrantedImplicitly
implied d o m cert is word implicit =
    rw (is.is_message, is.tid, is.answers, same_refl d.tid, same_refl o.nonce, word, is.verifies, implicit) refl

pub enrolled : Enrolled
enrolled d o m cert is word =
    rw (is.is_message, is.tid, is.answers, same_refl d.tid, same_refl o.nonce, word, is.verifies) refl
