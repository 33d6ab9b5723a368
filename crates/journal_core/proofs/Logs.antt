-- Logs with one payload more, and the lengths of records.
use Rattle.std.proofs.Common.{◌≡◌, ℕ, ◌+◌, ◌<◌, ◌^◌, List, [], ◌∷◌, ◌++◌, length, sym, ◌∙◌, ap, arith, append_assoc, length-append}
use Rattle.std.proofs.lemmas.List.{append-nil}
use Rattle.journal_core.specs.Log.{framed, records, log_of, AreSmall}

pub length-framed : (payload : List ℕ) → length (framed payload) ≡ length payload + 4
unfolding framed
length-framed payload = omega arith

records_push : (payloads : List (List ℕ)) (payload : List ℕ) → records (payloads ++ payload ∷ []) ≡ records payloads ++ 1 ∷ framed payload
records_push [] payload = ap (λ (l : List ℕ). 1 ∷ l) (append-nil (framed payload))
records_push (p ∷ payloads) payload = ap (λ (l : List ℕ). 1 ∷ (framed p ++ l)) (records_push payloads payload) ∙ ap (λ (l : List ℕ). 1 ∷ l) (sym (append_assoc (framed p) (records payloads) (1 ∷ framed payload)))

pub log_push : (magic : List ℕ) (payloads : List (List ℕ)) (payload : List ℕ) → log_of magic (payloads ++ payload ∷ []) ≡ log_of magic payloads ++ 1 ∷ framed payload
log_push magic payloads payload = ap (λ (l : List ℕ). 1 ∷ (magic ++ l)) (records_push payloads payload) ∙ ap (λ (l : List ℕ). 1 ∷ l) (sym (append_assoc magic (records payloads) (1 ∷ framed payload)))

pub small_push : (payloads : List (List ℕ)) (payload : List ℕ) → AreSmall payloads → length payload < 2 ^ 32 → AreSmall (payloads ++ payload ∷ [])
small_push [] payload small fits = (fits, tt)
small_push (p ∷ payloads) payload small fits = (small.0, small_push payloads payload small.1 fits)

pub length-log_push : (magic : List ℕ) (payloads : List (List ℕ)) (payload : List ℕ) → length (log_of magic (payloads ++ payload ∷ [])) ≡ length (log_of magic payloads) + (length payload + 5)
length-log_push magic payloads payload = omega (arith, ap length (log_push magic payloads payload), length-append (log_of magic payloads) (1 ∷ framed payload), length-framed payload)
