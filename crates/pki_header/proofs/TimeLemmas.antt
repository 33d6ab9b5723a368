-- A text that is no time is that of no second.
use Rattle.std.proofs.Common.{◌≡◌, ℕ, List, Option, Some, None, sym, subst}
use Rattle.cmp_time.specs.Time.{IsGeneralized}
use Rattle.pki_header.specs.Time.{IsTimeOf}

abbrev none : Option ℕ
none = None

abbrev no_text : Option (List ℕ)
no_text = None

none_some : (n : ℕ) → none ≡ Some n → ⊥
none_some n e = cc

no_text_some : (l : List ℕ) → no_text ≡ Some l → ⊥
no_text_some l e = cc

text_same : (a b : List ℕ) → Some a ≡ Some b → a ≡ b
text_same a b e = cc

pub no_time : (o : Option (List ℕ)) (text : List ℕ) (t : Option ℕ) → o ≡ Some text → ((n : ℕ) → IsGeneralized text n → none ≡ Some n) → IsTimeOf o t → ⊥
no_time None text t e only h = no_text_some text e
no_time (Some x) text None e only h = h
no_time (Some x) text (Some n) e only h = none_some n (only n (subst (λ (l : List ℕ). IsGeneralized l n) (text_same x text e) h))
