-- What one write with its sync makes of an image, and of all images.
use Rattle.std.proofs.Common.{◌≡◌, ◌≢◌, ℕ, ◌+◌, ◌<◌, List, [], ◌∷◌, ◌++◌, length, get_or, take, drop, sym, ◌∙◌, ap, subst, arith, append_assoc, length-append, take-append-drop}
use Rattle.std.proofs.lemmas.List.{take_at, drop_at, drop_more, drop-drop}
use Rattle.cmp_ports.specs.Disk.{Torn, Follows, Every, overwritten}
use Rattle.journal_core.specs.Log.{ClosedAfter}
use Rattle.journal_core.specs.Staged.{StagedAfter}

torn_front : (at n : ℕ) (front rest c : List ℕ) → length front ≡ at → Torn at n (front ++ rest) c → c ≡ front ++ drop at c
torn_front at n front rest c is torn =
    let begins : take at c ≡ front = torn.before ∙ take_at front rest at is in
    sym (take-append-drop at c) ∙ ap (λ (l : List ℕ). l ++ drop at c) begins

torn_octet : (at gate : ℕ) (front rest c : List ℕ) → length front ≡ at → Torn at 1 (front ++ gate ∷ rest) c → c ≡ front ++ get_or c at 0 ∷ rest
torn_octet at gate front rest c is torn =
    let long : at < length c = omega (arith, torn.no_shorter, length-append front (gate ∷ rest)) in
    let split : front ++ gate ∷ rest ≡ (front ++ gate ∷ []) ++ rest = sym (append_assoc front (gate ∷ []) rest) in
    let behind : drop (at + 1) c ≡ rest = torn.after ∙ ap (λ (l : List ℕ). drop (at + 1) l) split ∙ drop_at (front ++ gate ∷ []) rest (at + 1) (omega (arith, length-append front (gate ∷ []))) in
    torn_front at 1 front (gate ∷ rest) c is torn ∙ ap (λ (l : List ℕ). front ++ l) (drop_more c at 0 long ∙ ap (λ (l : List ℕ). get_or c at 0 ∷ l) behind)

written_behind : (at : ℕ) (octets front rest : List ℕ) → length front ≡ at → overwritten at octets (front ++ rest) ≡ front ++ (octets ++ drop (length octets) rest)
written_behind at octets front rest is =
    let begins : take at (front ++ rest) ≡ front = take_at front rest at is in
    let ends : drop (at + length octets) (front ++ rest) ≡ drop (length octets) rest = sym (drop-drop (length octets) at (front ++ rest)) ∙ ap (λ (l : List ℕ). drop (length octets) l) (drop_at front rest at is) in
    ap (λ (l : List ℕ). l ++ octets ++ drop (at + length octets) (front ++ rest)) begins
    ∙ ap (λ (l : List ℕ). front ++ octets ++ l) ends
    ∙ append_assoc front octets (drop (length octets) rest)

-- behind the closed gate anything may stand
torn_behind : (at n : ℕ) (front d c : List ℕ) → length front + 1 ≡ at → ClosedAfter front d → Torn at n d c → ClosedAfter front c
torn_behind at n front d c is closed torn =
    let split : d ≡ (front ++ closed.gate ∷ []) ++ closed.rest = closed.parts ∙ sym (append_assoc front (closed.gate ∷ []) closed.rest) in
    let whole : c ≡ (front ++ closed.gate ∷ []) ++ drop at c = torn_front at n (front ++ closed.gate ∷ []) closed.rest c (omega (arith, is, length-append front (closed.gate ∷ []))) (subst (λ (f : List ℕ). Torn at n f c) split torn) in
    record { gate = closed.gate; rest = drop at c; shut = closed.shut; parts = whole ∙ append_assoc front (closed.gate ∷ []) (drop at c) }

-- the body is written behind it
staged_behind : (at : ℕ) (front body d c : List ℕ) → length front + 1 ≡ at → ClosedAfter front d → c ≡ overwritten at (body ++ 0 ∷ []) d → StagedAfter front body c
staged_behind at front body d c is closed written =
    let octets = body ++ 0 ∷ [] in
    let rest = drop (length octets) closed.rest in
    let split : d ≡ (front ++ closed.gate ∷ []) ++ closed.rest = closed.parts ∙ sym (append_assoc front (closed.gate ∷ []) closed.rest) in
    let whole : c ≡ (front ++ closed.gate ∷ []) ++ (octets ++ rest) = written ∙ ap (λ (l : List ℕ). overwritten at octets l) split ∙ written_behind at octets (front ++ closed.gate ∷ []) closed.rest (omega (arith, is, length-append front (closed.gate ∷ []))) in
    let ordered : c ≡ front ++ closed.gate ∷ (body ++ 0 ∷ rest) = whole ∙ append_assoc front (closed.gate ∷ []) (octets ++ rest) ∙ ap (λ (l : List ℕ). front ++ closed.gate ∷ l) (append_assoc body (0 ∷ []) rest) in
    let shut : 0 ≢ 1 = λ e. absurd (omega (arith, e)) in
    record { gate = closed.gate; next = 0; rest = rest; shut = shut; parts = ordered }

-- the gate's write leaves the body where it stands
torn_gate : (at : ℕ) (front body d c : List ℕ) → length front ≡ at → StagedAfter front body d → Torn at 1 d c → StagedAfter front body c
torn_gate at front body d c is staged torn =
    record {
      gate = get_or c at 0;
      next = staged.next;
      rest = staged.rest;
      shut = staged.shut;
      parts = torn_octet at staged.gate front (body ++ staged.next ∷ staged.rest) c is (subst (λ (f : List ℕ). Torn at 1 f c) staged.parts torn);
    }

written_gate : (at gate : ℕ) (front body d c : List ℕ) → length front ≡ at → (staged : StagedAfter front body d) → c ≡ overwritten at (gate ∷ []) d → c ≡ front ++ gate ∷ (body ++ staged.next ∷ staged.rest)
written_gate at gate front body d c is staged written =
    written ∙ ap (λ (l : List ℕ). overwritten at (gate ∷ []) l) staged.parts ∙ written_behind at (gate ∷ []) front (staged.gate ∷ (body ++ staged.next ∷ staged.rest)) is

-- the gate is open, and the body counts
opened : (at : ℕ) (front body d c : List ℕ) → length front ≡ at → StagedAfter front body d → c ≡ overwritten at (1 ∷ []) d → ClosedAfter (front ++ 1 ∷ body) c
opened at front body d c is staged written = record {
  gate = staged.next;
  rest = staged.rest;
  shut = staged.shut;
  parts = written_gate at 1 front body d c is staged written ∙ sym (append_assoc front (1 ∷ body) (staged.next ∷ staged.rest));
}

-- the gate is closed again
shut_again : (at : ℕ) (front body d c : List ℕ) → length front ≡ at → StagedAfter front body d → c ≡ overwritten at (0 ∷ []) d → ClosedAfter front c
shut_again at front body d c is staged written =
    let shut : 0 ≢ 1 = λ e. absurd (omega (arith, e)) in
    record { gate = 0; rest = body ++ staged.next ∷ staged.rest; shut = shut; parts = written_gate at 0 front body d c is staged written }

module _ (old new : List ℕ → Type 0) (at : ℕ) (front : List ℕ) where
  pub all_behind : (n : ℕ) → length front + 1 ≡ at → Every old (ClosedAfter front) → Follows (Torn at n) old new → Every new (ClosedAfter front)
  all_behind n is all follows c left = let from = follows c left in torn_behind at n front from.0 c is (all from.0 from.1) from.2

  pub all_staged : (body : List ℕ) → length front + 1 ≡ at → Every old (ClosedAfter front) → Follows (λ d c. c ≡ overwritten at (body ++ 0 ∷ []) d) old new → Every new (StagedAfter front body)
  all_staged body is all follows c left = let from = follows c left in staged_behind at front body from.0 c is (all from.0 from.1) from.2

  pub all_gate : (body : List ℕ) → length front ≡ at → Every old (StagedAfter front body) → Follows (Torn at 1) old new → Every new (StagedAfter front body)
  all_gate body is all follows c left = let from = follows c left in torn_gate at front body from.0 c is (all from.0 from.1) from.2

  pub all_opened : (body : List ℕ) → length front ≡ at → Every old (StagedAfter front body) → Follows (λ d c. c ≡ overwritten at (1 ∷ []) d) old new → Every new (ClosedAfter (front ++ 1 ∷ body))
  all_opened body is all follows c left = let from = follows c left in opened at front body from.0 c is (all from.0 from.1) from.2

  pub all_shut : (body : List ℕ) → length front ≡ at → Every old (StagedAfter front body) → Follows (λ d c. c ≡ overwritten at (0 ∷ []) d) old new → Every new (ClosedAfter front)
  all_shut body is all follows c left = let from = follows c left in shut_again at front body from.0 c is (all from.0 from.1) from.2
