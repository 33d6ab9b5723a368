-- Requests, exchanges and their texts, with more behind them.
use Rattle.std.specs.Prelude.{◌≡◌, ℕ, ◌+◌, suc, List, [], ◌∷◌, ◌++◌, length, None}
use Rattle.std.proofs.Common.{arith, refl, sym, ap, subst, ◌∙◌, append_assoc, append-nil}
use Rattle.cmp_ports.specs.declared.note.Answered.{Answered}
use Rattle.cmp_links.specs.declared.end.EndCause.{EndCause}
use Rattle.http_heads.specs.Requests.{Posted, IsRequest, ending_after, AreRequests, AreFirst}
use Rattle.http_wire.specs.Sessions.{Exchange, AllAnswered, reply_text, texts}
use Rattle.http_wire.proofs.Opens.{AreOpen}

-- one more, which doesn't end the session
pub open_more : (n k : ℕ) (bytes rest mid : List ℕ) (rs : List Posted) (r : Posted) → k ≡ n + length rs → AreOpen n bytes rs rest → IsRequest rest r mid
    → ending_after (suc k) r.asks ≡ None → AreOpen n bytes (rs ++ r ∷ []) mid
open_more n k bytes rest mid [] r at opens is on =
    let here : k ≡ n = omega (arith, at) in
    (mid, subst (λ (b : List ℕ). IsRequest b r mid) opens is, subst (λ (m : ℕ). ending_after (suc m) r.asks ≡ None) here on, refl)
open_more n k bytes rest mid (q ∷ rs) r at opens is on =
    (opens.0, opens.1, opens.2, open_more (suc n) k opens.0 rest mid rs r (omega (arith, at)) opens.3 is on)

-- all requests, those and then the others
pub open_requests : (n k : ℕ) (bytes rest : List ℕ) (rs more : List Posted) (cause : EndCause) → k ≡ n + length rs → AreOpen n bytes rs rest → AreRequests k rest more cause
    → AreRequests n bytes (rs ++ more) cause
open_requests n k bytes rest [] more cause at opens are =
    let here : k ≡ n = omega (arith, at) in
    subst (λ (m : ℕ). AreRequests m bytes more cause) here (subst (λ (b : List ℕ). AreRequests k b more cause) opens are)
open_requests n k bytes rest (q ∷ rs) more cause at opens are =
    let on = opens.2 in
    let behind = open_requests (suc n) k opens.0 rest rs more cause (omega (arith, at)) opens.3 are in
    (opens.0, opens.1, rw on behind)

-- the first requests, those and then the others
pub open_first : (n k : ℕ) (bytes rest last : List ℕ) (rs more : List Posted) → k ≡ n + length rs → AreOpen n bytes rs rest → AreFirst k rest more last
    → AreFirst n bytes (rs ++ more) last
open_first n k bytes rest last [] more at opens are =
    let here : k ≡ n = omega (arith, at) in
    subst (λ (m : ℕ). AreFirst m bytes more last) here (subst (λ (b : List ℕ). AreFirst k b more last) opens are)
open_first n k bytes rest last (q ∷ rs) more at opens are =
    (opens.0, opens.1, λ some. opens.2, open_first (suc n) k opens.0 rest last rs more (omega (arith, at)) opens.3 are)

-- one request answered behind the others
pub answered_more : {A : Type 0} (answers : A → List ℕ → Answered → List ℕ → A → Type 0) (a m b : A) (xs ys : List Exchange) → AllAnswered answers a xs m
    → AllAnswered answers m ys b → AllAnswered answers a (xs ++ ys) b
answered_more {A = A} answers a m b [] ys first behind = subst (λ (s : A). AllAnswered answers s ys b) first behind
answered_more answers a m b (x ∷ xs) ys first behind = (first.0, first.1, answered_more answers first.0 m b xs ys first.2 behind)

-- the text of one more reply
pub texts_more : (n k : ℕ) (xs : List Exchange) (x : Exchange) → k ≡ n + length xs → texts n (xs ++ x ∷ []) ≡ texts n xs ++ reply_text (suc k) x
texts_more n k [] x at =
    let here : k ≡ n = omega (arith, at) in
    append-nil (reply_text (suc n) x) ∙ ap (λ (m : ℕ). reply_text (suc m) x) (sym here)
texts_more n k (y ∷ xs) x at =
    ap (λ (l : List ℕ). reply_text (suc n) y ++ l) (texts_more (suc n) k xs x (omega (arith, at)))
    ∙ sym (append_assoc (reply_text (suc n) y) (texts (suc n) xs) (reply_text (suc k) x))
