-- Octets begin with at most one request, and are one list of requests.
use Rattle.std.specs.Prelude.{◌≡◌, ℕ, ◌+◌, suc, Bool, List, [], ◌∷◌, ◌++◌, length, Option, Some, None, MatchOption}
use Rattle.std.proofs.Common.{inl, inr, arith, refl, sym, ap, subst, ◌∙◌, length-append}
use Rattle.httparse.specs.Grammar.{RequestHead, print_blank, print_version, print_end, print_section}
use Rattle.httparse.proofs.GrammarLemmas.{request_unique, print_request-append}
use Rattle.cmp_links.specs.declared.end.EndCause.{EndCause}
use Rattle.cmp_links.specs.declared.end.EndCause.TheVariants.{Closed, Asked, Rejected, Limit, ReadFault, WriteFault, Unanswered, NoMemory}
use Rattle.http_heads.specs.Heads.{IsHead, why_not, body_length, asks_end}
use Rattle.http_heads.specs.Requests.{Posted, IsRequest, IsTurnedAway, IsRejected, IsLastly, ending_after, AreRequests, AreFirst, AreTheFirstOf}

-- one head
head_one : (bytes : List ℕ) (h k : RequestHead) (r q : List ℕ) → IsHead bytes h r → IsHead bytes k q → (h ≡ k) × (r ≡ q)
head_one bytes h k r q x y = request_unique bytes h k r q x.reads y.reads

-- a head has octets
no_head : (h : RequestHead) (r : List ℕ) → IsHead [] h r → ⊥
no_head h r x =
    let token = x.reads.0.method.0 in
    let tail : List ℕ = 32 ∷ (h.target ++ 32 ∷ (print_version h.minor ++ (print_end h.line_end ++ (print_section h.fields h.last ++ r)))) in
    let spelled : [] ≡ print_blank h.blank ++ (h.method ++ tail) = x.reads.1 ∙ print_request-append h r in
    let size : 0 ≡ length (print_blank h.blank ++ (h.method ++ tail)) = ap length spelled in
    omega (arith, size, token, length-append (print_blank h.blank) (h.method ++ tail), length-append h.method tail)

-- two lists that begin with as many octets
same_front : (m n a b : List ℕ) → a ++ m ≡ b ++ n → length a ≡ length b → (a ≡ b) × (m ≡ n)
same_front m n [] [] same equal = (refl, same)
same_front m n [] (y ∷ b) same equal = absurd (omega (arith, equal))
same_front m n (x ∷ a) [] same equal = absurd (omega (arith, equal))
same_front m n (x ∷ a) (y ∷ b) same equal =
    let tails : a ++ m ≡ b ++ n = cc same in
    let lengths : length a ≡ length b = omega (arith, equal) in
    let here : x ≡ y = cc same in
    let below = same_front m n a b tails lengths in
    (cc (here, below.0), below.1)

posted : List ℕ → Bool → Posted
posted body asks = record { body = body; asks = asks }

-- one request
request_one : (bytes : List ℕ) (r s : Posted) (rest mid : List ℕ) → IsRequest bytes r rest → IsRequest bytes s mid → (r ≡ s) × (rest ≡ mid)
request_one bytes r s rest mid x y =
    let heads = head_one bytes x.head y.head x.behind y.behind x.begins y.begins in
    let equal : length r.body ≡ length s.body = x.whole ∙ ap body_length heads.0 ∙ sym y.whole in
    let parts = same_front rest mid r.body s.body (sym x.content ∙ heads.1 ∙ y.content) equal in
    let asks : r.asks ≡ s.asks = x.end_asked ∙ ap asks_end heads.0 ∙ sym y.end_asked in
    (λ i. record { body = parts.0 i; asks = asks i }, parts.1)

-- octets that begin with a request aren't the last
away_or_request : (bytes : List ℕ) (status : ℕ) (r : Posted) (rest : List ℕ) → IsTurnedAway bytes status → IsRequest bytes r rest → ⊥
away_or_request bytes status r rest x y =
    let heads = head_one bytes x.head y.head x.behind y.behind x.begins y.begins in
    elim x.why [
      | inl why ↦ let both : Some status ≡ None = sym why ∙ ap why_not heads.0 ∙ y.served in cc both
      | inr cut ↦
          let size : length x.behind ≡ length r.body + length rest = ap length (heads.1 ∙ y.content) ∙ length-append r.body rest in
          let whole : length r.body ≡ body_length x.head = y.whole ∙ ap body_length (sym heads.0) in
          let short = cut.1 in
          absurd (omega (arith, size, whole, short))
    ]

last_or_request : (bytes : List ℕ) (cause : EndCause) (r : Posted) (rest : List ℕ) → IsLastly bytes cause → IsRequest bytes r rest → ⊥
last_or_request bytes Closed r rest x y = no_head y.head y.behind (subst (λ (b : List ℕ). IsHead b y.head y.behind) x y.begins)
last_or_request bytes (Rejected status) r rest x y = elim x [
  | inl none ↦ none.1 y.head y.behind y.begins
  | inr away ↦ away_or_request bytes status r rest away y
]
last_or_request bytes Asked r rest x y = x
last_or_request bytes Limit r rest x y = x
last_or_request bytes ReadFault r rest x y = x
last_or_request bytes WriteFault r rest x y = x
last_or_request bytes Unanswered r rest x y = x
last_or_request bytes NoMemory r rest x y = x

-- octets are turned away with one status
status_one : (bytes : List ℕ) (s t : ℕ) → IsRejected bytes s → IsRejected bytes t → s ≡ t
status_one bytes s t x y = elim x [
  | inl none ↦ elim y [
    | inl other ↦ none.2 ∙ sym other.2
    | inr away ↦ absurd (none.1 away.head away.behind away.begins)
  ]
  | inr away ↦ elim y [
    | inl none ↦ absurd (none.1 away.head away.behind away.begins)
    | inr other ↦ away_one bytes s t away other
  ]
]
  where
    cut_or_not : (h : RequestHead) (s t : ℕ) (m : Type 0) → why_not h ≡ Some s → (why_not h ≡ None) × m × (t ≡ 400) → s ≡ t
    cut_or_not h s t m why cut = absurd (let both : Some s ≡ None = sym why ∙ cut.0 in cc both)

    away_one : (bytes : List ℕ) (s t : ℕ) → IsTurnedAway bytes s → IsTurnedAway bytes t → s ≡ t
    away_one bytes s t x y =
        let heads = head_one bytes x.head y.head x.behind y.behind x.begins y.begins in
        let same : why_not x.head ≡ why_not y.head = ap why_not heads.0 in
        elim x.why [
          | inl why ↦ elim y.why [
            | inl other ↦ let both : Some s ≡ Some t = sym why ∙ same ∙ other in cc both
            | inr cut ↦ absurd (let both : Some s ≡ None = sym why ∙ same ∙ cut.0 in cc both)
          ]
          | inr cut ↦ elim y.why [
            | inl other ↦ absurd (let both : Some t ≡ None = sym other ∙ sym same ∙ cut.0 in cc both)
            | inr again ↦ cut.2 ∙ sym again.2
          ]
        ]

empty_or_rejected : (bytes : List ℕ) (s : ℕ) → bytes ≡ [] → IsRejected bytes s → ⊥
empty_or_rejected bytes s none x = elim x [
  | inl some ↦ some.0 none
  | inr away ↦ no_head away.head away.behind (subst (λ (b : List ℕ). IsHead b away.head away.behind) none away.begins)
]

-- one end
last_one : (bytes : List ℕ) (a b : EndCause) → IsLastly bytes a → IsLastly bytes b → a ≡ b
last_one bytes Closed Closed x y = refl
last_one bytes Closed (Rejected t) x y = absurd (empty_or_rejected bytes t x y)
last_one bytes (Rejected s) Closed x y = absurd (empty_or_rejected bytes s y x)
last_one bytes (Rejected s) (Rejected t) x y = ap (λ (n : ℕ). Rejected n) (status_one bytes s t x y)
last_one bytes Closed Asked x y = absurd y
last_one bytes (Rejected s) Asked x y = absurd y
last_one bytes Closed Limit x y = absurd y
last_one bytes (Rejected s) Limit x y = absurd y
last_one bytes Closed ReadFault x y = absurd y
last_one bytes (Rejected s) ReadFault x y = absurd y
last_one bytes Closed WriteFault x y = absurd y
last_one bytes (Rejected s) WriteFault x y = absurd y
last_one bytes Closed Unanswered x y = absurd y
last_one bytes (Rejected s) Unanswered x y = absurd y
last_one bytes Closed NoMemory x y = absurd y
last_one bytes (Rejected s) NoMemory x y = absurd y
last_one bytes Asked b x y = absurd x
last_one bytes Limit b x y = absurd x
last_one bytes ReadFault b x y = absurd x
last_one bytes WriteFault b x y = absurd x
last_one bytes Unanswered b x y = absurd x
last_one bytes NoMemory b x y = absurd x

-- the requests behind one, where there are some
joined : (e : Option EndCause) (xs ys : List Posted) (a b : EndCause) (P Q : Type 0)
    → MatchOption e P (λ c. (xs ≡ []) × (a ≡ c)) → MatchOption e Q (λ c. (ys ≡ []) × (b ≡ c))
    → (P → Q → (xs ≡ ys) × (a ≡ b)) → (xs ≡ ys) × (a ≡ b)
joined None xs ys a b P Q x y below = below x y
joined (Some c) xs ys a b P Q x y below = (x.0 ∙ sym y.0, x.1 ∙ sym y.1)

pub requests_one : (n : ℕ) (bytes : List ℕ) (xs ys : List Posted) (a b : EndCause) → AreRequests n bytes xs a → AreRequests n bytes ys b → (xs ≡ ys) × (a ≡ b)
requests_one n bytes [] [] a b x y = (refl, last_one bytes a b x y)
requests_one n bytes [] (s ∷ ss) a b x y = absurd (last_or_request bytes a s y.0 x y.1)
requests_one n bytes (r ∷ rs) [] a b x y = absurd (last_or_request bytes b r x.0 y x.1)
requests_one n bytes (r ∷ rs) (s ∷ ss) a b x y =
    let here = request_one bytes r s x.0 y.0 x.1 y.1 in
    let moved : MatchOption (ending_after (suc n) r.asks) (AreRequests (suc n) x.0 ss b) (λ c. (ss ≡ []) × (b ≡ c)) =
    rw (here.0, here.1) y.2 in
    let behind = joined (ending_after (suc n) r.asks) rs ss a b _ _ x.2 moved (λ p q. requests_one (suc n) x.0 rs ss a b p q) in
    (cc (here.0, behind.0), behind.1)

-- the first requests are the first of all
pub first_of_all : (n : ℕ) (bytes : List ℕ) (xs ys : List Posted) (rest : List ℕ) (a : EndCause) → AreFirst n bytes xs rest → AreRequests n bytes ys a → AreTheFirstOf xs ys
first_of_all n bytes [] ys rest a x y = (ys, refl)
first_of_all n bytes (r ∷ rs) [] rest a x y = absurd (last_or_request bytes a r x.0 y x.1)
first_of_all n bytes (r ∷ []) (s ∷ ss) rest a x y =
    let here = request_one bytes r s x.0 y.0 x.1 y.1 in (ss, cc (here.0))
first_of_all n bytes (r ∷ q ∷ rs) (s ∷ ss) rest a x y =
    let here = request_one bytes r s x.0 y.0 x.1 y.1 in
    let goes_on : ending_after (suc n) s.asks ≡ None = ap (λ (p : Posted). ending_after (suc n) p.asks) (sym here.0) ∙ x.2 (λ e. cc e) in
    let behind : AreRequests (suc n) y.0 ss a = rw goes_on at y.2 in
    let moved : AreRequests (suc n) x.0 ss a = rw (here.1) behind in
    let tail = first_of_all (suc n) x.0 (q ∷ rs) ss rest a x.3 moved in
    (tail.0, cc (here.0, tail.1))
