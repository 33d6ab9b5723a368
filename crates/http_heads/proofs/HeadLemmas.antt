-- What httparse's answer says of a head, whatever follows it.
use Rattle.std.specs.List.{list_any}
use Rattle.std.specs.Str.{str_eq_ignore_ascii_case}
use Rattle.std.specs.Prelude.{◌≡◌, ◌≢◌, ℕ, ◌≤◌, ◌<◌, ◌==◌, ◌||◌, codes, Bool, List, [], ◌∷◌, ◌++◌, length, take, drop, map, Option, Some, None}
use Rattle.std.proofs.Common.{arith, refl, sym, ap, ◌∙◌, length-append, inl, inr}
use Rattle.std.proofs.lemmas.List.{length-take, length-map}
use Rattle.httparse.specs.declared.spans.HeaderSpan.{HeaderSpan}
use Rattle.httparse.specs.declared.spans.RequestSpans.{RequestSpans}
use Rattle.httparse.specs.Grammar.{RequestHead, HasNoRequest, print_request, print_blank, print_version, print_end, print_section}
use Rattle.httparse.specs.Spans.{IsRequestAt, RequestOverflows, header_bytes, name_and_value, span_bytes}
use Rattle.httparse.proofs.GrammarLemmas.{ReadsRequest-append, request_prefix_free, print_request-append}
use Rattle.http_heads.specs.Heads.{IsHead, HasNoHead, parts_of, target_rows, field_rows, first_of, why_not, lengths, length_of, values}
use Rattle.http_heads.specs.Looks.{IsServedHead}
use Rattle.http_heads.specs.Requests.{IsRejected}
use Rattle.http_heads.proofs.RowLemmas.{first_here, first_later}

-- the fields that were found are those of the head
pub few_fields : (buf : List ℕ) (fields : List HeaderSpan) (r : RequestSpans) (h : RequestHead) → IsRequestAt buf fields r h → length fields ≡ 32 → length h.fields ≤ 32
few_fields buf fields r h at room =
    let same : length (map (header_bytes buf) (take r.headers fields)) ≡ length (map name_and_value h.fields) = ap length at.fields in
    omega (arith, same, length-map (take r.headers fields) (header_bytes buf), length-map h.fields name_and_value, length-take r.headers fields, room)

-- the head is one
pub head_at : (buf : List ℕ) (fields : List HeaderSpan) (r : RequestSpans) (h : RequestHead) → IsRequestAt buf fields r h → length fields ≡ 32 → r.len ≤ 8192
    → IsHead buf h (drop r.len buf)
head_at buf fields r h at room short = record {
  reads = at.reads;
  short = omega (arith, at.len, short);
  few = few_fields buf fields r h at room;
}

pub head_before : (buf more : List ℕ) (h : RequestHead) (rest : List ℕ) → IsHead buf h rest → IsHead (buf ++ more) h (rest ++ more)
head_before buf more h rest x = record {
  reads = ReadsRequest-append buf h rest more x.reads;
  short = x.short;
  few = x.few;
}

-- its request is turned away, whatever follows
pub turned : (buf : List ℕ) (fields : List HeaderSpan) (r : RequestSpans) (h : RequestHead) (status : ℕ) → IsRequestAt buf fields r h → length fields ≡ 32 → r.len ≤ 8192
    → why_not h ≡ Some status → (more : List ℕ) → IsRejected (buf ++ more) status
turned buf fields r h status at room short why more = inr (record {
  head = h;
  behind = drop r.len buf ++ more;
  begins = head_before buf more h (drop r.len buf) (head_at buf fields r h at room short);
  why = inl why;
})

pub by_target : (buf : List ℕ) (fields : List HeaderSpan) (r : RequestSpans) (h : RequestHead) (method target : List ℕ) (status : ℕ) → IsRequestAt buf fields r h
    → method ≡ span_bytes buf r.method → target ≡ span_bytes buf r.path → Some status ≡ first_of (target_rows method target) → why_not h ≡ Some status
by_target buf fields r h method target status at m t first =
    let same_m : method ≡ h.method = m ∙ at.method in
    let same_t : target ≡ h.target = t ∙ at.path in
    first_here (target_rows h.method h.target) (field_rows (parts_of h)) status (rw (← same_m, ← same_t) (sym first))

pub by_fields : (buf : List ℕ) (fields told : List HeaderSpan) (r : RequestSpans) (h : RequestHead) (method target : List ℕ) (found : Option ℕ) → IsRequestAt buf fields r h
    → method ≡ span_bytes buf r.method → target ≡ span_bytes buf r.path → None ≡ first_of (target_rows method target)
    → told ≡ take r.headers fields → first_of (field_rows (map (header_bytes buf) told)) ≡ found → why_not h ≡ found
by_fields buf fields told r h method target found at m t none is first =
    let same_m : method ≡ h.method = m ∙ at.method in
    let same_t : target ≡ h.target = t ∙ at.path in
    let parts : map (header_bytes buf) told ≡ parts_of h = ap (λ (l : List HeaderSpan). map (header_bytes buf) l) is ∙ at.fields in
    first_later (target_rows h.method h.target) (field_rows (parts_of h)) (rw (← same_m, ← same_t) (sym none)) ∙ (rw (← parts) first)

-- no head is there
not_empty : (buf more : List ℕ) → 0 < length buf → buf ++ more ≢ []
not_empty buf more some none = omega (arith, ap length none, length-append buf more, some)

pub rejected : (buf more : List ℕ) → 0 < length buf → HasNoHead (buf ++ more) → IsRejected (buf ++ more) 400
rejected buf more some none = inl (not_empty buf more some, none, refl)

pub none_too_long : (buf more : List ℕ) (fields : List HeaderSpan) (r : RequestSpans) (h : RequestHead) → IsRequestAt buf fields r h → 8192 < r.len → HasNoHead (buf ++ more)
none_too_long buf more fields r h at long = λ k rest x.
    let same = request_prefix_free buf more h k (drop r.len buf) rest at.reads x.reads in
    let size : length (print_request h) ≡ length (print_request k) = ap (λ (g : RequestHead). length (print_request g)) same.0 in
    omega (arith, size, x.short, at.len, long)

pub none_overflows : (buf more : List ℕ) → RequestOverflows 32 buf → HasNoHead (buf ++ more)
none_overflows buf more over = λ k rest x. omega (arith, over more k rest x.reads, x.few)

-- a head that is short lies in what came
front_in : (a b c d : List ℕ) → a ++ b ≡ c ++ d → length c ≤ length a → (mid : List ℕ) × (a ≡ c ++ mid)
front_in a b [] d same short = (a, refl)
front_in [] b (z ∷ c) d same short = absurd (omega (arith, short))
front_in (y ∷ a) b (z ∷ c) d same short =
    let tails : a ++ b ≡ c ++ d = cc same in
    let here : y ≡ z = cc same in
    let below = front_in a b c d tails (omega (arith, short)) in
    (below.0, cc (here, below.1))

pub none_within : (buf more : List ℕ) → HasNoRequest buf → 8192 ≤ length buf → HasNoHead (buf ++ more)
none_within buf more none full = λ k rest x.
    let front = front_in buf more (print_request k) rest x.reads.1 (omega (arith, full, x.short)) in
    none k front.0 (x.reads.0, front.1)

-- no octets are no head
pub none_empty : (buf : List ℕ) → length buf ≡ 0 → HasNoRequest buf
none_empty (b ∷ buf) some = absurd (omega (arith, some))
none_empty [] none = λ h r x.
    let token = x.0.method.0 in
    let tail : List ℕ = 32 ∷ (h.target ++ 32 ∷ (print_version h.minor ++ (print_end h.line_end ++ (print_section h.fields h.last ++ r)))) in
    let spelled : [] ≡ print_blank h.blank ++ (h.method ++ tail) = x.1 ∙ print_request-append h r in
    let size : 0 ≡ length (print_blank h.blank ++ (h.method ++ tail)) = ap length spelled in
    omega (arith, size, token, length-append (print_blank h.blank) (h.method ++ tail), length-append h.method tail)

-- the head is served
pub served_by : (buf : List ℕ) (fields : List HeaderSpan) (r : RequestSpans) (h : RequestHead) (body : ℕ) (asks : Bool) → IsRequestAt buf fields r h → length fields ≡ 32
    → r.len ≤ 8192 → r.len ≤ length buf → why_not h ≡ None → body ≡ length_of (lengths (map (header_bytes buf) (take r.headers fields)))
    → asks ≡ ((r.version == 0) || list_any (λ v. str_eq_ignore_ascii_case v (codes "close")) (values (codes "connection") (map (header_bytes buf) (take r.headers fields))))
    → IsServedHead buf (record { head = r.len; body = body; asks = asks })
served_by buf fields r h body asks at room short within why body_is asks_is = record {
  head = h;
  begins = head_at buf fields r h at room short;
  within = within;
  served = why;
  body = body_is ∙ ap (λ (p : List (List ℕ × List ℕ)). length_of (lengths p)) at.fields;
  asks = asks_is
      ∙ ap (λ (p : List (List ℕ × List ℕ)). (r.version == 0) || list_any (λ v. str_eq_ignore_ascii_case v (codes "close")) (values (codes "connection") p)) at.fields
      ∙ ap (λ (v : ℕ). (v == 0) || list_any (λ v. str_eq_ignore_ascii_case v (codes "close")) (values (codes "connection") (parts_of h))) at.version;
}
