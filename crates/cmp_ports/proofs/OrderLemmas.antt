-- An order is that of its line's first 137 octets.
use Rattle.std.specs.Prelude.{◌≡◌, ◌<◌, ◌≤◌, ◌+◌, ℕ, min, List, [], ◌∷◌, ◌++◌, length, take, set, codes}
use Rattle.std.proofs.Common.{arith, sym, ap, subst, ◌∙◌, length-append}
use Rattle.std.proofs.lemmas.List.{take_all, length-take, take-append-le}
use Rattle.std.proofs.lemmas.Grind.{take-set_at}
use Rattle.hex.proofs.HexLemmas.{decode_of-ok}
use Rattle.cmp_ports.specs.declared.order.Order.{Order}
use Rattle.cmp_ports.specs.declared.order.Order.TheVariants.{Release, Deny, Bad}
use Rattle.cmp_ports.specs.Orders.{OrdersTid, IsOrderLine}

-- an order has at most 136 octets
order_is_short : (word line tid : List ℕ) → length word ≤ 8 → OrdersTid word line tid → length line ≤ 136
order_is_short word line tid small orders =
    let digits = decode_of-ok orders.digits tid orders.spelled.spelled in
    let whole : length line ≡ length word + length orders.digits = rw orders.parts (length-append word orders.digits) in
    omega (arith, whole, digits, small, orders.spelled.fits)

-- so it is its own front
front_is_whole : (line : List ℕ) → length (take 137 line) ≤ 136 → take 137 line ≡ line
front_is_whole line short = take_all 137 line (omega (arith, short, length-take 137 line))

order_of_whole : (word line tid : List ℕ) → length word ≤ 8 → OrdersTid word (take 137 line) tid → OrdersTid word line tid
order_of_whole word line tid small orders =
    subst (λ (l : List ℕ). OrdersTid word l tid) (front_is_whole line (order_is_short word (take 137 line) tid small orders)) orders

order_of_part : (word line tid : List ℕ) → length word ≤ 8 → OrdersTid word line tid → OrdersTid word (take 137 line) tid
order_of_part word line tid small orders =
    subst (λ (l : List ℕ). OrdersTid word l tid) (sym (take_all 137 line (omega (arith, order_is_short word line tid small orders)))) orders

pub order_of_front : (line : List ℕ) (order : Order) → IsOrderLine (take 137 line) order → IsOrderLine line order
order_of_front line (Release tid) orders = order_of_whole (codes "release ") line tid (omega arith) orders
order_of_front line (Deny tid) orders = order_of_whole (codes "deny ") line tid (omega arith) orders
order_of_front line Bad none = λ tid. (
  λ orders. (none tid).0 (order_of_part (codes "release ") line tid (omega arith) orders),
  λ orders. (none tid).1 (order_of_part (codes "deny ") line tid (omega arith) orders),
)

-- an octet more is kept where there is room
pub line_kept : (first line : List ℕ) (size octet : ℕ) → length first ≡ 137 → size ≡ length line → size < 137 → take (min size 137) first ≡ take 137 line
    → take (min (size + 1) 137) (set first size octet) ≡ take 137 (line ++ octet ∷ [])
line_kept first line size octet room same within kept =
    let front : take size first ≡ line = ap (λ (n : ℕ). take n first) (omega (arith, within)) ∙ kept ∙ take_all 137 line (omega (arith, same, within)) in
    ap (λ (n : ℕ). take n (set first size octet)) (omega (arith, within))
    ∙ take-set_at first size (size + 1) octet (omega arith) (omega (arith, room, within))
    ∙ ap (λ (l : List ℕ). l ++ octet ∷ []) front
    ∙ sym (take_all 137 (line ++ octet ∷ []) (omega (arith, same, within, length-append line (octet ∷ []))))

-- and dropped where there is none
pub line_full : (first line : List ℕ) (size octet : ℕ) → size ≡ length line → 137 ≤ size → take (min size 137) first ≡ take 137 line
    → take (min (size + 1) 137) first ≡ take 137 (line ++ octet ∷ [])
line_full first line size octet same past kept =
    ap (λ (n : ℕ). take n first) (omega (arith, past)) ∙ kept ∙ sym (take-append-le 137 line (octet ∷ []) (omega (arith, same, past)))
