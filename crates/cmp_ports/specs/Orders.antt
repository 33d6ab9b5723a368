-- The line of an order. It is a word, one space and the transaction's identifier in hex digits of either case.
use Rattle.std.specs.Prelude.{◌≡◌, ◌<◌, ◌≤◌, ℕ, List, ◌++◌, length, Ok, codes}
use Rattle.cmp_ports.specs.declared.order.Order.{Order}
use Rattle.cmp_ports.specs.declared.order.Order.TheVariants.{Release, Deny, Bad}
use Rattle.hex.specs.Hex.{decode_of}

-- the digits stand for an identifier of 1 to 64 octets
pub record SpellsTid (digits tid : List ℕ) : Type 0 where
  pub some : 0 < length tid
  pub fits : length tid ≤ 64
  pub spelled : decode_of digits ≡ Ok tid

-- the line is this word with these octets after it, which stand for an identifier
pub record OrdersTid (word line tid : List ℕ) : Type 0 where
  pub digits : List ℕ
  pub parts : line ≡ word ++ digits
  pub spelled : SpellsTid digits tid

-- the line is the one of this order; a line of no form is a bad order
abbrev pub IsOrderLine : List ℕ → Order → Type 0
IsOrderLine line (Release tid) = OrdersTid (codes "release ") line tid
IsOrderLine line (Deny tid) = OrdersTid (codes "deny ") line tid
IsOrderLine line Bad = (tid : List ℕ) → (OrdersTid (codes "release ") line tid → ⊥) × (OrdersTid (codes "deny ") line tid → ⊥)
