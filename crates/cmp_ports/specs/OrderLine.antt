-- The line of an orders file that is being read.
use Rattle.std.specs.Prelude.{◌≡◌, ℕ, min, List, length, take}
use Rattle.cmp_ports.specs.declared.file_orders.Line.{Line}

-- the line has these octets so far, of which the first 137 are kept: one more than the longest order has
pub record IsLine (l : Line) (octets : List ℕ) : Type 0 where
  pub room : length l.first ≡ 137
  pub size : l.len ≡ length octets
  pub kept : take (min l.len 137) l.first ≡ take 137 octets
