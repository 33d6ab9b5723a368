-- A socket doesn't tell what it holds. No clause names these words, so a reader can skip them.
use Rattle.std.specs.Prelude.{ℕ, Option, None, List}
use Rattle.cmp_links.specs.declared.end.SessionEnd.{SessionEnd}
use Rattle.tcp_links.specs.declared.tcp_link.TcpLink.{TcpLink}

-- no octets are told
abbrev pub untold : Option (List ℕ)
untold = None

-- nor is the list of the streams that were taken back
abbrev pub none_listed : Option (List (TcpLink × SessionEnd))
none_listed = None
