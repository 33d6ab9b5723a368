-- The octets of what a run writes.
use Rattle.std.specs.Prelude.{ℕ, List}
use Rattle.cmpca_tool.specs.declared.reply.Text.{Text}
use Rattle.cmpca_tool.specs.declared.reply.Text.TheVariants.{Line, Made}

abbrev pub text_of : Text → List ℕ
text_of (Line line) = line.now
text_of (Made octets) = octets
