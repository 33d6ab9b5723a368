-- The fields that are left.
use Rattle.std.proofs.Common.{length}
use Rattle.http_heads.proofs.rows.+any_is.Given as goal

abbrev pub decreases-any_is : goal.decreases-any_is
decreases-any_is l = length l.fields.now
