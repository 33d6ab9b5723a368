-- Each call is about one level fewer.
use Rattle.hss_sig.proofs.levels.+levels_ok.Given as goal

abbrev pub decreases-levels_ok : goal.decreases-levels_ok
decreases-levels_ok l = l.upper
