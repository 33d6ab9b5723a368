use Rattle.rounds.proofs.RoundLemmas.{no_round, round_follows, accounts_follow}
use Rattle.rounds.proofs.laws.rounds_follow.Goals as goal

pub returns-clause-none : goal.returns-clause-none
returns-clause-none c = λ at. no_round at

pub returns-clause-both : goal.returns-clause-both
returns-clause-both c = λ old mid new a b on grown first second. round_follows old mid new a b on grown first second

pub returns-clause-apart : goal.returns-clause-apart
returns-clause-apart c = λ h0 h g0 g taken more readings later places others a b on begun grown first second. accounts_follow h0 h g0 g taken more readings later places others a b on begun grown first second
