use Rattle.cmpca_serve.proofs.RunLemmas.{told_run}
use Rattle.cmpca_serve.proofs.laws.rounds_tell_a_run.Goals as goal

pub returns : goal.returns
returns c = λ h0 seen h1 h sessions own all connections o0 o1 o2 r0 r1 r2 first last a on opened before b after whole used over none. told_run h0 seen h1 h sessions own all connections o0 o1 o2 r0 r1 r2 first last a on opened before b after whole used over none
