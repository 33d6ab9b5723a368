use Rattle.cmpca_serve.proofs.Counting.{orders_told}
use Rattle.cmpca_serve.proofs.laws.orders_are_obeyed.Goals as goal

pub returns : goal.returns
returns c = λ h more made floor ds all none deeds. orders_told h more made floor ds all none deeds
