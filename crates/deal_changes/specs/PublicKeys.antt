-- What a public key that borrows shows.
use Rattle.deal_changes.specs.Spki as lists
use Rattle.deal_changes.specs.declared.spki.PublicKey.{PublicKey}

abbrev pub public_key_of : PublicKey → lists.PublicKey
public_key_of k = record { algorithm = k.algorithm.now; parameters = k.parameters.now; key = k.key.now }
