use Rattle.std.proofs.Common.{◌≤◌, subst, arith}
use Rattle.std.proofs.lemmas.Result.{IfOk-weaker}
use Rattle.pki_parts.specs.Status.{option_size}
use Rattle.protect.specs.Written.{IsAccepted, protection_for}
use Rattle.protect.proofs.write.protect_with.Goals as goal

pub returns-in-Nothing-clause-again : goal.returns-in-Nothing-clause-again
returns-in-Nothing-clause-again g c = λ fits accepted b whole certs. rw (c.in-Nothing.is) (c.unprotected.ensures.again fits b whole certs)

pub returns-in-Mac-clause-again : goal.returns-in-Mac-clause-again
returns-in-Mac-clause-again g c = λ fits accepted b whole certs. rw (c.in-Mac.is) (c.with_mac.ensures.again fits (subst (λ h. IsAccepted h) c.in-Mac.is accepted) b whole certs)

pub returns-in-Leaf-clause-again : goal.returns-in-Leaf-clause-again
returns-in-Leaf-clause-again g c = λ fits accepted b whole certs. rw (c.in-Leaf.is) (c.with_signature.ensures.again fits b whole certs)

pub returns-in-Nothing-clause-size : goal.returns-in-Nothing-clause-size
returns-in-Nothing-clause-size g c = λ n bound. IfOk-weaker c.unprotected.result _ _ (λ octets h. omega (arith, h)) c.unprotected.ensures.size

pub returns-in-Mac-clause-size : goal.returns-in-Mac-clause-size
returns-in-Mac-clause-size g c = λ n bound. c.with_mac.ensures.size n (λ part. subst (λ h. option_size (protection_for g.L.LeafSigner.signature h part) ≤ n) c.in-Mac.is (bound part))

pub returns-in-Leaf-clause-size : goal.returns-in-Leaf-clause-size
returns-in-Leaf-clause-size g c = λ n bound. c.with_signature.ensures.size n (λ part. subst (λ h. option_size (protection_for g.L.LeafSigner.signature h part) ≤ n) c.in-Leaf.is (bound part))
