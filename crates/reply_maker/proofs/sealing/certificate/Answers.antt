-- the leaf is one of the key's
use Rattle.std.proofs.Common.{◌<◌, sym, subst}
use Rattle.lms_tree.specs.Keys.{Secret}
use Rattle.hss_sig.specs.OneLevel.{leaf_count}
use Rattle.cert_maker.specs.Certificates.{leaf_of}
use Rattle.reply_maker.proofs.SealLemmas.{is_leaf}
use Rattle.reply_maker.proofs.sealing.certificate.Goals as goal

pub cert_of-requires-clause-below : goal.cert_of-requires-clause-below
cert_of-requires-clause-below c =
    subst (λ (k : Secret). leaf_of c.args.r.now.change < leaf_count k.tree) (sym c.issue.ensures)
    (is_leaf c.args.keys.now.file c.args.keys.now.settings (leaf_of c.args.r.now.change) c.requires.force.issued)
