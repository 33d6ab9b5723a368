-- a stamp is a part of its change
use Rattle.std.proofs.Common.{ℕ, List, length, ap, arith}
use Rattle.reply_maker.proofs.SealLemmas.{sender_short}
use Rattle.reply_maker.proofs.sealing.sealed.Goals as goal

pub protected-requires-clause-counted : goal.protected-requires-clause-counted
protected-requires-clause-counted c =
    omega (
      arith,
      c.in_ok-header.ensures.short,
      sender_short c.args.r.now.change c.args.s.now c.requires.stamp,
      c.requires.force.kept.sized,
      c.in_ok-body.ensures.short,
      ap (λ (l : List ℕ). length l) c.as_slice.ensures,
    )
