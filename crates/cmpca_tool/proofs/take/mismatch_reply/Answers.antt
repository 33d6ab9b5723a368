-- The lines are those of both identities.
use Rattle.std.proofs.Common.{inl, refl, ◌∙◌}
use Rattle.reply_maker.specs.declared.key_file.KeyFault.TheVariants.{KeyMismatch}
use Rattle.cmpca_tool.proofs.take.mismatch_reply.Goals as goal

pub returns-clause-reply : goal.returns-clause-reply
returns-clause-reply c = record {
  told = KeyMismatch c.args.file c.args.journal;
  is_told = inl refl;
  ends = c.made.ensures.ends ∙ rw (c.whole_identity.ensures, c.whole_identity-2.ensures) refl;
  says = c.made.ensures.says ∙ c.in-Ok.ensures;
}
