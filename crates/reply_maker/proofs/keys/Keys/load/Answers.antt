-- The file that was read is that of its parts.
use Rattle.std.proofs.Common.{ℕ, List, subst}
use Rattle.reply_maker.specs.Keys.{Gives}
use Rattle.reply_maker.proofs.FileLemmas.{joined_is, has_joined, leaves_rest}
use Rattle.reply_maker.proofs.keys.Keys.load.Goals as goal

pub grown-requires-clause-parts : goal.grown-requires-clause-parts
grown-requires-clause-parts g c = has_joined c.in-Ok.ensures.read.file c.in-Ok.file c.in-Ok.ensures.read.gives

pub returns-in-Ok-clause-loaded : goal.returns-in-Ok-clause-loaded
returns-in-Ok-clause-loaded g c =
    let read = c.in-Ok.ensures.read in
    record {
      file = read.file;
      read = read.read;
      gives = subst (λ (file : List ℕ). Gives file c.args.settings.now c.grown.result) (joined_is read.file c.in-Ok.file read.gives) c.grown.ensures.gives;
    }

pub returns-in-Ok-clause-rest : goal.returns-in-Ok-clause-rest
returns-in-Ok-clause-rest g c = leaves_rest _ _ c.grown.result c.in-Ok.ensures.rest
