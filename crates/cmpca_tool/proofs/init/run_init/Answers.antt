-- The reply is by the input, then by the key file, then by the disk.
use Rattle.std.proofs.Common.{refl, rules}
use Rattle.cmpca_tool.specs.Sources.{source_run}
use Rattle.cmpca_tool.proofs.InitLemmas.{usable, blank}
use Rattle.cmpca_tool.proofs.InitReplyLemmas.{untouched, told_unset, told_unloaded, told_found, no_mismatch, may_be_first}
use Rattle.cmpca_tool.proofs.init.run_init.Goals as goal

pub load-requires : goal.load-requires
load-requires g c = usable c.in-Ok.settings c.in-Ok.ensures.founds c.in-Ok.ensures.unmade

pub unloaded_reply-requires : goal.unloaded_reply-requires
unloaded_reply-requires g c = no_mismatch _ c.in-Ok.settings c.in-Err-load.fault (blank c.in-Ok.settings c.in-Ok.ensures.unmade) c.in-Err-load.ensures.loaded

pub found_once-requires : goal.found_once-requires
found_once-requires g c =
    may_be_first _ c.in-Ok.settings c.with_keys-settings.result c.in-Ok-load.keys c.args.now c.in-Ok-load.ensures.loaded c.in-Ok.ensures.founds c.in-Ok.ensures.unmade c.requires
    c.with_keys-settings.ensures.keys c.with_keys-settings.ensures.sized.0 c.with_keys-settings.ensures.sized.1

pub returns-in-Err-clause-told : goal.returns-in-Err-clause-told
returns-in-Err-clause-told g c =
    told_unset _ _ _ (source_run g.S.Source.faults c.args.input.now c.read_file.new.input) (source_run g.K.Source.faults c.args.key.now c.args.key.now) _ c.in-Err.unread _ _ c.in-Err.ensures.fault c.in-Err.ensures.unread
    (untouched g.D.Disk.content g.D.Disk.images g.D.Disk.moment g.D.Disk.left_since g.met.D.Disk.only_now c.args.disk.now) refl c.unread_reply.ensures.reply

pub returns-in-Err-load-clause-told : goal.returns-in-Err-load-clause-told
returns-in-Err-load-clause-told g c =
    told_unloaded _ _ _ (source_run g.S.Source.faults c.args.input.now c.read_file.new.input) (source_run g.K.Source.faults c.args.key.now c.load.new.key) _ c.in-Ok.settings c.in-Err-load.fault _ _ c.in-Ok.ensures.read c.in-Err-load.ensures.loaded (search (rules, c.in-Err-load.ensures.fault))
    (untouched g.D.Disk.content g.D.Disk.images g.D.Disk.moment g.D.Disk.left_since g.met.D.Disk.only_now c.args.disk.now) c.unloaded_reply.ensures.reply

pub returns-clause-told : goal.returns-clause-told
returns-clause-told g c =
    told_found _ _ _ (source_run g.S.Source.faults c.args.input.now c.read_file.new.input) (source_run g.K.Source.faults c.args.key.now c.load.new.key) _ c.in-Ok.settings c.in-Ok-load.keys _ _ c.in-Ok.ensures.read c.in-Ok-load.ensures.loaded
    (rw (c.identity-identity.ensures, c.with_keys-settings.ensures.keys) at c.found_once.ensures.reply)
