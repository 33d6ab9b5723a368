-- what was written is read again
use Rattle.std.specs.Option.{option_copied}
use Rattle.pki_message.proofs.WrittenLemmas.{frame_written, message_written, written_size}
use Rattle.pki_message.proofs.writer.write_message.Goals as goal

pub returns-clause-size : goal.returns-clause-size
returns-clause-size c = written_size c.message_written.result c.args.header.now c.args.body.now (option_copied c.args.protection) (option_copied c.args.extra) c.message_written.ensures

pub returns-clause-frame : goal.returns-clause-frame
returns-clause-frame c = frame_written c.message_written.result c.args.header.now c.args.body.now (option_copied c.args.protection) (option_copied c.args.extra) c.requires c.message_written.ensures

pub returns-clause-message : goal.returns-clause-message
returns-clause-message c = message_written c.message_written.result c.args.header.now c.args.body.now (option_copied c.args.protection) (option_copied c.args.extra) c.requires c.message_written.ensures
