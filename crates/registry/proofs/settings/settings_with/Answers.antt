use Rattle.std.proofs.Common.{refl, ◌∙◌, ap, arith}
use Rattle.asn_types.specs.Name.{common_name}
use Rattle.registry.proofs.FoundLemmas.{name_short, made}
use Rattle.registry.proofs.settings.settings_with.Goals as goal

pub write_cn-requires : goal.write_cn-requires
write_cn-requires c = rw c.as_bytes.ensures.value (omega (arith, name_short c.args.fields.now.name.now c.requires.name_high))

pub returns-clause-founds : goal.returns-clause-founds
returns-clause-founds c =
    made c.args.fields.now c.in_ok-write_cn.field-0 c.blank_key.result c.blank_key-2.result c.requires
    (c.in_ok-write_cn.ensures.written ∙ ap common_name c.as_bytes.ensures.value) c.blank_key.ensures c.blank_key-2.ensures

pub returns-clause-unmade : goal.returns-clause-unmade
returns-clause-unmade c =
    let fields = c.args.fields.now in
    record {
      time = refl;
      issue_key = record { tree = fields.issue_tree; ots = fields.issue_ots; tree_in = c.requires.issue_tree; ots_in = c.requires.issue_ots; blank = c.blank_key.ensures };
      reply_key = record { tree = fields.reply_tree; ots = fields.reply_ots; tree_in = c.requires.reply_tree; ots_in = c.requires.reply_ots; blank = c.blank_key-2.ensures };
    }
