-- what was written is a name
use Rattle.asn_types.proofs.NameLemmas.{named_by}
use Rattle.asn_types.proofs.common_name.write_cn.Goals as goal

pub returns-clause-named : goal.returns-clause-named
returns-clause-named c = named_by c.common_name_octets.result c.args.text.now c.requires c.common_name_octets.ensures
