-- by the law of templates
use Rattle.asn_types.specs.Template.{template_of}
use Rattle.asn_types.proofs.TemplateLemmas.{template_is_read}
use Rattle.asn_types.proofs.ReadLemmas.{found_by, only_by}
use Rattle.asn_types.proofs.template.read_template.Goals as goal

pub returns-clause-found : goal.returns-clause-found
returns-clause-found c = found_by template_is_read template_of c.template_inside.result c.args.«content».now c.template_inside.ensures

pub returns-clause-only : goal.returns-clause-only
returns-clause-only c = only_by template_is_read template_of c.template_inside.result c.args.«content».now c.template_inside.ensures
