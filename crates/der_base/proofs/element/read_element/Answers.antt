-- The clauses follow from what reading a list gives.
use Rattle.der_base.proofs.ElementLemmas.{element_tells}
use Rattle.der_base.proofs.ReaderLemmas.{chain, reader_found, reader_only, reader_fault, reader_never}
use Rattle.der_base.specs.declared.fault.DerFault.TheVariants.{Short, BadTag, BadLength}
use Rattle.der_base.proofs.element.read_element.Goals as goal

pub returns-clause-found : goal.returns-clause-found
returns-clause-found c = reader_found _ _ c.split_element.ensures.exact

pub returns-clause-only : goal.returns-clause-only
returns-clause-only c = reader_only _ _ c.split_element.ensures.exact

pub returns-clause-short : goal.returns-clause-short
returns-clause-short c = chain (reader_fault _ _ Short c.split_element.ensures.exact) (element_tells c.args.bytes.now).short

pub returns-clause-bad_tag : goal.returns-clause-bad_tag
returns-clause-bad_tag c = chain (reader_fault _ _ BadTag c.split_element.ensures.exact) (element_tells c.args.bytes.now).bad_tag

pub returns-clause-bad_length : goal.returns-clause-bad_length
returns-clause-bad_length c = chain (reader_fault _ _ BadLength c.split_element.ensures.exact) (element_tells c.args.bytes.now).bad_length

pub returns-clause-trailing : goal.returns-clause-trailing
returns-clause-trailing c = reader_never _ _ c.split_element.ensures.exact
