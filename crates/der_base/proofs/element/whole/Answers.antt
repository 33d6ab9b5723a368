-- The clauses follow from what reading the one element of a list gives.
use Rattle.der_base.proofs.ReaderLemmas.{chain, whole_found, whole_only, whole_fault, short_whole, bad_tag_whole, bad_length_whole, goes_on}
use Rattle.der_base.specs.declared.fault.DerFault.TheVariants.{Short, BadTag, BadLength, Trailing}
use Rattle.der_base.proofs.element.whole.Goals as goal

pub returns-clause-found : goal.returns-clause-found
returns-clause-found c = whole_found _ _ c.sole_element.ensures.exact

pub returns-clause-only : goal.returns-clause-only
returns-clause-only c = whole_only _ _ c.sole_element.ensures.exact

pub returns-clause-short : goal.returns-clause-short
returns-clause-short c = chain (whole_fault _ _ Short c.sole_element.ensures.exact) (short_whole c.args.bytes.now)

pub returns-clause-bad_tag : goal.returns-clause-bad_tag
returns-clause-bad_tag c = chain (whole_fault _ _ BadTag c.sole_element.ensures.exact) (bad_tag_whole c.args.bytes.now)

pub returns-clause-bad_length : goal.returns-clause-bad_length
returns-clause-bad_length c = chain (whole_fault _ _ BadLength c.sole_element.ensures.exact) (bad_length_whole c.args.bytes.now)

pub returns-clause-trailing : goal.returns-clause-trailing
returns-clause-trailing c = chain (whole_fault _ _ Trailing c.sole_element.ensures.exact) (goes_on c.args.bytes.now)
