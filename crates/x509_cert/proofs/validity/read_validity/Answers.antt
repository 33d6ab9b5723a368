-- the two times are those that were read
use Rattle.der_base.specs.Element.{element}
use Rattle.der_base.specs.Reading.{part_of}
use Rattle.x509_cert.specs.Validity.{time_tag}
use Rattle.x509_cert.proofs.ValidityLemmas.{time_element, dates_are}
use Rattle.x509_cert.proofs.validity.read_validity.Goals as goal

pub returns-in_err-to-clause-only : goal.returns-in_err-to-clause-only
returns-in_err-to-clause-only c = λ from to h.
    let first = c.in_ok-first.ensures.only (element (time_tag from) h.first) h.first (element (time_tag to) h.last) (time_tag from) (time_element from h.first h.begins) h.parts in
    let d = dates_are c.args.«content».now from to h (part_of c.in_ok-first.first) (part_of c.in_ok-last.last) c.in_ok-first.rest.now first (λ is. c.in_ok-last.ensures.only (time_tag to) h.last is) in
    let k = c.in_err-to.ensures.only to d.1.0 d.1.1 in
    cc

pub returns-clause-only : goal.returns-clause-only
returns-clause-only c = λ from to h.
    let first = c.in_ok-first.ensures.only (element (time_tag from) h.first) h.first (element (time_tag to) h.last) (time_tag from) (time_element from h.first h.begins) h.parts in
    let d = dates_are c.args.«content».now from to h (part_of c.in_ok-first.first) (part_of c.in_ok-last.last) c.in_ok-first.rest.now first (λ is. c.in_ok-last.ensures.only (time_tag to) h.last is) in
    let one = c.in_ok-from.ensures.only from d.0.0 d.0.1 in
    let two = c.in_ok-to.ensures.only to d.1.0 d.1.1 in
    cc
