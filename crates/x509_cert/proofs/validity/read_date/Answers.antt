-- the time that the text spells is the one that was read
use Rattle.x509_cert.proofs.ValidityLemmas.{time_under}
use Rattle.x509_cert.proofs.validity.read_date.Goals as goal

pub returns-in_err-t-clause-only : goal.returns-in_err-t-clause-only
returns-in_err-t-clause-only c = λ t e h. let k = c.in_err-t.ensures.only t (time_under c.args.tag t c.args.«content».now c.args.«content».now e h) in cc

pub returns-then-tag-time_tag-clause-only : goal.returns-then-tag-time_tag-clause-only
returns-then-tag-time_tag-clause-only c = λ t e h. let k = c.in_ok-t.ensures.only t (time_under c.args.tag t c.args.«content».now c.args.«content».now e h) in cc

pub returns-else-tag-time_tag-clause-only : goal.returns-else-tag-time_tag-clause-only
returns-else-tag-time_tag-clause-only c = λ t e h. let k = c.in_ok-t.ensures.only t (time_under c.args.tag t c.args.«content».now c.args.«content».now e h) in absurd (c.if-tag-time_tag.false (cc (c.time_tag.ensures)))
