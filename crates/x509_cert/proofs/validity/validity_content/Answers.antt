-- two texts of times are short
use Rattle.std.proofs.Common.{ℕ, ◌<◌, List, length, sym, subst, ◌∙◌}
use Rattle.x509_cert.proofs.ValidityLemmas.{validity_written}
use Rattle.x509_cert.proofs.validity.validity_content.Goals as goal

pub returns-clause-short : goal.returns-clause-short
returns-clause-short c = subst (λ (l : List ℕ). length l < 64) (sym (c.of.ensures ∙ c.finish.ensures)) (validity_written _ c.put_date.new.writer c.put_date-2.new.writer c.args.from c.args.to c.new-writer.ensures c.in_ok-put_date.ensures c.in_ok-put_date-2.ensures).1
