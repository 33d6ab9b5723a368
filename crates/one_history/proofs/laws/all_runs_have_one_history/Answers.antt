use Rattle.one_history.proofs.Law.{law}
use Rattle.one_history.proofs.laws.all_runs_have_one_history.Goals as goal

pub returns : goal.returns
returns g c = law c.at_most_one_answer.ensures c.legal_histories_grow.ensures.grows c.legal_histories.ensures.grants c.each_leaf_has_one_text.ensures c.what_is_sent_is_signed_so.ensures.replies c.grants_only_on_proof.ensures
    g.D.Disk (record { honest = g.met.D.Disk.honest; counts_now = g.met.D.Disk.counts_now })
