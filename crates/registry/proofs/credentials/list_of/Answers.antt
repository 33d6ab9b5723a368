use Rattle.std.proofs.Common.{◌≡◌, length, sym, ap, ◌∙◌, arith}
use Rattle.std.proofs.lemmas.List.{length_push}
use Rattle.toml.specs.View.{table_view}
use Rattle.registry.proofs.ListLemmas.{goes_on, ends, is_done, fit_push, among_push}
use Rattle.registry.proofs.credentials.list_of.Goals as goal

-- a table's fault ends the reading
pub returns-in-Err-clause-value : goal.returns-in-Err-clause-value
returns-in-Err-clause-value c =
    let index : c.len-index.result ≡ length c.loop-item.list.items = c.len-index.ensures ∙ sym c.as_slice.ensures.len ∙ ap length c.as_slice.ensures.value in
    rw index (ends c.args.kinds c.loop-item.list.items c.args.items.now c.loop-item.item-index c.item-item.result (table_view c.in-Some.table.now) c.in-Err.cause (omega arith)
    c.item-item.is (sym c.in-Some.ensures) (sym (rw c.as_slice.ensures.value at c.in-Err.ensures.value)) c.loop-item.invariant.read)

pub loop-item-preserved : goal.loop-item-preserved
loop-item-preserved c =
    let items = c.in_ok-push-in-Ok.ensures.items in
    rw items record {
      read = sym (goes_on c.args.kinds c.loop-item.list.items c.args.items.now c.loop-item.item-index c.item-item.result (table_view c.in-Some.table.now) c.in-Ok.credential (omega arith)
          c.item-item.is (sym c.in-Some.ensures) (sym (rw c.as_slice.ensures.value at c.in-Ok.ensures.value))) ∙ c.loop-item.invariant.read;
      counted = omega (arith, length_push c.loop-item.list.items c.in-Ok.credential);
      fit = fit_push c.loop-item.list.items c.in-Ok.credential c.loop-item.invariant.fit c.in-Ok.ensures.form c.in-Ok.ensures.bound (rw c.as_slice.ensures.value at c.in-Ok.ensures.new);
      among = among_push c.args.kinds c.loop-item.list.items c.in-Ok.credential c.loop-item.invariant.among c.in-Ok.ensures.among;
    }

pub returns-clause-value : goal.returns-clause-value
returns-clause-value c = is_done c.args.kinds c.loop-item.list.items c.args.items.now c.loop-item.item-index (omega arith) c.loop-item.invariant.read
