-- The rows over the places are those of the head.
use Rattle.std.proofs.Common.{refl}
use Rattle.http_heads.proofs.HeadLemmas.{turned, by_target, by_fields, served_by}
use Rattle.http_heads.proofs.look.asked_by.Goals as goal

pub returns-in-Some : goal.returns-in-Some
returns-in-Some c =
    let h = c.requires.is_head.0 in
    let at = c.requires.is_head.1 in
    turned _ _ _ h _ at c.requires.few c.requires.short (by_target _ _ _ h _ _ _ at c.of.ensures c.of-2.ensures c.in-Some.ensures)

pub returns-in-Err : goal.returns-in-Err
returns-in-Err c =
    let h = c.requires.is_head.0 in
    let at = c.requires.is_head.1 in
    turned _ _ _ h _ at c.requires.few c.requires.short (by_fields _ _ _ _ h _ _ _ at c.of.ensures c.of-2.ensures c.in_default.ensures refl c.in-Err.ensures)

pub returns-in-Ok : goal.returns-in-Ok
returns-in-Ok c =
    let h = c.requires.is_head.0 in
    let at = c.requires.is_head.1 in
    let why = by_fields _ _ _ _ h _ _ _ at c.of.ensures c.of-2.ensures c.in_default.ensures refl c.in-Ok.ensures.0 in
    served_by _ _ _ h _ _ at c.requires.few c.requires.short c.requires.within.section.len_fits why c.in-Ok.ensures.1 c.asks_end.ensures
