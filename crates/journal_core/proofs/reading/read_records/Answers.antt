use Rattle.std.proofs.Common.{◌≡◌, inr, ◌++◌, length, drop, refl, sym, ◌∙◌, subst}
use Rattle.journal_core.specs.Log.{framed, IsWhole}
use Rattle.journal_core.proofs.Records.{headed, next_small, next_record, next_offset, broken_at}
use Rattle.journal_core.proofs.reading.read_records.Goals as goal

pub returns-in-None-clause-reads : goal.returns-in-None-clause-reads
returns-in-None-clause-reads c =
    let i = c.records.invariant in
    let one = headed c.records.rest.now i.some c.records-test.true in
    let broken : IsWhole (drop 1 c.records.rest.now) → ⊥ = λ whole. c.in-None.ensures (subst IsWhole (sym c.split_at-in-records.ensures.back) whole) in
    (c.requires.founded, inr (broken_at c.args.magic.now c.args.image.now c.records.rest.now c.records.payloads.items c.records.at i.small i.image one i.at broken))

pub records-preserved : goal.records-preserved
records-preserved c =
    let i = c.records.invariant in
    let one = headed c.records.rest.now i.some c.records-test.true in
    let whole : drop 1 c.records.rest.now ≡ framed c.in-Some.parts.0.now ++ c.in-Some.parts.1.now = sym c.split_at-in-records.ensures.back ∙ c.in-Some.ensures.0 in
    record {
      small = next_small c.args.magic.now c.in-Some.parts.0.now c.records.payloads.items c.keep.new.payloads.items c.in-Ok.ensures i.small c.in-Some.ensures.2;
      image = next_record c.args.magic.now c.in-Some.parts.0.now c.records.payloads.items c.keep.new.payloads.items c.in-Ok.ensures c.args.image.now c.records.rest.now c.in-Some.parts.1.now i.image one whole;
      at = next_offset c.args.magic.now c.in-Some.parts.0.now c.records.payloads.items c.keep.new.payloads.items c.in-Ok.ensures c.records.at (length c.in-Some.parts.0.now) i.at refl;
      some = c.in-Some.ensures.1;
    }
