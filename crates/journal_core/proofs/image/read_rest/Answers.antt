use Rattle.std.proofs.Common.{rules, ◌≡◌, false, length, ◌∙◌, arith}
use Rattle.std.proofs.lemmas.Bool.{not-true}
use Rattle.journal_core.proofs.Records.{read_whole}
use Rattle.journal_core.proofs.image.read_rest.Goals as goal

pub returns-then-not-branch-clause-whole : goal.returns-then-not-branch-clause-whole
returns-then-not-branch-clause-whole g c = λ f told.
    let none : c.in_ok-read_piece.field-0 ≡ false = search (rules, not-true) in
    let inside = c.pieces.invariant.same ∙ told in
    read_whole c.read_piece.new.image.items f (c.read_piece.ensures.so_far f inside) (c.in_ok-read_piece.ensures.end none f inside)

pub returns-clause-whole : goal.returns-clause-whole
returns-clause-whole g c = λ f told.
    let count : c.len.result ≡ length c.pieces.image.items = search rules in
    read_whole c.pieces.image.items f (c.pieces.invariant.so_far f told) (omega (arith, c.requires.size f told, c.pieces-test.false, count))
