use Rattle.std.proofs.Common.{rules, ◌≡◌, ℕ, List, ◌++◌, length, take, drop, sym, ◌∙◌, ap}
use Rattle.journal_core.proofs.Records.{read_more}
use Rattle.journal_core.proofs.image.read_piece.Goals as goal

pub returns-in-Ok-extend_from_slice-clause-so_far :
    goal.returns-in-Ok-extend_from_slice-clause-so_far
returns-in-Ok-extend_from_slice-clause-so_far g c = λ f told.
    let image = c.args.image.now.items in
    let piece = c.read_at.new.into in
    let at : c.len-at.result ≡ length c.args.image.now.items = search rules in
    let size : length (take c.in-Ok.count c.read_at.new.into) ≡ c.in-Ok.count = ap length (sym c.split_at.ensures.front) ∙ c.split_at.ensures.front_len in
    read_more image c.extend_from_slice.new.self.items piece f c.in-Ok.count (c.requires.so_far f told)
    (c.in-Ok-extend_from_slice.ensures.items ∙ ap (λ (l : List ℕ). c.args.image.now.items ++ l) c.split_at.ensures.front)
    size
    (c.in-Ok.ensures.octets f told ∙ ap (λ (n : ℕ). take c.in-Ok.count (drop n f)) at)
