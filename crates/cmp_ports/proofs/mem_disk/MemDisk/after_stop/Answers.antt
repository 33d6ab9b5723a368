use Rattle.std.proofs.Common.{◌≡◌, ℕ, List, ◌∙◌, refl, sym, ap, subst, take}
use Rattle.cmp_ports.specs.declared.mem_disk.call.Call.{Call}
use Rattle.cmp_ports.specs.Replay.{IsImage, left_after}
use Rattle.cmp_ports.specs.ReplayLaws.{left_image}
use Rattle.cmp_ports.specs.MemDisk.{memory_first, memory_calls}
use Rattle.cmp_ports.proofs.mem_disk.MemDisk.after_stop.Goals as goal

-- what a stop leaves is an image
stopped : (choice : ℕ) (first first' : List ℕ) (calls calls' : List Call) (left : List ℕ) → first' ≡ first → calls' ≡ calls → left ≡ left_after choice first' first' calls' → IsImage first calls left
stopped choice first first' calls calls' left same_first same_calls is =
    let image : IsImage first calls (left_after choice first first calls) = left_image choice first first (λ (d : List ℕ). d ≡ first) calls refl in
    let same : left ≡ left_after choice first first calls = is ∙ ap (λ (f : List ℕ). left_after choice f f calls') same_first ∙ ap (λ (l : List Call). left_after choice first first l) same_calls in
    subst (λ (c : List ℕ). IsImage first calls c) (sym same) image

pub returns-clause-image : goal.returns-clause-image
returns-clause-image c =
    let calls : c.split_at.result.0.now ≡ take c.args.calls (memory_calls c.args.self.now) = c.split_at.ensures.front ∙ ap (λ (l : List Call). take c.args.calls l) c.calls.ensures in
    stopped c.args.choice (memory_first c.args.self.now) c.first.result.now _ c.split_at.result.0.now _ c.first.ensures calls (c.new.ensures.fresh.content ∙ c.in_ok-left.ensures)
