-- The laws of a disk in memory. No clause names them, so a reader can skip them.
use Rattle.std.specs.Prelude.{◌≡◌, ℕ, ◌≤◌, List, Some}
use Rattle.std.proofs.Common.{subst, sym}
use Rattle.cmp_ports.specs.declared.mem_disk.MemDisk.{MemDisk}
use Rattle.cmp_ports.specs.ReplayLaws.{content_is_image, image_was, image_is}
use Rattle.cmp_ports.specs.MemDisk.{memory_content, memory_first, memory_calls, memory_images, memory_moment, memory_since}

pub counts_now : (d : MemDisk) (t : ℕ) (c : List ℕ) → t ≤ memory_moment d → memory_images d c → memory_since d t c
counts_now d t c le image = image_was (memory_first d) (memory_calls d) t c le image

pub only_now : (d : MemDisk) (c : List ℕ) → memory_since d (memory_moment d) c → memory_images d c
only_now d c was = image_is (memory_first d) (memory_calls d) c was

pub is_honest : (d : MemDisk) (f : List ℕ) → Some (memory_content d) ≡ Some f → memory_images d f
is_honest d f is =
    let same : memory_content d ≡ f = cc is in
    subst (λ (c : List ℕ). memory_images d c) same (subst (λ (c : List ℕ). memory_images d c) (sym d.tape.replayed) (content_is_image (memory_first d) (memory_calls d)))
