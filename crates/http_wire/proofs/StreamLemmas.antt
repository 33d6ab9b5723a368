-- What a stream holds after one piece more.
use Rattle.std.specs.Prelude.{ℕ, List, Option, Some, None, ◌≡◌, ◌≤◌, ◌+◌, ◌++◌, length, take, drop}
use Rattle.std.proofs.Common.{take-append-drop, length-take-le, append_assoc}
use Rattle.std.proofs.Math.Seq.{take-append-add}
use Rattle.std.specs.Io.KnownBytes.{Appends, Keeps}
use Rattle.cmp_ports.specs.Whole.{AppendsPrefix}

-- a longer front is a front and what follows it
take_plus : (m n : ℕ) (xs : List ℕ) → m ≤ length xs → take (m + n) xs ≡ take m xs ++ take n (drop m xs)
take_plus m n xs h = cc (take-append-add (take m xs) (drop m xs) n, length-take-le m xs h, take-append-drop m xs)

-- one piece more of the text is written
pub written_more : (old mid new : Option (List ℕ)) (text : List ℕ) (done count : ℕ) → done ≤ length text
    → Appends old mid (take done text) → Appends mid new (take count (drop done text))
    → Appends old new (take (done + count) text)
written_more None mid new text done count h a b = tt
written_more (Some xs) None new text done count h a b = absurd a
written_more (Some xs) (Some ys) None text done count h a b = absurd b
written_more (Some xs) (Some ys) (Some zs) text done count h a b =
    cc (a, b, take_plus done count text h, append_assoc xs (take done text) (take count (drop done text)))

-- what is written so far stays where the next piece fails
pub written_kept : (old mid new : Option (List ℕ)) (text : List ℕ) (done : ℕ)
    → Appends old mid (take done text) → Keeps mid new → AppendsPrefix old new text
written_kept None mid new text done a b = (done, tt)
written_kept (Some xs) None new text done a b = absurd a
written_kept (Some xs) (Some ys) None text done a b = absurd b
written_kept (Some xs) (Some ys) (Some zs) text done a b = (done, cc (a, b))
