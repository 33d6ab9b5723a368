-- What a call of a book leaves.
use Rattle.std.specs.Prelude.{◌≡◌, ◌⊎◌, ℕ, List, Option, Some, IsSome}
use Rattle.cmp_ports.specs.declared.disk.Disk.{Ghosts}
use Rattle.leaf_book.specs.declared.book.LeafBook.{LeafBook}
use Rattle.leaf_book.specs.declared.fault.ReserveFault.{ReserveFault}
use Rattle.leaf_book.specs.declared.fault.ReserveFault.TheVariants.{Spent, DiskFault, NoMemory}
use Rattle.leaf_book.specs.Leaves.{Digests}

-- the digests of the texts that a book has given its leaves to, that of leaf 0 first
abbrev pub given_of : {D : Type 0} {g : Ghosts D} → LeafBook D g → Digests
given_of book = book.given.items

-- Where all leaves are used or memory ran out, what is in doubt stays so. Where the disk failed this digest is in doubt, or what was
-- in doubt still is.
abbrev pub IsLeft : Option (List ℕ) → List ℕ → ReserveFault → Option (List ℕ) → Type 0
IsLeft before own Spent now = now ≡ before
IsLeft before own DiskFault now = (now ≡ Some own) ⊎ (IsSome before × (now ≡ before))
IsLeft before own NoMemory now = now ≡ before
