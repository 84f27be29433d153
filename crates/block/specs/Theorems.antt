-- What is promised of blocks, as theorems over the definitions. Assumes nothing.
use Rattle.std.specs.Prelude.{◌≡◌, ℕ, ◌<◌, ◌≤◌, List, Ok, slice_index}
use Rattle.std.specs.List.{AllByRecursion}
use Rattle.register.specs.declared.entry.Entry.{Entry}
use Rattle.block.specs.Entries.{Fits}
use Rattle.block.specs.Packing.{most_blocks, needed, packed}
use Rattle.block.specs.Unpacking.{unpacked}

-- the fields of all entries fit, and the entries need no more blocks than a register has
pub record Register (es : List Entry) : Type 0 where
  pub fits : AllByRecursion Fits es
  pub few : needed es ≤ most_blocks

-- Packing and unpacking undo each other. The unpacking of a register's blocks gives its entries; and bytes that are not refused are
-- the blocks of a register, of the entries that they give.
pub record OneForm : Type 0 where
  pub back : (es : List Entry) → Register es → unpacked (packed es) ≡ Ok es
  pub only : (bytes : List ℕ) (es : List Entry) → ((i : ℕ) → slice_index bytes i < 256) → unpacked bytes ≡ Ok es → Register es × (bytes ≡ packed es)
