-- Packing: the blocks of a register's entries. Assumes nothing.
use Rattle.std.specs.Prelude.{ℕ, ◌+◌, ◌-◌, ◌*◌, ◌/◌, Bool, ◌&&◌, List, length, nat_le}
use Rattle.common.specs.declared.refusal.Refusal.{Refusal}
use Rattle.register.specs.declared.entry.Entry.{Entry}
use Rattle.block.specs.declared.packing.PackFault.{PackFault}
use Rattle.block.specs.declared.packing.PackFault.TheVariants.{NoSpace}
use Rattle.block.specs.Parts.{part, each}
use Rattle.block.specs.Blocks.{per_block, block_size, block}

-- a register has at most this many blocks
abbrev pub most_blocks : ℕ
most_blocks = 128

-- how many blocks some entries need
abbrev pub needed : List Entry → ℕ
needed es = (length es + (per_block - 1)) / per_block

-- the first n blocks of some entries: block i holds part i of the entries, cut into parts that fill a block
abbrev pub blocks : ℕ → List Entry → List ℕ
blocks n es = each (λ i. block i (part per_block i es)) n

-- the blocks of some entries: all of them but the last are full
unfoldable pub packed : List Entry → List ℕ
packed es = blocks (needed es) es

-- whether the entries need no more blocks than a register has, and a space of this length has room for them
abbrev pub fits : List Entry → ℕ → Bool
fits es space = nat_le (needed es) most_blocks && nat_le (block_size * needed es) space

abbrev pub told : PackFault → Refusal
told NoSpace = record { number = 27; layer = 4; place = 0 }
