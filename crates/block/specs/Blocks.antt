-- Blocks: what one holds, and when one is right. Assumes nothing.
use Rattle.std.specs.Prelude.{ℕ, ◌+◌, ◌-◌, ◌*◌, Bool, cond, ◌&&◌, List, ◌++◌, length, map, take, drop, replicate, ◌==◌, nat_le}
use Rattle.std.specs.List.{flat_map}
use Rattle.std.specs.Simd.{first_chunks}
use Rattle.common.specs.Numbers.{number, le}
use Rattle.framing.specs.Checksum.{checksum}
use Rattle.register.specs.declared.entry.Entry.{Entry}
use Rattle.block.specs.Parts.{all_zero}
use Rattle.block.specs.Entries.{entry_size, entry_bytes, entry_of}

-- how many entries a block has room for, how many bytes they take, and where the count, the number, the zeros and the checksum stand
abbrev pub per_block : ℕ
per_block = 31

abbrev pub entries_end : ℕ
entries_end = entry_size * per_block

abbrev pub number_place : ℕ
number_place = entries_end + 2

abbrev pub zeros_place : ℕ
zeros_place = number_place + 4

abbrev pub sum_place : ℕ
sum_place = zeros_place + 8

-- how many bytes a block has
abbrev pub block_size : ℕ
block_size = sum_place + 2

-- a block up to its checksum: the entries, the free entries, the count, the block's number, eight zeros
unfoldable pub front : ℕ → List Entry → List ℕ
front i es =
    flat_map entry_bytes es ++ (replicate (entry_size * (per_block - length es)) 0 ++ (le 2 (length es) ++ (le 4 i ++ replicate 8 0)))

-- the block with this number that holds these entries
unfoldable pub block : ℕ → List Entry → List ℕ
block i es = front i es ++ le 2 (checksum (front i es))

-- the count, the number and the checksum that a block says
abbrev pub count_of : List ℕ → ℕ
count_of b = number (take 2 (drop entries_end b))

abbrev pub number_of : List ℕ → ℕ
number_of b = number (take 4 (drop number_place b))

abbrev pub sum_of : List ℕ → ℕ
sum_of b = number (take 2 (drop sum_place b))

-- the entries of a block
abbrev pub entries_of : List ℕ → List Entry
entries_of b = map entry_of (first_chunks entry_size (count_of b) b)

-- the checksum is right
abbrev pub sum_right : List ℕ → Bool
sum_right b = sum_of b == checksum (take sum_place b)

-- all blocks but the last are full, and the last holds 1 entry or more
abbrev pub count_right : Bool → ℕ → Bool
count_right last count = cond last (nat_le 1 count && nat_le count per_block) (count == per_block)

-- the free entries are zero
abbrev pub free_right : List ℕ → Bool
free_right b = all_zero (drop (entry_size * count_of b) (take entries_end b))

-- block i of n has the right count and number, zeros where zeros stand, and free entries that are zero
abbrev pub form_right : ℕ → ℕ → List ℕ → Bool
form_right n i b =
    count_right (i + 1 == n) (count_of b) && (number_of b == i && (all_zero (take 8 (drop zeros_place b)) && free_right b))
