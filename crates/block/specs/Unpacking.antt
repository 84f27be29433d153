-- Unpacking: the entries of a register's blocks, or what is wrong with them. Assumes nothing.
use Rattle.std.specs.Prelude.{◌≡◌, ℕ, ◌≤◌, ◌-◌, ◌*◌, ◌/◌, ◌%◌, Bool, cond, ◌&&◌, not, List, [], length, Some, None, Ok, Err, Option, Result, ◌==◌, nat_le}
use Rattle.std.specs.List.{All, flat_map, sum_by, position, enumerate_from}
use Rattle.std.specs.Simd.{first_chunks}
use Rattle.common.specs.declared.list.List.{List as ListedIn}
use Rattle.common.specs.Lists.{items, room}
use Rattle.common.specs.declared.refusal.Refusal.{Refusal}
use Rattle.register.specs.declared.entry.Entry.{Entry}
use Rattle.block.specs.declared.unpacking.UnpackFault.{UnpackFault}
use Rattle.block.specs.declared.unpacking.UnpackFault.TheVariants.{NotBlocks, WrongSum, WrongForm, TableShort}
use Rattle.block.specs.Blocks.{block_size, per_block, sum_right, form_right, count_of, entries_of}
use Rattle.block.specs.Packing.{most_blocks}

-- how many blocks some bytes are
abbrev pub block_count : List ℕ → ℕ
block_count bytes = length bytes / block_size

-- whether they are whole blocks, and at most as many as a register has
abbrev pub whole : List ℕ → Bool
whole bytes = length bytes % block_size == 0 && nat_le (block_count bytes) most_blocks

-- the blocks that they are cut into
abbrev pub blocks_in : List ℕ → List (List ℕ)
blocks_in bytes = first_chunks block_size (block_count bytes) bytes

-- the first block with a wrong checksum
abbrev pub wrong_sum : List (List ℕ) → Option ℕ
wrong_sum blocks = position (λ b. not (sum_right b)) blocks

-- the first block with a wrong count, number, zeros or free entries
abbrev pub wrong_form : List (List ℕ) → Option ℕ
wrong_form blocks = position (λ p. not (form_right (length blocks) p.0 p.1)) (enumerate_from 0 blocks)

-- the entries that some bytes are the blocks of: the first question that says no refuses them
unfoldable pub unpacked : List ℕ → Result (List Entry) UnpackFault
unpacked bytes =
    cond (whole bytes)
    (elim (wrong_sum (blocks_in bytes)) [
      | Some i ↦ Err (WrongSum i)
      | None ↦ elim (wrong_form (blocks_in bytes)) [ Some i ↦ Err (WrongForm i) | None ↦ Ok (flat_map entries_of (blocks_in bytes)) ]
    ])
    (Err NotBlocks)

-- the blocks that bytes are cut into, where every question says yes
pub record Judged (bytes : List ℕ) (blocks : List (List ℕ)) : Type 0 where
  pub few : sum_by count_of blocks ≤ per_block * most_blocks
  pub counts : All (λ block. count_of block ≤ per_block) blocks
  pub entries : unpacked bytes ≡ Ok (flat_map entries_of blocks)

-- how many entries more a list has room for
abbrev pub free : ListedIn Entry → ℕ
free l = room l - length (items l)

-- the answer to a table with room for this many entries more, and the entries that it gets
abbrev pub answer : Result (List Entry) UnpackFault → ℕ → Result (Unit {0}) UnpackFault
answer (Ok es) room = cond (nat_le (length es) room) (Ok tt) (Err TableShort)
answer (Err fault) room = Err fault

abbrev pub given : Result (List Entry) UnpackFault → ℕ → List Entry
given (Ok es) room = cond (nat_le (length es) room) es []
given (Err fault) room = []

-- each refusal's number and place
abbrev pub told : UnpackFault → Refusal
told NotBlocks = record { number = 28; layer = 4; place = 0 }
told (WrongSum i) = record { number = 29; layer = 4; place = i }
told (WrongForm i) = record { number = 30; layer = 4; place = i }
told TableShort = record { number = 31; layer = 4; place = 0 }
