-- What a list over a table holds. Assumes nothing.
use Rattle.std.specs.Prelude.{ℕ, ◌+◌, Bool, List as Sequence, length, take, nat_le, nat_lt}
use Rattle.common.specs.declared.list.List.{List}
use Rattle.common.specs.declared.lists.Full.{Full}

module _ {X : Type 0} where
  -- the items, in the order in which they were added
  abbrev pub items : List X → Sequence X
  items l = take l.len l.table.now

  -- how many items the table has room for
  abbrev pub room : List X → ℕ
  room l = length l.table.now

  -- whether there is room for one item more
  abbrev pub has_room : List X → Bool
  has_room l = nat_lt (length (items l)) (room l)

  -- whether there is room for n items more
  abbrev pub has_room_for : ℕ → List X → Bool
  has_room_for n l = nat_le (length (items l) + n) (room l)

-- the refusal of a full list
abbrev pub full : Full
full = record {}
