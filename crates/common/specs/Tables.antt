-- Lists over one table. Assumes nothing.
use Rattle.std.specs.Prelude.{◌≡◌, length, drop}
use Rattle.common.specs.declared.list.List.{List}
use Rattle.common.specs.Lists.{items, room}

-- `after` is over the table of `before`, which lies where it did and is as long, and past the items of `after` holds what it held
pub record SameTable {X : Type 0} (before after : List X) : Type 0 where
  pub same_room : room after ≡ room before
  pub rest : drop (length (items after)) after.table.now ≡ drop (length (items after)) before.table.now
  pub lends : after.table.ghost_name ≡ before.table.ghost_name
