-- Items put behind those of a list. Assumes nothing.
use Rattle.std.specs.Prelude.{◌≡◌, List as Sequence, ◌++◌, length, drop}
use Rattle.common.specs.declared.list.List.{List}
use Rattle.common.specs.Lists.{items, room}

-- `after` is `before` with these items behind its own; the table is the same, and past the items it is as it was
pub record Added {X : Type 0} (before : List X) (xs : Sequence X) (after : List X) : Type 0 where
  pub holds : items after ≡ items before ++ xs
  pub same_room : room after ≡ room before
  pub rest : drop (length (items after)) after.table.now ≡ drop (length (items after)) before.table.now
  pub lends : after.table.ghost_name ≡ before.table.ghost_name
