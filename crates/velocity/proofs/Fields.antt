-- Fields put behind the other parts. Assumes nothing.
use Rattle.std.proofs.Common.{◌≡◌, ◌+◌, ◌<◌, ◌≤◌, List as Sequence, true, ℕ, length, take, ap, ◌∙◌, arith, length-append}
use Rattle.std.proofs.lemmas.Bool.{le-leb}
use Rattle.std.proofs.lemmas.List.{length-take-le}
use Rattle.common.specs.declared.list.List.{List}
use Rattle.common.specs.Added.{Added}
use Rattle.common.specs.Lists.{items, room, has_room_for}
use Rattle.common.proofs.Additions.{room_for_more}
use Rattle.format.specs.declared.format.Part.{Part}
use Rattle.velocity.specs.declared.layout.Field.{Field}
use Rattle.velocity.specs.Layout.{field_parts}
use Rattle.velocity.specs.Layouts.{field_parts_count}

-- behind the fields there is room for the others
pub others_fit : (a b : List Part) (fs : Sequence Field) (qs : Sequence Part) → Added a (field_parts 1 fs) b → length (items a) + (length fs + length qs) ≤ room a
    → has_room_for (length qs) b ≡ true
others_fit a b fs qs h l =
    le-leb _ _ (omega (arith, ap length h.holds ∙ length-append (items a) (field_parts 1 fs), field_parts_count 1 fs, h.same_room))

-- while fewer were added than there are, there is room for another
pub field_fits : (a b : List Part) (fs : Sequence Field) (i : ℕ) → Added a (field_parts 1 (take i fs)) b → i < length fs → length (items a) + length fs ≤ room a
    → length (items b) < room b
field_fits a b fs i h l fits =
    room_for_more a b (field_parts 1 (take i fs)) h (omega (arith, field_parts_count 1 (take i fs), length-take-le i fs (omega arith)))
