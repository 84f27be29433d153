use Rattle.std.proofs.Common.{◌≡◌, length}
use Rattle.common.specs.Lists.{items, room}
use Rattle.stream.specs.View.{view, terms}
use Rattle.survey.proofs.Pieces.{Goes_on}
use Rattle.survey.proofs.feeding.feed_all.Given as goal

abbrev pub invariant-loop : goal.invariant-loop
invariant-loop g l =
    (length l.piece ≡ length l.initial.piece)
    × Goes_on (terms (g.F.Framing.verdict l.framing) (g.F.Framing.reach l.framing) (g.G.Format.meaning l.formats) (room l.initial.register))
    (view l.initial.intake) (view l.intake) (items l.initial.register) (items l.register)
    × (room l.register ≡ room l.initial.register) × (l.register.table.ghost_name ≡ l.initial.register.table.ghost_name)
