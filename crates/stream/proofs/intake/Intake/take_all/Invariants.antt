use Rattle.std.proofs.Common.{length}
use Rattle.common.specs.Lists.{items, room}
use Rattle.common.specs.Tables.{SameTable}
use Rattle.stream.specs.View.{view, terms}
use Rattle.stream.specs.Feeding.{Many}
use Rattle.stream.proofs.intake.Intake.take_all.Given as goal

abbrev pub invariant-loop-answer : goal.invariant-loop-answer
invariant-loop-answer g l =
    let t = terms (g.F.Framing.verdict l.framing) (g.F.Framing.reach l.framing) (g.G.Format.meaning l.formats) (room l.initial.register) in
    Many t (view l.initial.self) (items l.initial.register) l.initial.space (view l.self) (items l.register) l.space × SameTable l.initial.register l.register

abbrev pub decreases-loop-answer : goal.decreases-loop-answer
decreases-loop-answer g l = length (view l.self).waiting
