use Rattle.std.proofs.Common.{◌≤◌, length, take}
use Rattle.common.specs.Lists.{items, room}
use Rattle.common.specs.Tables.{SameTable}
use Rattle.stream.specs.View.{view, terms}
use Rattle.stream.specs.Requests.{Carries}
use Rattle.stream.proofs.runs.run.Given as goal

-- the requests so far carry every history on, and the register is over the same table, whose rest is as it was
abbrev pub invariant-loop-request : goal.invariant-loop-request
invariant-loop-request g l =
    let t = terms (g.F.Framing.verdict l.framing) (g.F.Framing.reach l.framing) (g.G.Format.meaning l.formats) (room l.initial.register) in
    Carries t l.bytes (take l.request-index l.requests) (view l.initial.intake) (view l.intake) (items l.initial.register) (items l.register) l.initial.space l.space
    × (length (items l.initial.register) ≤ length (items l.register)) × SameTable l.initial.register l.register
