use Rattle.std.proofs.Common.{◌-◌, true, length, vec_items}
use Rattle.reading.proofs.Lists.{Upto, Lines}
use Rattle.reading.proofs.listing.list_frames.Given as goal

abbrev pub invariant-loop-start : goal.invariant-loop-start
invariant-loop-start g l =
    (u : Upto (g.F.Framing.verdict l.framing) true l.bytes l.place) × Lines u (vec_items l.frames) l.in_frames l.passed

abbrev pub decreases-loop-start : goal.decreases-loop-start
decreases-loop-start g l = length l.bytes - l.place
