use Rattle.std.proofs.Common.{ℕ, List}
use Rattle.reading.specs.Reading.{Found, Reading}
use Rattle.reading.proofs.steps.search.Given as goal

-- a reading from here is one from the start
abbrev pub invariant-loop-place : goal.invariant-loop-place
invariant-loop-place g l =
    let verdict = g.F.Framing.verdict l.framing in
    (rs : List Found) (e : ℕ) → Reading verdict l.closed l.bytes l.place rs e → Reading verdict l.closed l.bytes l.from rs e
