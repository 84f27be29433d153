use Rattle.std.proofs.Common.{◌≡◌, ◌-◌, ◌^◌, ◌≤◌, drop}
use Rattle.writing.proofs.Rewriting.{counted}
use Rattle.writing.proofs.again.total_size.Given as goal

abbrev pub invariant-loop-part : goal.invariant-loop-part
invariant-loop-part l =
    (counted l.«record» l.total (drop l.part-index l.parts) ≡ counted l.«record» 0 l.parts) × (l.total ≤ 2 ^ 64 - 1)
