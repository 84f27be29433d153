use Rattle.std.proofs.Common.{◌≡◌, ◌+◌, drop}
use Rattle.format.specs.Sentence.{comma_at}
use Rattle.format.proofs.sentence.last_comma.Given as goal

abbrev pub invariant-loop-i : goal.invariant-loop-i
invariant-loop-i l = comma_at l.others (l.i + 1) (drop l.i l.text) ≡ comma_at 63 1 l.text
