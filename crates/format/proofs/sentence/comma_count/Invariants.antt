use Rattle.std.proofs.Common.{◌≡◌, ◌+◌, ◌≤◌, drop}
use Rattle.format.specs.Sentence.{commas}
use Rattle.format.proofs.sentence.comma_count.Given as goal

abbrev pub invariant-loop-b : goal.invariant-loop-b
invariant-loop-b l = (l.n + commas (drop l.b-index l.text) ≡ commas l.text) × (l.n ≤ l.b-index)
