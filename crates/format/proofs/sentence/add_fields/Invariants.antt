use Rattle.format.proofs.Fields.{Going}
use Rattle.format.proofs.sentence.add_fields.Given as goal

abbrev pub invariant-loop-b : goal.invariant-loop-b
invariant-loop-b l = Going l.text l.initial.out l.b-index l.field l.out
