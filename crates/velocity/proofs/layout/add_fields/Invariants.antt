use Rattle.std.proofs.Common.{take}
use Rattle.common.specs.Added.{Added}
use Rattle.velocity.specs.Layout.{field_parts}
use Rattle.velocity.proofs.layout.add_fields.Given as goal

abbrev pub invariant-loop-i : goal.invariant-loop-i
invariant-loop-i l = Added l.initial.out (field_parts 1 (take l.i l.fields)) l.out
