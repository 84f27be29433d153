use Rattle.std.proofs.Common.{sym}
use Rattle.common.specs.Lists.{items}
use Rattle.stream.specs.View.{view}
use Rattle.stream.specs.Feeding.{none, more}
use Rattle.stream.proofs.Feedings.{grows, same_table, its_own_table, at_room, takes_law}
use Rattle.stream.proofs.intake.Intake.take_all.Goals as goal

pub loop-answer-init : goal.loop-answer-init
loop-answer-init g c = (none, its_own_table)

pub loop-answer-preserved : goal.loop-answer-preserved
loop-answer-preserved g c =
    let i = c.loop-answer.invariant in
    let d = c.take-answer.ensures.does in (
      more i.0 (at_room i.1.same_room d) (sym c.if-not-is_record.ensures),
      same_table (grows d) i.1 c.take-answer.ensures.table,
    )

pub returns-then-not-is_record-clause-does : goal.returns-then-not-is_record-clause-does
returns-then-not-is_record-clause-does g c =
    let i = c.loop-answer.invariant in
    record {
      held = view c.loop-answer.self;
      listed = items c.loop-answer.register;
      left = c.loop-answer.space;
      many = i.0;
      last = at_room i.1.same_room c.take-answer.ensures.does;
      ends = sym c.if-not-is_record.ensures;
    }

pub returns-then-not-is_record-clause-law : goal.returns-then-not-is_record-clause-law
returns-then-not-is_record-clause-law g c = takes_law (returns-then-not-is_record-clause-does g c)
