use Rattle.std.proofs.Common.{◌<◌, ltb, [], ◌∷◌, ◌++◌, length, Ok, refl, ap, ◌∙◌, arith}
use Rattle.std.proofs.lemmas.Bool.{lt-ltb, cond-true}
use Rattle.common.specs.Lists.{items, room}
use Rattle.stream.specs.declared.answers.Taken.TheVariants.{Record}
use Rattle.stream.specs.View.{brings, rests}
use Rattle.stream.proofs.intake.Intake.work_on.Goals as goal

pub returns-in-Record-clause-does : goal.returns-in-Record-clause-does
returns-in-Record-clause-does g c =
    let es = items c.args.register.now in
    let n = room c.args.register.now in
    let free : length es < n = omega (arith, c.if-len-min.false, c.len.ensures, c.room.ensures, c.min.ensures) in
    let entry = c.entry_at-entry.ensures in
    brings (omega (arith, c.if-space-limit.false, c.limit.ensures)) (omega (arith, c.if-len-min.false, c.len.ensures, c.room.ensures, c.min.ensures))
    c.in-Record.place c.in-Record.len c.in-Record.kind c.in-Record.ensures.next (ap (λ e. Ok (Record e)) entry) c.advance.ensures
    (c.push.ensures.items ∙ cond-true (ltb (length es) n) _ _ (lt-ltb (length es) n free) ∙ ap (λ e. es ++ (e ∷ [])) entry) c.copy_out.ensures

pub returns-in-End-clause-does : goal.returns-in-End-clause-does
returns-in-End-clause-does g c =
    rests (omega (arith, c.if-space-limit.false, c.limit.ensures)) (omega (arith, c.if-len-min.false, c.len.ensures, c.room.ensures, c.min.ensures))
    c.in-End.place c.in-End.ensures.next (ap Ok c.without_record-answer.ensures) c.skip.ensures.view refl refl
