use Rattle.std.proofs.Common.{◌+◌, ap, ◌∙◌, arith}
use Rattle.format.proofs.Commas.{fields_end, fields-star}
use Rattle.format.proofs.Fields.{going_at, counting, going_comma, going_other, going_end}
use Rattle.format.proofs.sentence.add_fields.Goals as goal
use Rattle.format.proofs.sentence.add_fields.Goals.{in-44, in_default, else-loop-b-test, then-loop-b-test+in-42}

pub loop-b-preserved : goal.loop-b-preserved
loop-b-preserved c =
    let s = c.args.text.now in
    let a = c.args.out.now in
    let i = c.loop-b.b-index in
    let f = c.loop-b.field in
    let out = c.loop-b.out in
    elim c.match-b.branch [
      | in-44 w ↦ going_at s a (i + 1) _ _ _ _ (w.field-is ∙ w.plain_part-field-in-44.ensures) w.out-is
          (going_comma s a i f out w.add.new.out c.loop-b.invariant (omega arith) w.in-44.is w.add.ensures)
      | in_default w ↦ going_at s a (i + 1) _ _ _ _ (w.field-is ∙ ap (counting f) c.loop-b.invariant.simple) w.out-is
          (going_other s a i f out c.loop-b.invariant (omega arith) (λ star. omega arith) (λ comma. omega arith))
    ]

pub returns : goal.returns
returns c =
    let s = c.args.text.now in
    let i = c.loop-b.b-index in
    let f = c.loop-b.field in
    elim c.loop-b-test.branch [
      | else-loop-b-test w ↦ going_end s c.args.out.now i f c.loop-b.out c.add-2.new.out c.loop-b.invariant
          (fields_end s i f.code f.place f.count (omega (arith, w.loop-b-test.false))) c.add-2.ensures
      | then-loop-b-test+in-42 w ↦ going_end s c.args.out.now i f c.loop-b.out c.add-2.new.out c.loop-b.invariant
          (fields-star s i w.loop-b-test.true f.code f.place f.count w.in-42.is) c.add-2.ensures
    ]
