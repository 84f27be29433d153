use Rattle.std.proofs.Common.{◌≡◌, ◌+◌, [], ◌∷◌, ◌++◌, length, get_or, take, sym, ap, ◌∙◌, subst, arith}
use Rattle.std.proofs.lemmas.List.{take_more, take_all, length-take-le}
use Rattle.common.specs.Added.{Added}
use Rattle.common.proofs.Additions.{added_one, added_more}
use Rattle.velocity.proofs.Fields.{field_fits}
use Rattle.velocity.specs.Layout.{field_part, field_parts}
use Rattle.velocity.specs.Layouts.{no_field, field_parts_push}
use Rattle.velocity.proofs.layout.add_fields.Goals as goal

pub loop-i-preserved : goal.loop-i-preserved
loop-i-preserved c =
    let i = c.loop-i.i in
    let fs = c.args.fields.now in
    let f = get_or fs i no_field in
    let a = c.args.out.now in
    let b = c.push.new.self in
    let said = c.push.ensures in
    let room = field_fits a c.loop-i.out fs i c.loop-i.invariant (omega arith) (omega (arith, c.requires)) in
    let one = added_one c.loop-i.out b c.field_part.result room said.items said.table said.lends in
    let coded : i + 1 ≡ 1 + length (take i fs) = omega (arith, length-take-le i fs (omega arith)) in
    let more : field_parts 1 (take i fs) ++ (field_part (i + 1) f ∷ []) ≡ field_parts 1 (take (i + 1) fs) =
    rw (coded) (sym (field_parts_push 1 (take i fs) f)) ∙ ap (field_parts 1) (sym (take_more fs i no_field (omega arith))) in
    subst (λ x. Added a x b) (ap (λ p. field_parts 1 (take i fs) ++ (p ∷ [])) c.field_part.ensures ∙ more)
    (added_more a c.loop-i.out b (field_parts 1 (take i fs)) _ c.loop-i.invariant one)

pub returns : goal.returns
returns c =
    let i = c.loop-i.i in
    let fs = c.args.fields.now in
    subst (λ x. Added c.args.out.now (field_parts 1 x) c.loop-i.out) (take_all i fs (omega arith)) c.loop-i.invariant
