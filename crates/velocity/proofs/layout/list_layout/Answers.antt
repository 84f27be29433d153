use Rattle.std.proofs.Common.{◌++◌, refl, subst, arith, length-append}
use Rattle.std.proofs.lemmas.Bool.{cond-true}
use Rattle.common.specs.Added.{Added}
use Rattle.common.proofs.Additions.{items_fit, added_more}
use Rattle.format.specs.Meaning.{accepted}
use Rattle.format.proofs.Additions.{leaves_added, leaves-short}
use Rattle.velocity.specs.Layout.{field_parts}
use Rattle.velocity.specs.Layouts.{field_parts_count}
use Rattle.velocity.proofs.Fields.{others_fit}
use Rattle.velocity.proofs.layout.list_layout.Goals as goal

pub returns-then-room-len : goal.returns-then-room-len
returns-then-room-len c =
    let fs = c.args.fields.now in
    let qs = c.args.others.now in
    let a = c.args.out.now in
    leaves-short (accepted (field_parts 1 fs ++ qs)) a a refl
    (omega (arith, length-append (field_parts 1 fs) qs, field_parts_count 1 fs, items_fit a, c.room.ensures, c.len.ensures))

pub returns : goal.returns
returns c =
    let fs = c.args.fields.now in
    let qs = c.args.others.now in
    let a = c.args.out.now in
    let b = c.add_fields.new.out in
    let free = others_fit a b fs qs c.add_fields.ensures (omega (arith, items_fit a, c.room.ensures, c.len.ensures)) in
    let more = subst (λ x. Added b x c.extend_from_slice.new.self) (cond-true _ _ _ free) c.extend_from_slice.ensures.added in
    leaves_added (accepted (field_parts 1 fs ++ qs)) a c.extend_from_slice.new.self refl
    (omega (arith, length-append (field_parts 1 fs) qs, field_parts_count 1 fs, items_fit a, c.room.ensures, c.len.ensures))
    (added_more a b c.extend_from_slice.new.self (field_parts 1 fs) qs c.add_fields.ensures more)
