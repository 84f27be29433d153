use Rattle.std.proofs.Common.{refl, arith}
use Rattle.format.specs.Meaning.{accepted}
use Rattle.format.specs.Sentence.{fields}
use Rattle.format.specs.Sentences.{field_count}
use Rattle.common.proofs.Additions.{items_fit}
use Rattle.format.proofs.Additions.{leaves_added, leaves-short}
use Rattle.format.proofs.sentence.list_fields.Goals as goal

pub returns-then-room-len : goal.returns-then-room-len
returns-then-room-len c =
    let s = c.args.text.now in
    let a = c.args.out.now in
    leaves-short (accepted (fields 1 1 0 s)) a a refl
    (omega (arith, field_count 1 1 0 s, items_fit a, c.room.ensures, c.len.ensures, c.comma_count.ensures))
