use Rattle.std.proofs.Common.{◌+◌, ◌-◌, ◌*◌, drop, take, ap, ◌∙◌, arith}
use Rattle.std.specs.Option.{ok_or}
use Rattle.format.specs.declared.items.ItemFault.TheVariants.{NoItem}
use Rattle.format.proofs.Numbers.{item_in, item_is}
use Rattle.format.proofs.items.item.Goals as goal

pub returns : goal.returns
returns c =
    let s = c.args.bytes.now in
    let p = c.args.part in
    let found = c.in_ok-items.ensures in
    let start = p.width * c.args.i in
    let width = start + p.width - start in
    let same = ap (λ t. take width (drop start t)) found.1 ∙ item_in s p c.args.i found.0 c.if-i-part.false width (omega arith) in
    c.ok_or.ensures.value ∙ ap (λ r. ok_or r NoItem) c.read_number.ensures ∙ item_is s p c.args.i found.0 c.if-i-part.false _ same
