use Rattle.std.proofs.Common.{◌≡◌, length, Some, true, refl, ap, ◌∙◌, arith, w32, w64, SFits, rules}
use Rattle.std.proofs.lemmas.Int.{to_z-of_z}
use Rattle.format.specs.Items.{value}
use Rattle.format.proofs.Numbers.{value-four, number-four}
use Rattle.format.proofs.items.read_number.Goals as goal

pub returns-in-len4 : goal.returns-in-len4
returns-in-len4 c =
    let s = c.args.bytes.now in
    let four : length s ≡ 4 = omega arith in
    let wide : SFits w64 c.from-in-len4.result = search rules in
    let fits : SFits w32 c.from_le_bytes-in-len4.result = search rules in
    let same = to_z-of_z w64 _ wide ∙ c.from-in-len4.ensures ∙ to_z-of_z w32 _ fits ∙ c.from_le_bytes-in-len4.ensures in
    number-four c.args.signed s _ four c.if-signed-3.true same
