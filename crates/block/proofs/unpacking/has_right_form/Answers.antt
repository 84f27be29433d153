use Rattle.std.proofs.Common.{◌≡◌, ◌+◌, ◌*◌, true, eqb, take, drop, sym, ap, ◌∙◌}
use Rattle.std.proofs.lemmas.Slice.{between_is}
use Rattle.block.specs.Parts.{all_zero}
use Rattle.block.specs.Blocks.{entries_end, count_right, count_of}
use Rattle.block.specs.Entries.{entry_size}
use Rattle.block.proofs.Blocks.{form_free}
use Rattle.block.proofs.unpacking.has_right_form.Goals as goal

pub returns-then-is_zero : goal.returns-then-is_zero
returns-then-is_zero c =
    let b = c.args.block.now in
    let i = c.args.i in
    let n = c.args.blocks in
    let count = c.count_in-count.ensures in
    let right : count_right (eqb (i + 1) n) (count_of b) ≡ true =
    ap (count_right (eqb (i + 1) n)) (sym count) ∙ sym c.if-not-is_right_count.ensures in
    c.is_zero-then-is_zero.ensures ∙ ap all_zero (between_is b (entry_size * c.count_in-count.result) entries_end)
    ∙ ap (λ m. all_zero (drop (entry_size * m) (take entries_end b))) count
    ∙ sym (form_free n i b right (sym c.number_in.ensures ∙ c.if-number_in-i.false) (sym c.if-is_zero.ensures))
