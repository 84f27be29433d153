use Rattle.std.proofs.Common.{◌≡◌, ◌*◌, ◌++◌, length, drop, replicate, ap, ◌∙◌}
use Rattle.std.specs.List.{flat_map}
use Rattle.common.specs.Numbers.{le}
use Rattle.block.specs.Entries.{entry_size, entry_bytes}
use Rattle.block.specs.Blocks.{block_size}
use Rattle.block.proofs.Codec.{le_four}
use Rattle.block.proofs.Blocks.{before-sum, with_sum}
use Rattle.block.proofs.packing.write_block.Goals as goal

pub returns-clause-writes : goal.returns-clause-writes
returns-clause-writes c =
    let es = c.args.entries.now in
    let n = c.args.number in
    let few = c.requires.few in
    let zeros : c.fill.new.self ≡ replicate block_size 0 = c.fill.ensures.after (λ y h. h) ∙ ap (λ m. replicate m 0) c.requires.size in
    let space = before-sum n es few c.write_entries.new.area c.copy_from_slice.new.self c.copy_from_slice-2.new.self
    (c.write_entries.ensures.writes ∙ ap (λ t. flat_map entry_bytes es ++ drop (entry_size * length es) t) zeros)
    (c.copy_from_slice.ensures.after ∙ c.to_le_bytes.ensures)
    (c.copy_from_slice-2.ensures.after ∙ c.to_le_bytes-2.ensures ∙ le_four n) in
    with_sum n es few _ c.copy_from_slice-3.new.self space (c.copy_from_slice-3.ensures.after ∙ c.to_le_bytes-3.ensures ∙ ap (le 2) c.checksum_of-sum.ensures)
