use Rattle.std.proofs.Common.{◌*◌, ◌++◌, drop, ap, ◌∙◌, arith}
use Rattle.block.specs.Blocks.{block_size}
use Rattle.block.specs.Packing.{blocks, packed}
use Rattle.block.proofs.Writes.{written_more, all_written}
use Rattle.block.proofs.packing.write_blocks.Goals as goal

pub loop-i-preserved : goal.loop-i-preserved
loop-i-preserved c =
    let steps = c.in-Some.ensures.steps in
    let cut = steps.0.1 in
    written_more c.args.entries.now c.args.space.now c.loop-i.space _ _ _ c.loop-i.invariant cut.2 c.in-Some.part.now _ cut.0 cut.1 c.requires.room
    c.in-Some.i _ _ _ c.write_block.new.space steps.1 steps.2 (omega arith) steps.0.0 c.write_block.ensures.writes c.write_block.ensures.fit

pub returns-clause-writes : goal.returns-clause-writes
unfolding packed
returns-clause-writes c =
    let end = all_written c.args.entries.now c.args.space.now c.loop-i.space _ _ _ c.loop-i.invariant c.in-None.ensures.steps.0.1.0 in
    c.loop-i.invariant.writes ∙ ap (λ n. blocks n c.args.entries.now ++ drop (block_size * n) c.args.space.now) end.0
