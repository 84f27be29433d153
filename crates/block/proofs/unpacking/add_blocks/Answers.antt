use Rattle.std.proofs.Common.{[], get_or, refl, arith}
use Rattle.block.specs.Blocks.{entries_of}
use Rattle.block.proofs.Blocks.{count_long, entries_count}
use Rattle.block.proofs.Gains.{added_step, step_fits}
use Rattle.block.proofs.unpacking.add_blocks.Goals as goal

pub add_entries-requires-clause-room : goal.add_entries-requires-clause-room
add_entries-requires-clause-room c =
    let blocks = c.args.blocks.now in
    let i = c.loop-block.block-index in
    omega (
      arith,
      step_fits c.args.out.now c.loop-block.out entries_of blocks i [] c.loop-block-test.true c.loop-block.invariant
          (omega (arith, entries_count blocks, c.requires.room)),
      count_long (get_or blocks i []),
    )

pub loop-block-preserved : goal.loop-block-preserved
loop-block-preserved c =
    added_step c.args.out.now c.loop-block.out entries_of c.args.blocks.now c.loop-block.block-index [] c.loop-block-test.true c.loop-block.invariant
    c.add_entries.new.out _ refl c.add_entries.ensures
