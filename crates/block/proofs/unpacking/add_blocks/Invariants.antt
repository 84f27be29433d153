use Rattle.std.proofs.Common.{take}
use Rattle.std.specs.List.{flat_map}
use Rattle.common.specs.Added.{Added}
use Rattle.block.specs.Blocks.{entries_of}
use Rattle.block.proofs.unpacking.add_blocks.Given as goal

abbrev pub invariant-loop-block : goal.invariant-loop-block
invariant-loop-block l = Added l.initial.out (flat_map entries_of (take l.block-index l.blocks)) l.out
