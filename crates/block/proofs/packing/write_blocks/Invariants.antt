use Rattle.std.specs.Iterator.Adapters.{enumerate_source, enumerate_count}
use Rattle.std.specs.Slice.Iter.{chunks_rest, chunks_size}
use Rattle.block.proofs.Writes.{Written}
use Rattle.block.proofs.packing.write_blocks.Given as goal

abbrev pub invariant-loop-i : goal.invariant-loop-i
invariant-loop-i l =
    let parts = enumerate_source l.i-iterator in
    Written l.entries l.initial.space l.space (chunks_rest parts) (chunks_size parts) (enumerate_count l.i-iterator)
