use Rattle.std.proofs.Common.{◌/◌, length, take, ap, ◌∙◌, arith}
use Rattle.std.specs.Simd.{first_chunks}
use Rattle.block.specs.Entries.{entry_size}
use Rattle.block.proofs.Parts.{take-pieces}
use Rattle.block.proofs.unpacking.slots.Goals as goal

pub returns : goal.returns
returns c =
    let b = c.args.block.now in
    ap (take c.count_in.result) c.as_chunks.ensures.front
    ∙ take-pieces entry_size (length b / entry_size) b c.count_in.result (omega (arith, c.told-block, c.count_in.ensures, c.requires))
    ∙ ap (λ m. first_chunks entry_size m b) c.count_in.ensures
