use Rattle.std.proofs.Common.{◌≡◌, ◌*◌, ◌≤◌, length, take, drop, ap, ◌∙◌, arith}
use Rattle.std.proofs.lemmas.List.{take_at}
use Rattle.block.specs.Blocks.{block_size}
use Rattle.block.specs.Packing.{most_blocks, needed, packed}
use Rattle.block.specs.Unpacking.{unpacked}
use Rattle.block.proofs.Registers.{packed-long, unpacked-back}
use Rattle.block.proofs.packing.pack.Goals as goal

pub returns-clause-back : goal.returns-clause-back
returns-clause-back c =
    let es = c.args.entries.now in
    let n = c.div_ceil-count.result in
    let few : needed es ≤ most_blocks = omega arith in
    let long : length (packed es) ≡ block_size * n = omega (arith, packed-long es) in
    ap (λ t. unpacked (take (block_size * n) t)) c.write_blocks.ensures.writes
    ∙ ap unpacked (take_at (packed es) (drop (block_size * needed es) c.args.space.now) (block_size * n) long)
    ∙ unpacked-back es (record { fits = c.write_blocks.ensures.fit; few = few })
