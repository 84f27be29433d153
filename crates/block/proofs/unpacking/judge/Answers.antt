use Rattle.std.proofs.Common.{sym}
use Rattle.block.proofs.Registers.{judged}
use Rattle.block.proofs.unpacking.judge.Goals as goal

pub returns : goal.returns
returns c =
    judged c.args.bytes.now c.as_chunks.result.0.now c.as_chunks.ensures.front (sym c.if-not-are_blocks.ensures) (sym c.in_default.ensures)
    (sym c.in_default-first_wrong_form.ensures)
