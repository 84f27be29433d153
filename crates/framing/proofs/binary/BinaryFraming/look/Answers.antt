use Rattle.std.proofs.Common.{sym, subst}
use Rattle.framing.specs.Binary.{ExactlyFrames}
use Rattle.framing.proofs.BinaryFrames.{exactly_frames}
use Rattle.framing.proofs.binary.BinaryFraming.look.Goals as goal

pub returns-clause-frames : goal.returns-clause-frames
returns-clause-frames c = let s = c.args.bytes.now in subst (ExactlyFrames s) (sym c.judge.ensures) (exactly_frames s (λ i. (c.type_inv.bytes i).fits))
