use Rattle.stream.proofs.Turns.{take_tied}
use Rattle.stream.proofs.intake.Intake.take.Goals as goal

pub returns-clause-law : goal.returns-clause-law
returns-clause-law g c h k = take_tied c.work_on.ensures.does k
