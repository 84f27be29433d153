use Rattle.stream.proofs.Turns.{close_tied}
use Rattle.stream.proofs.intake.Intake.close.Goals as goal

pub returns-clause-law : goal.returns-clause-law
returns-clause-law c t h es k = close_tied c.mark_closed.ensures k
