use Rattle.stream.proofs.Turns.{deliver_tied}
use Rattle.stream.proofs.intake.Intake.deliver.Goals as goal

pub returns-clause-law : goal.returns-clause-law
returns-clause-law c t h es k = deliver_tied c.keep.ensures k
