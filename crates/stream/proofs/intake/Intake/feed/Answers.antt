use Rattle.std.proofs.Common.{rules}
use Rattle.stream.proofs.Feedings.{feeding, not_fed, feeding_law}
use Rattle.stream.proofs.intake.Intake.feed.Goals as goal

pub returns-clause-does : goal.returns-clause-does
returns-clause-does g c = feeding c.in_ok-accept.ensures c.take_all.ensures.does

pub returns-clause-law : goal.returns-clause-law
returns-clause-law g c = feeding_law (returns-clause-does g c)

pub returns-in_err-accept-clause-does : goal.returns-in_err-accept-clause-does
returns-in_err-accept-clause-does g c = not_fed c.in_err-accept.ensures (search rules)
