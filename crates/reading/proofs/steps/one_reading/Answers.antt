use Rattle.reading.proofs.Readings.{exists, unique}
use Rattle.reading.proofs.steps.one_reading.Goals as goal

pub returns : goal.returns
returns c verdict reach laws closed s = let r = exists laws closed s 0 in (r.0, r.1, r.2, λ rs' e' x. unique r.2 x)
