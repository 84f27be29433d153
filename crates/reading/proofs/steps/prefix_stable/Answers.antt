use Rattle.reading.proofs.Readings.{goes_on}
use Rattle.reading.proofs.steps.prefix_stable.Goals as goal

pub returns : goal.returns
returns c verdict reach laws s t closed p e e' rs rs' x y = goes_on laws s t x y
