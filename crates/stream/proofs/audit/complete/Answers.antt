use Rattle.stream.proofs.Audits.{complete}
use Rattle.stream.proofs.audit.complete.Goals as goal

pub returns : goal.returns
returns c = complete
