use Rattle.stream.proofs.Audits.{one_answer}
use Rattle.stream.proofs.audit.one_answer.Goals as goal

pub returns : goal.returns
returns c = one_answer
