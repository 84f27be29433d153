use Rattle.writing.proofs.SameBytes.{same_bytes}
use Rattle.writing.proofs.again.write_again.Goals as goal

pub returns-clause-same : goal.returns-clause-same
returns-clause-same c = same_bytes _ _ _ _ _ (λ i. (c.type_inv.record i).fits) c.rewrite.ensures
