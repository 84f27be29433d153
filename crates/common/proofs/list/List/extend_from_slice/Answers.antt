use Rattle.std.proofs.Common.{refl, arith}
use Rattle.common.proofs.Extends.{extended}
use Rattle.common.proofs.list.List.extend_from_slice.Goals as goal

pub returns-clause-added : goal.returns-clause-added
returns-clause-added g c = extended c.args.self.now _ c.args.xs.now _ _ (omega arith) (omega arith) c.copy_from_slice.ensures.after refl refl refl
