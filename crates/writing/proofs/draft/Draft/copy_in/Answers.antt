use Rattle.std.proofs.Common.{refl}
use Rattle.writing.proofs.Adds.{adds}
use Rattle.writing.proofs.draft.Draft.copy_in.Goals as goal

pub returns-clause-does : goal.returns-clause-does
returns-clause-does c = adds c.args.self.now _ c.args.data.now c.requires c.put.ensures refl refl
