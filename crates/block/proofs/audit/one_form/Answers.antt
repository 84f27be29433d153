use Rattle.block.proofs.Registers.{one_form}
use Rattle.block.proofs.audit.one_form.Goals as goal

pub returns : goal.returns
returns c = one_form
