use Rattle.stream.proofs.Audits.{cuts_do_not_matter}
use Rattle.stream.proofs.audit.cuts_do_not_matter.Goals as goal

pub returns : goal.returns
returns c = cuts_do_not_matter
