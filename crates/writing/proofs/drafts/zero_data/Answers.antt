use Rattle.std.proofs.Common.{arith}
use Rattle.writing.proofs.Puts.{zeroed}
use Rattle.writing.proofs.drafts.zero_data.Goals as goal

pub returns-then-len-gt0 : goal.returns-then-len-gt0
returns-then-len-gt0 c = zeroed c.args.space.now _ 10 _ c.args.len (omega arith) (omega arith) c.zero.ensures
