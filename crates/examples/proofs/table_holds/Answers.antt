use Rattle.std.proofs.Common.{refl, arith}
use Rattle.framing.specs.Checksum.{checksum}
use Rattle.reading.specs.Reading.{ends, cuts, skips, takes}
use Rattle.examples.proofs.table_holds.Goals as goal

pub returns : goal.returns
unfolding checksum
returns c = record {
  rows = refl;
  one = skips (omega arith) refl (takes (omega arith) refl (ends (omega arith)));
  two = cuts (omega arith) refl refl (skips (omega arith) refl (ends (omega arith)));
  item = refl;
  centre = refl;
}
