use Rattle.std.proofs.Common.{◌≡◌, ◌+◌, ◌%◌, take}
use Rattle.std.specs.List.{sum_by}
use Rattle.std.specs.Int.{from_le_bytes, w16}
use Rattle.framing.proofs.checksum.word_sum.Given as goal

abbrev pub invariant-loop-word : goal.invariant-loop-word
invariant-loop-word l = l.sum ≡ (0xB58C + sum_by (from_le_bytes w16) (take l.word-index l.words)) % 65536
