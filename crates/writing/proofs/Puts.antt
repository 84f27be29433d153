-- A part of a space zeroed. Assumes nothing.
use Rattle.std.proofs.Common.{◌≡◌, ℕ, ◌+◌, ◌≤◌, List, length, take, drop, replicate, arith}
use borrow.Rule.Slice.PartMut.{put_mid}
use Rattle.std.proofs.lemmas.Grind.{common_steps}
use Rattle.writing.specs.Drafts.{put_at}

-- a part of a space, zeroed
pub zeroed : (space part : List ℕ) (place k n : ℕ) → k ≡ n → place + n ≤ length space → part ≡ replicate (length (take k (drop place space))) 0
    → put_mid place k space part ≡ put_at place (replicate n 0) space
zeroed space part place k n same within zero = grind (arith, common_steps)
