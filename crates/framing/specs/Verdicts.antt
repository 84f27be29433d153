-- What a framing says of some bytes, and the laws that make its answers fit for a stream. Assumes nothing.
use Rattle.std.specs.Prelude.{◌≡◌, ℕ, ◌≤◌, List, [], ◌++◌, length, ◌≢◌}
use Rattle.framing.specs.declared.verdict.Verdict.{Verdict}
use Rattle.framing.specs.declared.verdict.Verdict.TheVariants.{NoFrame, Short, Frame}

-- `verdict` is what is said of a list of bytes, and `reach` the number of bytes that always suffice to tell
pub record Laws (verdict : List ℕ → Verdict) (reach : ℕ) : Type 0 where
  pub reach_low : 1 ≤ reach
  pub reach_high : reach ≤ 8192
  -- on no bytes the verdict is `Short`
  pub empty : verdict [] ≡ Short
  -- a frame has at least one byte, lies within the bytes that were looked at, and within the reach
  pub within : (s : List ℕ) (n k : ℕ) → verdict s ≡ Frame n k → (1 ≤ n) × (n ≤ length s) × (n ≤ reach)
  -- a verdict other than `Short` stays whatever comes behind
  pub stays : (s t : List ℕ) → (verdict s ≢ Short) → verdict (s ++ t) ≡ verdict s
  -- on as many bytes as the reach the verdict is not `Short`
  pub decided : (s : List ℕ) → reach ≤ length s → verdict s ≢ Short

-- the first verdict, and the second where the first is no frame
abbrev pub or_else : Verdict → Verdict → Verdict
or_else NoFrame v = v
or_else Short v = Short
or_else (Frame n k) v = Frame n k
