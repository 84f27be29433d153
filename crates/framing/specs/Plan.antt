-- How a framing comes to its verdict: by a plan of what to look at, each step knowing the bytes before it. Assumes nothing.
use Rattle.std.specs.Prelude.{◌≡◌, ℕ, ◌+◌, ◌≤◌, max, Bool, true, false, cond, List, length, take, drop, nat_le, nat_lt}
use Rattle.std.specs.List.{prefix_len}
use Rattle.framing.specs.declared.verdict.Verdict.{Verdict}
use Rattle.framing.specs.declared.verdict.Verdict.TheVariants.{NoFrame, Short, Frame}

pub data Plan : Type 0 where
  -- there is no frame
  none : Plan
  -- there is a frame of this length and kind
  frame : ℕ → ℕ → Plan
  -- wait for this many bytes in all, and go on by what they are
  await : ℕ → (List ℕ → Plan) → Plan
  -- from this place on, count the bytes that pass a test, up to the first that does not; more than this many are no frame;
  -- go on by their number
  span : ℕ → (ℕ → Bool) → ℕ → (ℕ → Plan) → Plan

-- where the counting has come to no end yet, and where it has
abbrev pub spanned : Bool → Bool → Verdict → Verdict
spanned ended false v = NoFrame
spanned true true v = v
spanned false true v = Short

-- the verdict of a plan on some bytes
abbrev pub judged : Plan → List ℕ → Verdict
judged none s = NoFrame
judged (frame n k) s = Frame n k
judged (await n go) s = cond (nat_lt (length s) n) Short (judged (go (take n s)) s)
judged (span from test most go) s =
    let n : ℕ = prefix_len test (drop from s) in
    spanned (nat_lt (from + n) (length s)) (nat_le n most) (judged (go n) s)

-- a plan that never waits for more than `reach` bytes, and never calls a frame what it has not waited for: `seen` bytes are there
abbrev pub Sound : ℕ → ℕ → Plan → Type 0
Sound reach seen none = Unit {0}
Sound reach seen (frame n k) = (1 ≤ n) × (n ≤ seen) × (n ≤ reach)
Sound reach seen (await n go) = (n ≤ reach) × ((s : List ℕ) → length s ≡ n → Sound reach (max seen n) (go s))
Sound reach seen (span from test most go) =
    (from ≤ seen) × (from + most + 1 ≤ reach) × ((n : ℕ) → n ≤ most → Sound reach (max seen (from + n + 1)) (go n))

-- go on only where a test holds
abbrev pub given : Bool → Plan → Plan
given b p = cond b p none
