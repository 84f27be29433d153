-- What a draft holds, and what its calls answer and leave. Assumes nothing.
use Rattle.std.specs.Prelude.{◌≡◌, ℕ, ◌+◌, ◌≤◌, Bool, cond, ◌&&◌, List, ◌++◌, length, take, drop, Ok, Err, Result, nat_le, slice_index}
use Rattle.common.specs.declared.refusal.Refusal.{Refusal}
use Rattle.framing.specs.declared.verdict.Verdict.TheVariants.{Frame}
use Rattle.framing.specs.Binary.{binary, header_of}
use Rattle.framing.specs.Plan.{judged}
use Rattle.writing.specs.declared.draft.Draft.{Draft}
use Rattle.writing.specs.declared.drafts.DraftFull.{DraftFull}

-- how many bytes a header has, and how many data bytes a frame may have
abbrev pub header_size : ℕ
header_size = 10

abbrev pub most_data : ℕ
most_data = 8182

-- the data of a draft: those added, in the order in which they were added
abbrev pub content : Draft → List ℕ
content d = take d.len (drop header_size d.space.now)

-- some bytes put over those of a space from a place on
abbrev pub put_at : ℕ → List ℕ → List ℕ → List ℕ
put_at place bytes space = take place space ++ (bytes ++ drop (place + length bytes) space)

-- whether a space of this many bytes has room for this many data bytes behind a header, and a frame may have so many
abbrev pub fits : ℕ → ℕ → Bool
fits space data-bytes = nat_le (header_size + data-bytes) space && nat_le data-bytes most_data

abbrev pub full : DraftFull
full = record {}

abbrev pub told : DraftFull → Refusal
told _ = record { number = 25; layer = 3; place = 0 }

-- whether a draft has room for more data
abbrev pub has_room : Draft → List ℕ → Bool
has_room d more = fits (length d.space.now) (length (content d) + length more)

-- what adding some data leaves: they stand behind the data so far, and all else is as it was; refused, all is as it was
pub record Adds (before : Draft) (more : List ℕ) (after : Draft) (r : Result (Unit {0}) DraftFull) : Type 0 where
  pub says : r ≡ cond (has_room before more) (Ok tt) (Err full)
  pub holds : content after ≡ cond (has_room before more) (content before ++ more) (content before)
  pub leaves : after.space.now
      ≡ cond (has_room before more) (put_at (header_size + length (content before)) more before.space.now) before.space.now
  pub same_series : after.series ≡ before.series

-- what sealing a draft leaves of its space, given its series and data: the header of these data and the data behind it, and the rest as it was; the
-- answer is the frame's length. A space that has no room for a header is as it was, and the answer is 0
pub record Seals (series : ℕ) (d before after : List ℕ) (r : ℕ) : Type 0 where
  pub says : r ≡ cond (nat_le header_size (length before)) (header_size + length d) 0
  pub leaves : after ≡ cond (nat_le header_size (length before)) (header_of series d ++ (d ++ drop (header_size + length d) before)) before
  -- what was written is a frame of kind 1, whatever stands behind it
  pub reads : header_size ≤ length before → (rest : List ℕ) → judged binary (take r after ++ rest) ≡ Frame r 1
  pub reads_there : header_size ≤ length before → judged binary after ≡ Frame r 1
  -- the series and the data of that frame
  pub same_series : header_size ≤ length before → slice_index after 2 ≡ series
  pub same_data : header_size ≤ length before → drop header_size (take r after) ≡ d

-- a frame of a series and some data, written to the front of a space: its length, and the rest of the space as it was; or, where there is no room, a
-- refusal, and all as it was
pub record Writes (series : ℕ) (d before after : List ℕ) (r : Result ℕ DraftFull) : Type 0 where
  pub says : r ≡ cond (fits (length before) (length d)) (Ok (header_size + length d)) (Err full)
  pub leaves : after ≡ cond (fits (length before) (length d)) (header_of series d ++ (d ++ drop (header_size + length d) before)) before
