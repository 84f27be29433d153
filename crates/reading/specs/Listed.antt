-- The frames of a whole stream, listed. Assumes nothing.
use Rattle.std.specs.Prelude.{◌≡◌, ℕ, ◌+◌, true, List, ◌∷◌, ◌++◌, map, length, vec_items, vec_len, codes, decimal, sum_by}
use Rattle.framing.specs.declared.verdict.Verdict.{Verdict}
use Rattle.reading.specs.declared.listing.Line.{Line}
use Rattle.reading.specs.declared.listing.Listing.{Listing}
use Rattle.reading.specs.Reading.{Found, Reading, series_of}

-- what is listed of a record
abbrev pub line_of : Found → Line
line_of f = record { place = f.place; len = length f.bytes; kind = f.kind; series = series_of f.kind f.bytes }

-- how many bytes the records have together
abbrev pub framed : List Found → ℕ
framed rs = sum_by (λ f. length f.bytes) rs

-- a listing of a stream that is closed: its frames are the records of the stream's reading, and every byte is in one of them or passed over
pub record Listed (verdict : List ℕ → Verdict) (s : List ℕ) (l : Listing) : Type 0 where
  pub records : List Found
  pub all : l.bytes ≡ length s
  pub reading : Reading verdict true s 0 records (length s)
  pub frames : vec_items l.frames ≡ map line_of records
  pub inside : l.in_frames ≡ framed records
  pub passed : l.in_frames + l.passed ≡ length s

-- a frame's line of text: place, length, kind and series, in decimal, with single blanks
abbrev pub frame_text : Line → List ℕ
frame_text f = decimal f.place ++ (32 ∷ (decimal f.len ++ (32 ∷ (decimal f.kind ++ (32 ∷ decimal f.series)))))

-- the line of totals: bytes, frames, bytes in frames, bytes passed over
abbrev pub totals_text : Listing → List ℕ
totals_text l =
    codes "bytes " ++ (decimal l.bytes ++ (codes " frames " ++ (decimal (vec_len l.frames)
    ++ (codes " framed " ++ (decimal l.in_frames ++ (codes " passed " ++ decimal l.passed))))))
