-- The binary framing, kind 1: a header of ten bytes with its own checksum, and the data behind it. Assumes nothing.
use Rattle.std.specs.Prelude.{◌≡◌, ℕ, ◌+◌, ◌*◌, ◌/◌, ◌%◌, ◌≤◌, Bool, ◌&&◌, List, [], ◌∷◌, ◌++◌, length, take, drop, ◌==◌, nat_le, slice_index}
use Rattle.framing.specs.declared.verdict.Verdict.{Verdict}
use Rattle.framing.specs.declared.verdict.Verdict.TheVariants.{Frame}
use Rattle.framing.specs.Checksum.{checksum}
use Rattle.framing.specs.Plan.{Plan, frame, await, given}

-- the 16-bit little-endian word at a place
abbrev pub word : List ℕ → ℕ → ℕ
word s i = slice_index s i + 256 * slice_index s (i + 1)

-- of the ten bytes of a header: the family is 0x10, the last word is the checksum of the eight bytes before it,
-- and there are at most 8,182 data bytes
abbrev pub headed : List ℕ → Bool
headed h = slice_index h 3 == 0x10 && (word h 8 == checksum (take 8 h) && nat_le (word h 4) 8182)

-- behind a header: as many data bytes as it says, with the checksum that it says
abbrev pub body : List ℕ → Plan
body h = await (10 + word h 4) λ s. given (checksum (drop 10 s) == word h 6) (frame (10 + word h 4) 1)

-- the header, once its first two bytes are right
abbrev pub header : Plan
header = await 10 λ h. given (headed h) (body h)

-- the sync byte, the header's size, the rest of the header, the data
abbrev pub binary : Plan
binary = await 1 λ s. given (slice_index s 0 == 0xA5) (await 2 λ s. given (slice_index s 1 == 10) header)

-- a word as its two bytes, the low one first
abbrev pub bytes_of : ℕ → List ℕ
bytes_of n = n % 256 ∷ (n / 256 ∷ [])

-- the first eight bytes of the header of some data under a series, and the whole header
abbrev pub header_front : ℕ → List ℕ → List ℕ
header_front series d = 0xA5 ∷ (10 ∷ (series ∷ (0x10 ∷ (bytes_of (length d) ++ bytes_of (checksum d)))))

abbrev pub header_of : ℕ → List ℕ → List ℕ
header_of series d = header_front series d ++ bytes_of (checksum (header_front series d))

-- some bytes begin with a frame of n bytes: the header of some series and some data of at most 8,182 bytes, and then these data
pub record Framed (s : List ℕ) (n : ℕ) : Type 0 where
  pub series : ℕ
  pub content : List ℕ
  pub rest : List ℕ
  pub fits : length content ≤ 8182
  pub begins : s ≡ header_of series content ++ (content ++ rest)
  pub long : n ≡ 10 + length content

-- the verdict on some bytes is a frame of n bytes exactly when they begin with one, and its kind is 1
abbrev pub ExactlyFrames : List ℕ → Verdict → Type 0
ExactlyFrames s r = (n k : ℕ) → (r ≡ Frame n k → (k ≡ 1) × Framed s n) × (k ≡ 1 → Framed s n → r ≡ Frame n k)
