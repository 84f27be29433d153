-- The reading of a stream: which records it has, and where it stops or ends. Assumes nothing.
use Rattle.std.specs.Prelude.{◌≡◌, ℕ, ◌+◌, ◌<◌, ◌≤◌, Bool, true, false, cond, ◌&&◌, List, [], ◌∷◌, ◌++◌, length, take, drop, ◌==◌, nat_le, slice_index}
use Rattle.framing.specs.declared.verdict.Verdict.{Verdict}
use Rattle.framing.specs.declared.verdict.Verdict.TheVariants.{NoFrame, Short, Frame}
use Rattle.reading.specs.declared.steps.Next.{Next}
use Rattle.reading.specs.declared.steps.Next.TheVariants.{Record, End}
use Rattle.framing.specs.Verdicts.{Laws}

-- a record: how many bytes of the stream stand before it, its bytes, and its kind
pub record Found : Type 0 where
  pub place : ℕ
  pub bytes : List ℕ
  pub kind : ℕ

-- the record that a frame of n bytes at place p of a stream is
abbrev pub found : List ℕ → ℕ → ℕ → ℕ → Found
found s p n k = record { place = p; bytes = take n (drop p s); kind = k }

-- From place p on, the reading of the stream s, closed or still open, has the records rs, and stops or ends at place e.
-- `verdict` is the framing's; at each place it is asked of the rest of the stream.
pub data Reading (verdict : List ℕ → Verdict) (closed : Bool) (s : List ℕ) : ℕ → List Found → ℕ → Type 0 where
  -- where no byte is left it ends
  ends : {p : ℕ} → length s ≤ p → Reading verdict closed s p [] p
  -- more bytes are needed to tell, and may still come
  stops : {p : ℕ} → p < length s → verdict (drop p s) ≡ Short → closed ≡ false → Reading verdict closed s p [] p
  -- more bytes are needed, and none will come: one byte is passed over
  cuts : {p e : ℕ} {rs : List Found} → p < length s → verdict (drop p s) ≡ Short → closed ≡ true
      → Reading verdict closed s (p + 1) rs e → Reading verdict closed s p rs e
  -- no frame begins here: one byte is passed over
  skips : {p e : ℕ} {rs : List Found} → p < length s → verdict (drop p s) ≡ NoFrame
      → Reading verdict closed s (p + 1) rs e → Reading verdict closed s p rs e
  -- a frame is a record, and the reading goes on behind it
  takes : {p e n k : ℕ} {rs : List Found} → p < length s → verdict (drop p s) ≡ Frame n k
      → Reading verdict closed s (p + n) rs e → Reading verdict closed s p (found s p n k ∷ rs) e

-- every stream, open or closed, has exactly one reading
abbrev pub OneReading : Type 0
OneReading =
    (verdict : List ℕ → Verdict) (reach : ℕ) → Laws verdict reach → (closed : Bool) (s : List ℕ)
    → (rs : List Found) × (e : ℕ) × Reading verdict closed s 0 rs e
    × ((rs' : List Found) (e' : ℕ) → Reading verdict closed s 0 rs' e' → (rs ≡ rs') × (e ≡ e'))

-- what an open reading has found stays found, and what it has passed over stays passed over: with any bytes behind, open or
-- closed, the reading has the same records first, and then those from where the open one stood
abbrev pub PrefixStable : Type 0
PrefixStable =
    (verdict : List ℕ → Verdict) (reach : ℕ) → Laws verdict reach → (s t : List ℕ) (closed : Bool)
    → (p e e' : ℕ) (rs rs' : List Found)
    → Reading verdict false s p rs e → Reading verdict closed (s ++ t) e rs' e' → Reading verdict closed (s ++ t) p (rs ++ rs') e'

-- in the reading from a place on, the first record is the one of `len` bytes at `place`
pub record Comes (verdict : List ℕ → Verdict) (closed : Bool) (s : List ℕ) (from place len kind : ℕ) : Type 0 where
  pub behind : from ≤ place
  pub some : 1 ≤ len
  pub within : place + len ≤ length s
  pub frame : verdict (drop place s) ≡ Frame len kind
  pub first : (rs : List Found) (e : ℕ) → Reading verdict closed s (place + len) rs e → Reading verdict closed s from (found s place len kind ∷ rs) e

-- the next step of a reading from a place on: the record that comes first in it, or where it stops or ends without one
abbrev pub NextOf : (List ℕ → Verdict) → Bool → List ℕ → ℕ → Next → Type 0
NextOf verdict closed s from (Record place len kind) = Comes verdict closed s from place len kind
NextOf verdict closed s from (End place) = Reading verdict closed s from [] place

-- the series of a record: the third byte of a kind 1 record that has one, else 0
abbrev pub series_of : ℕ → List ℕ → ℕ
series_of kind bytes = cond (kind == 1 && nat_le 3 (length bytes)) (slice_index bytes 2) 0
