-- Histories of turns, and what they come to. Assumes nothing.
use Rattle.std.specs.Prelude.{◌≡◌, ℕ, ◌+◌, Bool, true, false, List, [], ◌∷◌, ◌++◌, length, Ok, Err, Result}
use Rattle.register.specs.declared.entry.Totals.{Totals}
use Rattle.reading.specs.Reading.{Found, Reading}
use Rattle.stream.specs.declared.answers.Fault.{Fault}
use Rattle.stream.specs.declared.answers.Taken.{Taken}
use Rattle.stream.specs.declared.answers.Taken.TheVariants.{Record, NotYet, Drained}
use Rattle.stream.specs.View.{Terms}

-- a turn, with its answer
pub data Turn : Type 0 where
  -- these bytes were delivered
  delivered : List ℕ → Result (Unit {0}) Fault → Turn
  -- a take was lent a space that held the first list, and left the second
  took : List ℕ → List ℕ → Result Taken Fault → Turn
  closing : Result (Unit {0}) Fault → Turn
  looked : Totals → Turn

-- the newest turn comes first
abbrev pub History : Type 0
History = List Turn

-- the bytes of the deliveries that were not refused, in order
abbrev pub accepted : History → List ℕ
accepted [] = []
accepted (delivered b (Ok u) ∷ h) = accepted h ++ b
accepted (delivered b (Err f) ∷ h) = accepted h
accepted (took x y r ∷ h) = accepted h
accepted (closing r ∷ h) = accepted h
accepted (looked t ∷ h) = accepted h

-- whether the stream was closed
abbrev pub closed : History → Bool
closed [] = false
closed (delivered b r ∷ h) = closed h
closed (took x y r ∷ h) = closed h
closed (closing (Ok u) ∷ h) = true
closed (closing (Err f) ∷ h) = closed h
closed (looked t ∷ h) = closed h

-- how many takes brought a record
abbrev pub brought : History → ℕ
brought [] = 0
brought (delivered b r ∷ h) = brought h
brought (took x y (Ok (Record e)) ∷ h) = brought h + 1
brought (took x y (Ok NotYet) ∷ h) = brought h
brought (took x y (Ok Drained) ∷ h) = brought h
brought (took x y (Err f) ∷ h) = brought h
brought (closing r ∷ h) = brought h
brought (looked t ∷ h) = brought h

-- behind the first of some records, or, where there is none, where their reading stops or ends
abbrev pub behind : List Found → ℕ → ℕ
behind [] e = e
behind (f ∷ rs) e = f.place + length f.bytes

-- the reading of all bytes accepted so far, from a place on
abbrev pub Reads : Terms → History → ℕ → List Found → ℕ → Type 0
Reads t h p rs e = Reading t.verdict (closed h) (accepted h) p rs e

-- the place reached: only a take that is not refused moves it, to behind the next record, or to where the reading stops or ends
abbrev pub Reached : Terms → History → ℕ → Type 0
Reached t [] p = p ≡ 0
Reached t (delivered b r ∷ h) p = Reached t h p
Reached t (took x y (Ok a) ∷ h) p = (q : ℕ) × (rs : List Found) × (e : ℕ) × Reached t h q × Reads t h q rs e × (p ≡ behind rs e)
Reached t (took x y (Err f) ∷ h) p = Reached t h p
Reached t (closing r ∷ h) p = Reached t h p
Reached t (looked s ∷ h) p = Reached t h p
