-- A record written again from its parts. Assumes nothing.
use Rattle.std.specs.Prelude.{◌≡◌, ℕ, ◌+◌, ◌≤◌, Bool, true, cond, ◌&&◌, List, [], ◌∷◌, ◌++◌, length, drop, Ok, Err, Result}
use Rattle.common.specs.declared.refusal.Refusal.{Refusal}
use Rattle.format.specs.declared.format.Part.{Part}
use Rattle.format.specs.Items.{inside}
use Rattle.format.specs.Meaning.{Meaning, Laws, joined_parts}
use Rattle.framing.specs.declared.verdict.Verdict.TheVariants.{Frame}
use Rattle.framing.specs.Binary.{binary, header_of}
use Rattle.framing.specs.Plan.{judged}
use Rattle.reading.specs.Reading.{series_of}
use Rattle.writing.specs.declared.again.AgainFault.{AgainFault}
use Rattle.writing.specs.declared.again.AgainFault.TheVariants.{Outside, Full}
use Rattle.writing.specs.Drafts.{header_size, fits}

-- whether all of some parts lie inside a record
abbrev pub all_inside : List ℕ → List Part → Bool
all_inside s [] = true
all_inside s (p ∷ ps) = inside s p && all_inside s ps

-- the series of a binary record
abbrev pub series : List ℕ → ℕ
series s = series_of 1 s

-- the frame that some parts of a record make: the header of its series and of the parts joined, and then these
abbrev pub frame_of : List ℕ → List Part → List ℕ
frame_of s ps = header_of (series s) (joined_parts s ps) ++ joined_parts s ps

-- whether the parts make a frame, and a space has room for it
abbrev pub makes : List ℕ → List Part → List ℕ → Bool
makes s ps space = all_inside s ps && fits (length space) (length (joined_parts s ps))

-- the answer: the frame's length; or that a part lies outside the record, or that there is no room, in this order
abbrev pub answer : List ℕ → List Part → List ℕ → Result ℕ AgainFault
answer s ps space =
    cond (all_inside s ps)
    (cond (fits (length space) (length (joined_parts s ps))) (Ok (header_size + length (joined_parts s ps))) (Err Full))
    (Err Outside)

-- what is left of the space: the frame and what stood behind it; refused, all as it was
pub record Rewrites (s : List ℕ) (ps : List Part) (before after : List ℕ) (r : Result ℕ AgainFault) : Type 0 where
  pub says : r ≡ answer s ps before
  pub leaves : after ≡ cond (makes s ps before) (frame_of s ps ++ drop (header_size + length (joined_parts s ps)) before) before

-- of a binary frame that a format accepts, written again from the parts that it lists: whatever the format, the bytes written are the record's own
abbrev pub SameBytes : List ℕ → List Part → List ℕ → List ℕ → Result ℕ AgainFault → Type 0
SameBytes s ps before after r =
    (meaning : ℕ → List ℕ → Meaning) → Laws meaning → judged binary s ≡ Frame (length s) 1
    → (meaning 1 s).judgement ≡ Ok tt → ps ≡ (meaning 1 s).parts → length s ≤ length before
    → (r ≡ Ok (length s)) × (after ≡ s ++ drop (length s) before)

-- each refusal's number, layer and place: those of a part that lies outside, and of a draft that is full
abbrev pub told : AgainFault → Refusal
told Outside = record { number = 21; layer = 2; place = 0 }
told Full = record { number = 25; layer = 3; place = 0 }
