-- Sentences, kind 2: the fields between `$`, the commas and the first `*`. Assumes nothing.
use Rattle.std.specs.Prelude.{ℕ, zero, suc, ◌+◌, Bool, false, cond, ◌&&◌, ◌||◌, List, [], ◌∷◌, length, drop, Some, None, Option, ◌==◌, nat_le, slice_index}
use Rattle.format.specs.declared.format.Part.{Part}
use Rattle.format.specs.Meaning.{Meaning, unclaimed, faulty, accepted}
use Rattle.format.specs.Text.{plain}

abbrev comma : ℕ
comma = 44

abbrev star : ℕ
star = 42

-- whether some bytes have a `*`
abbrev pub has_star : List ℕ → Bool
has_star [] = false
has_star (x ∷ s) = x == star || has_star s

-- the fields of some bytes up to the first `*`; the field with this code began at `start`, and has `count` bytes so far
abbrev pub fields : ℕ → ℕ → ℕ → List ℕ → List Part
fields code start count [] = plain code start count ∷ []
fields code start count (x ∷ s) =
    cond (x == star) (plain code start count ∷ [])
    (cond (x == comma) (let more : List Part = fields (code + 1) (start + count + 1) 0 s in plain code start count ∷ more) (fields code start (count + 1) s))

-- how many commas stand before the first `*`
abbrev pub commas : List ℕ → ℕ
commas [] = 0
commas (x ∷ s) = cond (x == star) 0 (cond (x == comma) (1 + commas s) (commas s))

-- the place of the comma behind this many others, before the first `*`; the bytes begin at `place`
abbrev pub comma_at : ℕ → ℕ → List ℕ → Option ℕ
comma_at others place [] = None
comma_at zero place (x ∷ s) = cond (x == star) None (cond (x == comma) (Some place) (comma_at zero (place + 1) s))
comma_at (suc others) place (x ∷ s) =
    cond (x == star) None (cond (x == comma) (comma_at others (place + 1) s) (comma_at (suc others) (place + 1) s))

abbrev pub sentence_claims : ℕ → List ℕ → Bool
sentence_claims kind s = kind == 2 && (nat_le 1 (length s) && (slice_index s 0 == 36 && has_star s))

-- more than 64 fields are refused by 19, at the place of the 64th comma
abbrev pub with_comma : List ℕ → Option ℕ → Meaning
with_comma s None = accepted (fields 1 1 0 (drop 1 s))
with_comma s (Some place) = faulty 19 place

abbrev pub sentence_meaning : ℕ → List ℕ → Meaning
sentence_meaning kind s = cond (sentence_claims kind s) (with_comma s (comma_at 63 1 (drop 1 s))) unclaimed
