-- String records: kind 1, series 0xA0. Assumes nothing.
use Rattle.std.specs.Prelude.{ℕ, ◌-◌, Bool, false, cond, ◌&&◌, List, [], ◌∷◌, length, ◌==◌, nat_le, nat_lt, slice_index}
use Rattle.format.specs.declared.format.Part.{Part}
use Rattle.format.specs.Meaning.{Meaning, unclaimed, faulty, accepted}

-- some unsigned bytes
abbrev pub plain : ℕ → ℕ → ℕ → Part
plain code place count = record { code = code; place = place; width = 1; count = count; signed = false }

-- whether the last byte behind the identifier is 0
abbrev pub ends_zero : List ℕ → Bool
ends_zero s = nat_lt 11 (length s) && slice_index s (length s - 1) == 0

-- the identifier byte, the text, and a final zero byte if the last byte behind the identifier is 0
abbrev pub text_parts : List ℕ → List Part
text_parts s =
    plain 1 10 1 ∷ cond (ends_zero s)
    (plain 2 11 (length s - 12) ∷ (plain 3 (length s - 1) 1 ∷ []))
    (plain 2 11 (length s - 11) ∷ [])

abbrev pub text_claims : ℕ → List ℕ → Bool
text_claims kind s = kind == 1 && (nat_le 10 (length s) && slice_index s 2 == 0xA0)

-- a record without a data byte is refused by 18, at the place of the data size
abbrev pub text_meaning : ℕ → List ℕ → Meaning
text_meaning kind s = cond (text_claims kind s) (cond (nat_lt 10 (length s)) (accepted (text_parts s)) (faulty 18 4)) unclaimed
