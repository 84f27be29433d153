-- DF7 velocity records: kind 1, series 0x26. Assumes nothing.
use Rattle.std.specs.Prelude.{ℕ, ◌+◌, ◌-◌, Bool, false, cond, ◌&&◌, ◌||◌, List, [], ◌∷◌, ◌++◌, length, Some, None, Option, ◌==◌, nat_le, nat_lt, slice_index}
use Rattle.format.specs.declared.format.Part.{Part}
use Rattle.format.specs.Meaning.{Meaning, unclaimed, faulty, accepted, data_place}
use Rattle.velocity.specs.declared.layout.Field.{Field}
use Rattle.velocity.specs.Layout.{word, data_size, field_at, field_part, field_parts}
use Rattle.velocity.specs.Clock.{clock_at}

-- the fields before the offset: position, width, count, signed
abbrev pub df7_fields : List Field
df7_fields =
    -- version, instrument type, offset, configuration, types, validity, serial
    field_at 0 1 1 false ∷ (field_at 1 1 1 false ∷ (field_at 2 2 1 false ∷ (field_at 4 4 1 false ∷ (field_at 8 4 1 false ∷ (field_at 12 1 8 false ∷ (field_at 20 4 1 false
    -- year, month, day, hour, minute, second, hundred microseconds
    ∷ (field_at 24 1 1 false ∷ (field_at 25 1 1 false ∷ (field_at 26 1 1 false ∷ (field_at 27 1 1 false ∷ (field_at 28 1 1 false ∷ (field_at 29 1 1 false ∷ (field_at 30 2 1 false
    -- sound speed, temperature, pressure, absolute pressure, heading, pitch, roll
    ∷ (field_at 32 4 1 false ∷ (field_at 36 4 1 false ∷ (field_at 40 4 1 false ∷ (field_at 44 4 1 false ∷ (field_at 48 4 1 false ∷ (field_at 52 4 1 false ∷ (field_at 56 4 1 false
    ∷ []))))))))))))))))))))

-- the position at which the spare bytes end and the tail begins
abbrev pub df7_offset : List ℕ → ℕ
df7_offset s = word s (2 + data_place)

-- the spare bytes up to the offset, and the tail up to the data's end
abbrev pub df7_spare : List ℕ → Field
df7_spare s = field_at 60 1 (df7_offset s - 60) false

abbrev pub df7_tail : List ℕ → Field
df7_tail s = field_at (df7_offset s) 1 (data_size s - df7_offset s) false

abbrev pub df7_others : List ℕ → List Part
df7_others s = field_part 22 (df7_spare s) ∷ (field_part 23 (df7_tail s) ∷ [])

abbrev pub df7_parts : List ℕ → List Part
df7_parts s = field_parts 1 df7_fields ++ df7_others s

abbrev pub df7_claims : ℕ → List ℕ → Bool
df7_claims kind s = kind == 1 && (nat_le data_place (length s) && slice_index s 2 == 0x26)

abbrev pub df7_clocked : List ℕ → Option ℕ → Meaning
df7_clocked s (Some place) = faulty 14 place
df7_clocked s None = accepted (df7_parts s)

-- the questions to a record that is claimed, each with its number and the place of a fault:
-- 60 data bytes, a known instrument type, an offset inside the data, a right clock
abbrev pub df7_judged : List ℕ → Meaning
df7_judged s =
    cond (nat_lt (length s) 70) (faulty 11 4)
    (cond (slice_index s 11 == 0x30 || slice_index s 11 == 0x40)
    (cond (nat_le 60 (df7_offset s) && nat_le (df7_offset s) (data_size s)) (df7_clocked s (clock_at 34 s)) (faulty 13 12))
    (faulty 12 11))

abbrev pub df7_meaning : ℕ → List ℕ → Meaning
df7_meaning kind s = cond (df7_claims kind s) (df7_judged s) unclaimed
