-- DF3 velocity records: kind 1, series 0x15, 0x16 and 0x18. Assumes nothing.
use Rattle.std.specs.Prelude.{ℕ, ◌+◌, ◌-◌, ◌*◌, ◌/◌, ◌%◌, ◌^◌, Bool, true, false, cond, ◌&&◌, ◌||◌, List, [], ◌∷◌, ◌++◌, length, take, drop, Some, None, Option, ◌==◌, nat_le, nat_lt, slice_index}
use Rattle.format.specs.declared.format.Part.{Part}
use Rattle.format.specs.Meaning.{Meaning, unclaimed, faulty, accepted, data_place}
use Rattle.velocity.specs.declared.layout.Field.{Field}
use Rattle.velocity.specs.Layout.{word, data_size, field_at, field_part, field_parts}
use Rattle.velocity.specs.Clock.{clock_at}

-- the fields before the offset: position, width, count, signed
abbrev pub df3_fields : List Field
df3_fields =
    -- version, offset, configuration, serial
    field_at 0 1 1 false ∷ (field_at 1 1 1 false ∷ (field_at 2 2 1 false ∷ (field_at 4 4 1 false
    -- year, month, day, hour, minute, second, hundred microseconds
    ∷ (field_at 8 1 1 false ∷ (field_at 9 1 1 false ∷ (field_at 10 1 1 false ∷ (field_at 11 1 1 false ∷ (field_at 12 1 1 false ∷ (field_at 13 1 1 false ∷ (field_at 14 2 1 false
    -- sound speed, temperature, pressure, heading, pitch, roll
    ∷ (field_at 16 2 1 false ∷ (field_at 18 2 1 true ∷ (field_at 20 4 1 false ∷ (field_at 24 2 1 false ∷ (field_at 26 2 1 true ∷ (field_at 28 2 1 true
    -- layout, cell size, blanking, nominal correlation, sensor temperature, battery
    ∷ (field_at 30 2 1 false ∷ (field_at 32 2 1 false ∷ (field_at 34 2 1 false ∷ (field_at 36 1 1 false ∷ (field_at 37 1 1 false ∷ (field_at 38 2 1 false
    -- magnetometer, accelerometer, ambiguity velocity, data set, energy
    ∷ (field_at 40 2 3 true ∷ (field_at 46 2 3 true ∷ (field_at 52 2 1 false ∷ (field_at 54 2 1 false ∷ (field_at 56 2 1 false
    -- velocity scaling, power level, magnetometer temperature, clock temperature
    ∷ (field_at 58 1 1 true ∷ (field_at 59 1 1 true ∷ (field_at 60 2 1 true ∷ (field_at 62 2 1 true
    -- error, extended status, status, ensemble counter
    ∷ (field_at 64 2 1 false ∷ (field_at 66 2 1 false ∷ (field_at 68 4 1 false ∷ (field_at 72 4 1 false
    ∷ [])))))))))))))))))))))))))))))))))))

-- the position at which the spare bytes end and the arrays begin
abbrev pub df3_offset : List ℕ → ℕ
df3_offset s = slice_index s (1 + data_place)

-- the layout word: cells in bits 0 to 9, beams in bits 12 to 15
abbrev pub cells : List ℕ → ℕ
cells s = word s (30 + data_place) % 1024

abbrev pub beams : List ℕ → ℕ
beams s = word s (30 + data_place) / 4096 % 16

-- how many items an array has, which a bit of the configuration includes: one for each beam and cell
abbrev pub included : ℕ → List ℕ → ℕ
included bit s = cond (word s (2 + data_place) / 2 ^ bit % 2 == 1) (beams s * cells s) 0

abbrev pub velocities : List ℕ → ℕ
velocities s = included 5 s

abbrev pub amplitudes : List ℕ → ℕ
amplitudes s = included 6 s

abbrev pub correlations : List ℕ → ℕ
correlations s = included 7 s

-- where the arrays begin, one behind the other from the offset on, and where the last of them ends
abbrev pub amplitude_position : List ℕ → ℕ
amplitude_position s = df3_offset s + 2 * velocities s

abbrev pub correlation_position : List ℕ → ℕ
correlation_position s = amplitude_position s + amplitudes s

abbrev pub arrays_end : List ℕ → ℕ
arrays_end s = correlation_position s + correlations s

-- the spare bytes up to the offset, velocities, amplitudes, correlations, and the tail up to the data's end
abbrev pub df3_spare : List ℕ → Field
df3_spare s = field_at 76 1 (df3_offset s - 76) false

abbrev pub velocity_array : List ℕ → Field
velocity_array s = field_at (df3_offset s) 2 (velocities s) true

abbrev pub amplitude_array : List ℕ → Field
amplitude_array s = field_at (amplitude_position s) 1 (amplitudes s) false

abbrev pub correlation_array : List ℕ → Field
correlation_array s = field_at (correlation_position s) 1 (correlations s) false

abbrev pub df3_tail : List ℕ → Field
df3_tail s = field_at (arrays_end s) 1 (data_size s - arrays_end s) false

abbrev pub df3_others : List ℕ → List Part
df3_others s =
    field_part 37 (df3_spare s)
    ∷ (field_part 38 (velocity_array s) ∷ (field_part 39 (amplitude_array s) ∷ (field_part 40 (correlation_array s) ∷ (field_part 41 (df3_tail s) ∷ []))))

abbrev pub df3_parts : List ℕ → List Part
df3_parts s = field_parts 1 df3_fields ++ df3_others s

abbrev pub df3_claims : ℕ → List ℕ → Bool
df3_claims kind s = kind == 1 && (nat_le data_place (length s) && (slice_index s 2 == 0x15 || (slice_index s 2 == 0x16 || slice_index s 2 == 0x18)))

-- the place of the first number above 100, of numbers that begin at a place
abbrev pub first_above : ℕ → List ℕ → Option ℕ
first_above place [] = None
first_above place (x ∷ s) = cond (nat_lt 100 x) (Some place) (first_above (place + 1) s)

-- the place of the first correlation above 100: the nominal one, and then each of the array
abbrev pub high_correlation : List ℕ → Option ℕ
high_correlation s =
    cond (nat_lt 100 (slice_index s 46)) (Some 46)
    (first_above (correlation_position s + data_place) (take (correlations s) (drop (correlation_position s + data_place) s)))

abbrev pub df3_correlated : List ℕ → Option ℕ → Meaning
df3_correlated s (Some place) = faulty 17 place
df3_correlated s None = accepted (df3_parts s)

-- behind the clock: one to five beams and some cells, arrays inside the data, correlations of at most 100
abbrev pub df3_arrayed : List ℕ → Meaning
df3_arrayed s =
    cond (nat_le 1 (beams s) && (nat_le (beams s) 5 && nat_le 1 (cells s)))
    (cond (nat_le (arrays_end s) (data_size s)) (df3_correlated s (high_correlation s)) (faulty 16 12))
    (faulty 15 40)

abbrev pub df3_clocked : List ℕ → Option ℕ → Meaning
df3_clocked s (Some place) = faulty 14 place
df3_clocked s None = df3_arrayed s

-- the questions to a record that is claimed, each with its number and the place of a fault:
-- 76 data bytes, version 3, an offset inside the data, a right clock, and those behind it
abbrev pub df3_judged : List ℕ → Meaning
df3_judged s =
    cond (nat_lt (length s) 86) (faulty 11 4)
    (cond (slice_index s 10 == 3)
    (cond (nat_le 76 (df3_offset s) && nat_le (df3_offset s) (data_size s)) (df3_clocked s (clock_at 18 s)) (faulty 13 11))
    (faulty 12 10))

abbrev pub df3_meaning : ℕ → List ℕ → Meaning
df3_meaning kind s = cond (df3_claims kind s) (df3_judged s) unclaimed
