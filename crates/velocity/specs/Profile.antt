-- What is taken from an accepted DF3 record: cell centres, velocities and correlations. Assumes nothing.
use Rattle.std.specs.Prelude.{ℕ, ◌+◌, ◌-◌, ◌*◌, Bool, cond, ◌&&◌, List, is_ok, Ok, Err, Result, nat_le, nat_lt, slice_index}
use Rattle.std.specs.Result.{result_map_both}
use Rattle.std.specs.Int.{w8, w16}
use Rattle.std.proofs.Common.{to_z}
use Rattle.common.specs.declared.refusal.Refusal.{Refusal}
use Rattle.format.specs.Meaning.{data_place}
use Rattle.velocity.specs.declared.profile.ProfileFault.{ProfileFault}
use Rattle.velocity.specs.declared.profile.ProfileFault.TheVariants.{NotDf3, NoCell}
use Rattle.velocity.specs.declared.profile.Velocity.{Velocity}
use Rattle.velocity.specs.Layout.{word}
use Rattle.velocity.specs.Df3.{df3_meaning, df3_offset, beams, cells, velocities, correlations, correlation_position}

-- each refusal's number; the layer is 2, and no place is named
abbrev pub told : ProfileFault → Refusal
told NotDf3 = record { number = 23; layer = 2; place = 0 }
told NoCell = record { number = 24; layer = 2; place = 0 }

abbrev pub is_accepted : ℕ → List ℕ → Bool
is_accepted kind s = is_ok (df3_meaning kind s).judgement

-- blanking in millimetres; the record has it in centimetres
abbrev pub blanking : List ℕ → ℕ
blanking s = 10 * word s (34 + data_place)

abbrev pub cell_size : List ℕ → ℕ
cell_size s = word s (32 + data_place)

-- the centre of a cell, counted from 1, in millimetres
abbrev pub centre_of : ℕ → List ℕ → ℕ → Result ℕ ProfileFault
centre_of kind s cell =
    cond (is_accepted kind s)
    (cond (nat_le 1 cell && nat_le cell (cells s)) (Ok (blanking s + cell * cell_size s)) (Err NoCell))
    (Err NotDf3)

-- whether a beam and a cell exist, both counted from 1, and the number of their item: cells of a beam stand together, beam after beam
abbrev pub exist : List ℕ → ℕ → ℕ → Bool
exist s beam cell = (nat_le 1 beam && nat_le beam (beams s)) && (nat_le 1 cell && nat_le cell (cells s))

abbrev pub item_number : List ℕ → ℕ → ℕ → ℕ
item_number s beam cell = (beam - 1) * cells s + (cell - 1)

-- the number of the item of a beam and a cell in an array of so many items
abbrev pub item_of : List ℕ → ℕ → ℕ → ℕ → Result ℕ ProfileFault
item_of s items beam cell = cond (nat_lt 0 items) (cond (exist s beam cell) (Ok (item_number s beam cell)) (Err NoCell)) (Err NotDf3)

-- the answer for an item of an array of so many items
abbrev pub of_array : {X : Type 0} → ℕ → List ℕ → ℕ → ℕ → ℕ → (ℕ → X) → Result X ProfileFault
of_array kind s items beam cell value = cond (is_accepted kind s) (result_map_both value (λ e. e) (item_of s items beam cell)) (Err NotDf3)

-- a velocity is its mantissa times ten to the scaling, in metres per second
abbrev pub velocity_at : List ℕ → ℕ → Velocity
velocity_at s i = record { mantissa = to_z w16 (word s (df3_offset s + data_place + 2 * i)); scaling = to_z w8 (slice_index s (58 + data_place)) }

abbrev pub velocity_of : ℕ → List ℕ → ℕ → ℕ → Result Velocity ProfileFault
velocity_of kind s beam cell = of_array kind s (velocities s) beam cell (velocity_at s)

abbrev pub correlation_of : ℕ → List ℕ → ℕ → ℕ → Result ℕ ProfileFault
correlation_of kind s beam cell = of_array kind s (correlations s) beam cell (λ i. slice_index s (correlation_position s + data_place + i))

abbrev pub nominal_of : ℕ → List ℕ → Result ℕ ProfileFault
nominal_of kind s = cond (is_accepted kind s) (Ok (slice_index s (36 + data_place))) (Err NotDf3)
