-- Fields at their positions in the data, and shapes laid out one behind the other. Assumes nothing.
use Rattle.std.specs.Prelude.{ℕ, ◌+◌, ◌-◌, ◌*◌, Bool, true, ◌&&◌, List, [], ◌∷◌, length, nat_lt, slice_index}
use Rattle.format.specs.declared.format.Part.{Part}
use Rattle.format.specs.Meaning.{data_place}
use Rattle.velocity.specs.declared.layout.Field.{Field}

-- the 16-bit little-endian word at a place
abbrev pub word : List ℕ → ℕ → ℕ
word s i = slice_index s i + 256 * slice_index s (i + 1)

-- how many data bytes a record has
abbrev pub data_size : List ℕ → ℕ
data_size s = length s - data_place

abbrev pub field_at : ℕ → ℕ → ℕ → Bool → Field
field_at position width count signed = record { position = position; width = width; count = count; signed = signed }

-- whether the positions of fields are below a thousand
abbrev pub near : List Field → Bool
near [] = true
near (f ∷ fs) = nat_lt f.position 1000 && near fs

-- a field as a part: positions count from the data's first byte, places from the record's
abbrev pub field_part : ℕ → Field → Part
field_part code f = record { code = code; place = f.position + data_place; width = f.width; count = f.count; signed = f.signed }

-- fields as parts with codes one after the other
abbrev pub field_parts : ℕ → List Field → List Part
field_parts code [] = []
field_parts code (f ∷ fs) = field_part code f ∷ field_parts (code + 1) fs

-- what a part is but for its place and code: items of a width, signed or not
pub record Shape : Type 0 where
  pub width : ℕ
  pub count : ℕ
  pub signed : Bool

abbrev pub shape : ℕ → ℕ → Bool → Shape
shape width count signed = record { width = width; count = count; signed = signed }

-- the shapes of fields
abbrev pub shapes : List Field → List Shape
shapes [] = []
shapes (f ∷ fs) = shape f.width f.count f.signed ∷ shapes fs

-- how many bytes shapes have
abbrev pub total : List Shape → ℕ
total [] = 0
total (x ∷ xs) = x.width * x.count + total xs

-- shapes from a place on, one behind the other without gaps, with codes one after the other
abbrev pub layout : ℕ → ℕ → List Shape → List Part
layout place code [] = []
layout place code (x ∷ xs) =
    record { code = code; place = place; width = x.width; count = x.count; signed = x.signed }
    ∷ layout (place + x.width * x.count) (code + 1) xs
