-- What is taken from a part: its bytes, and its items as numbers. Assumes nothing.
use Rattle.std.specs.Prelude.{ℕ, ◌+◌, ◌*◌, Bool, cond, ◌&&◌, ◌||◌, List, [], ◌∷◌, length, take, drop, ℤ, pos, Some, None, Option, Ok, Err, Result, ◌==◌, nat_le, nat_lt}
use Rattle.std.specs.Int.{w8, w16, w32}
use Rattle.std.proofs.Common.{to_z}
use Rattle.common.specs.declared.refusal.Refusal.{Refusal}
use Rattle.common.specs.Numbers.{number}
use Rattle.format.specs.declared.format.Part.{Part}
use Rattle.format.specs.declared.items.ItemFault.{ItemFault}
use Rattle.format.specs.declared.items.ItemFault.TheVariants.{Outside, NoItem}
use Rattle.format.specs.Meaning.{size}

-- whether a part lies inside a record
abbrev pub inside : List ℕ → Part → Bool
inside s p = nat_le (p.place + size p) (length s)

-- a number of 1, 2 or 4 bytes as two's complement
abbrev pub signed_number : ℕ → ℕ → ℤ
signed_number width n = cond (width == 1) (to_z w8 n) (cond (width == 2) (to_z w16 n) (to_z w32 n))

abbrev pub value : Bool → List ℕ → ℤ
value signed s = cond signed (signed_number (length s) (number s)) (pos (number s))

-- whether so many bytes are a number that is read
abbrev pub readable_width : ℕ → Bool
readable_width n = n == 1 || (n == 2 || n == 4)

-- some bytes as a number, where they are so many
abbrev pub number_in : Bool → List ℕ → Option ℤ
number_in signed s = cond (readable_width (length s)) (Some (value signed s)) None

-- the bytes of an item of a part, counted from 0
abbrev pub item_bytes : List ℕ → Part → ℕ → List ℕ
item_bytes s p i = take p.width (drop (p.place + p.width * i) s)

-- whether an item can be read as a number: it has 1, 2 or 4 bytes, and the part has it
abbrev pub readable : Part → ℕ → Bool
readable p i = readable_width p.width && nat_lt i p.count

-- the answers
abbrev pub item_of : List ℕ → Part → ℕ → Result ℤ ItemFault
item_of s p i = cond (inside s p) (cond (readable p i) (Ok (value p.signed (item_bytes s p i))) (Err NoItem)) (Err Outside)

-- each refusal's number; the layer is 2, and no place is named
abbrev pub told : ItemFault → Refusal
told Outside = record { number = 21; layer = 2; place = 0 }
told NoItem = record { number = 22; layer = 2; place = 0 }
