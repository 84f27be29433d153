-- What a format means, and the laws that every format keeps. Assumes nothing.
use Rattle.std.specs.Prelude.{◌≡◌, ℕ, ◌+◌, ◌*◌, ◌<◌, ◌≤◌, Bool, true, false, cond, List, [], ◌∷◌, ◌++◌, length, take, drop, is_ok, Ok, Err, Result, ◌==◌, ◌≢◌, nat_le}
use Rattle.common.specs.declared.list.List.{List as ListedIn}
use Rattle.common.specs.declared.refusal.Refusal.{Refusal}
use Rattle.common.specs.Lists.{items, room}
use Rattle.common.specs.Tables.{SameTable}
use Rattle.format.specs.declared.format.Part.{Part}
use Rattle.format.specs.declared.format.RecordFault.{RecordFault}
use Rattle.format.specs.declared.format.PartsFault.{PartsFault}
use Rattle.format.specs.declared.format.PartsFault.TheVariants.{Judged, TableShort}

-- of a kind and a record's bytes: whether the format claims the record, its verdict, which accepts the record or tells a fault, and its parts
pub record Meaning : Type 0 where
  pub claims : Bool
  pub judgement : Result (Unit {0}) RecordFault
  pub parts : List Part

-- the verdict that tells a fault, by its number and its place
abbrev pub judged : ℕ → ℕ → Result (Unit {0}) RecordFault
judged n p = Err (record { number = n; place = p })

-- the number and the place of a verdict, both 0 where the record is accepted
abbrev pub verdict_number : Result (Unit {0}) RecordFault → ℕ
verdict_number (Ok _) = 0
verdict_number (Err f) = f.number

abbrev pub fault_place : Result (Unit {0}) RecordFault → ℕ
fault_place (Ok _) = 0
fault_place (Err f) = f.place

-- of a record that the format does not claim
abbrev pub unclaimed : Meaning
unclaimed = record { claims = false; judgement = judged 10 0; parts = [] }

-- of one that it claims: refused by a number, at a place; and accepted, with these parts
abbrev pub faulty : ℕ → ℕ → Meaning
faulty n p = record { claims = true; judgement = judged n p; parts = [] }

abbrev pub accepted : List Part → Meaning
accepted ps = record { claims = true; judgement = Ok tt; parts = ps }

-- how many bytes a part has, and which
abbrev pub size : Part → ℕ
size p = p.width * p.count

abbrev pub bytes_of : List ℕ → Part → List ℕ
bytes_of s p = take (size p) (drop p.place s)

-- the parts, joined
abbrev pub joined_parts : List ℕ → List Part → List ℕ
joined_parts s [] = []
joined_parts s (p ∷ ps) = bytes_of s p ++ joined_parts s ps

-- from a place on, each part begins no earlier than the one before it ends, and ends inside a record of n bytes
abbrev pub InOrder : ℕ → ℕ → List Part → Type 0
InOrder from n [] = Unit {0}
InOrder from n (p ∷ ps) = (from ≤ p.place) × (p.place + size p ≤ n) × InOrder (p.place + size p) n ps

-- where the data of a kind 1 record begin
abbrev pub data_place : ℕ
data_place = 10

-- what holds of an accepted record of a kind
pub record Accepted (kind : ℕ) (s : List ℕ) (ps : List Part) : Type 0 where
  pub some : 1 ≤ length ps
  pub few : length ps ≤ 128
  pub order : InOrder 0 (length s) ps
  -- the parts of a kind 1 record, joined, are its data
  pub whole : kind ≡ 1 → joined_parts s ps ≡ drop data_place s

-- the laws of a format
pub record Laws (meaning : ℕ → List ℕ → Meaning) : Type 0 where
  -- a record that is not claimed has verdict 10 at place 0
  pub other : (kind : ℕ) (s : List ℕ) → (meaning kind s).claims ≡ false → meaning kind s ≡ unclaimed
  -- no kind 1 record under ten bytes is claimed
  pub header : (s : List ℕ) → length s < data_place → (meaning 1 s).claims ≡ false
  -- a fault's number has 16 bits and is not 0, and its place is inside a record that is claimed
  pub number : (kind : ℕ) (s : List ℕ) (f : RecordFault) → (meaning kind s).judgement ≡ Err f → (f.number ≢ 0) × (f.number < 65536)
  pub inside : (kind : ℕ) (s : List ℕ) (f : RecordFault) → (meaning kind s).judgement ≡ Err f → (meaning kind s).claims ≡ true → f.place < length s
  -- an accepted record has parts
  pub lists : (kind : ℕ) (s : List ℕ) → (meaning kind s).judgement ≡ Ok tt → Accepted kind s (meaning kind s).parts

-- the first meaning, and the second where the first does not claim the record
abbrev pub or_else : Meaning → Meaning → Meaning
or_else m n = cond m.claims m n

-- the answer to a listing of the parts behind `filled` items in a table with room for `all`
abbrev pub listing_of : Result (Unit {0}) RecordFault → Bool → Result (Unit {0}) PartsFault
listing_of (Ok _) fits = cond fits (Ok tt) (Err TableShort)
listing_of (Err f) fits = Err (Judged f)

abbrev pub listing : Meaning → ℕ → ℕ → Result (Unit {0}) PartsFault
listing m filled all = listing_of m.judgement (nat_le (filled + length m.parts) all)

-- what a listing leaves: the parts behind what was there, or everything as it was, over the same table
pub record Leaves (m : Meaning) (before after : ListedIn Part) (r : Result (Unit {0}) PartsFault) : Type 0 where
  pub says : r ≡ listing m (length (items before)) (room before)
  pub holds : items after ≡ items before ++ cond (is_ok r) m.parts []
  pub table : SameTable before after

-- the numbers of the answers: the record's own, or 20 where the table is too short
abbrev pub told : PartsFault → Refusal
told (Judged f) = record { number = f.number; layer = 2; place = f.place }
told TableShort = record { number = 20; layer = 2; place = 0 }
