-- The numbers of what can fail to hold of a record. Assumes nothing.
use Rattle.std.specs.Prelude.{ℕ}
use Rattle.format.specs.declared.defect.Defect.{Defect}
use Rattle.format.specs.declared.defect.Defect.TheVariants.{Unclaimed, FewData, OtherVersion, OffsetOutside, NoDateTime, BeamsOrCells, ArraysOutside, HighCorrelation, NoData, ManyFields}
use Rattle.format.specs.declared.format.RecordFault.{RecordFault}

abbrev pub number_of : Defect → ℕ
number_of Unclaimed = 10
number_of FewData = 11
number_of OtherVersion = 12
number_of OffsetOutside = 13
number_of NoDateTime = 14
number_of BeamsOrCells = 15
number_of ArraysOutside = 16
number_of HighCorrelation = 17
number_of NoData = 18
number_of ManyFields = 19

-- the fault of a record that has a defect at a place
abbrev pub fault_at : Defect → ℕ → RecordFault
fault_at d p = record { number = number_of d; place = p }
