-- Verdicts told apart. Assumes nothing.
use Rattle.std.specs.Prelude.{◌≡◌, ℕ, ◌<◌, ◌≢◌, Ok, Err, Result}
use Rattle.std.proofs.Common.{sym, ap, ◌∙◌, arith}
use Rattle.format.specs.declared.format.RecordFault.{RecordFault}
use Rattle.format.specs.Meaning.{judged, verdict_number, fault_place}

-- a verdict does not both accept and tell a fault
pub not_both : {P : Type 0} {f : RecordFault} → ◌≡◌ {A = Result (Unit {0}) RecordFault} (Ok tt) (Err f) → P
not_both e = absurd (let z : ◌≡◌ {A = ℕ} 0 1 = cc in omega arith)

-- the number of a fault that is told is in range
pub number_right : (n p : ℕ) (f : RecordFault) → n ≢ 0 → n < 65536 → judged n p ≡ Err f → (f.number ≢ 0) × (f.number < 65536)
number_right n p f some few e =
    let same : n ≡ f.number = ap verdict_number e in
    (λ z. some (same ∙ z), omega arith)

-- and its place
pub place_right : (n p m : ℕ) (f : RecordFault) → p < m → judged n p ≡ Err f → f.place < m
place_right n p m f less e = let same : p ≡ f.place = ap fault_place e in omega arith
