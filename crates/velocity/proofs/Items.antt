-- The items of arrays, counted. Assumes nothing.
use Rattle.std.proofs.Common.{◌≡◌, ℕ, ◌+◌, ◌*◌, ◌/◌, ◌%◌, ◌^◌, ◌<◌, ◌≤◌, Bool, true, false, cond, eqb, List, refl, arith}
use Rattle.std.proofs.lemmas.Nat.{mul-le, mul-add-lt}
use Rattle.format.specs.Meaning.{data_place}
use Rattle.velocity.specs.Layout.{word}
use Rattle.velocity.specs.Df3.{beams, cells, included}

-- an array that is there has an item for each beam and cell
pub all_items : (bit : ℕ) (s : List ℕ) → 0 < included bit s → included bit s ≡ beams s * cells s
all_items bit s h = at (eqb (word s (2 + data_place) / 2 ^ bit % 2) 1) h
  where
    at : (b : Bool) → 0 < cond b (beams s * cells s) 0 → cond b (beams s * cells s) 0 ≡ beams s * cells s
    at true h = refl
    at false h = absurd (omega arith)

-- there are at most 15 beams and 1023 cells, and a cell's size has 16 bits
pub few_items : (b c : ℕ) → b ≤ 15 → c ≤ 1023 → b * c ≤ 15345
few_items b c few small = mul-le b c 15 1023 few small

pub near_cell : (c w : ℕ) → c ≤ 1023 → w ≤ 65535 → c * w ≤ 67042305
near_cell c w few small = mul-le c w 1023 65535 few small

-- an item of a row is one of all
pub rows : (a n b m : ℕ) → b < n → a < m → a * n + b < m * n
rows a n b m p q = omega (arith, mul-add-lt a n b m q p)
