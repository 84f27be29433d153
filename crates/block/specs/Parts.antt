-- Lists cut into parts of one length, and lists joined from parts. Assumes nothing.
use Rattle.std.specs.Prelude.{ℕ, zero, suc, ◌*◌, Bool, List, [], ◌++◌, take, drop, ◌==◌}
use Rattle.std.specs.List.{list_all}

module _ {X : Type 0} where
  -- the part at a place, counted from 0, of a list that is cut into parts of w items
  abbrev pub part : ℕ → ℕ → List X → List X
  part w k s = take w (drop (w * k) s)

  -- what f gives at each place below n, joined in order
  abbrev pub each : (ℕ → List X) → ℕ → List X
  each f zero = []
  each f (suc n) = each f n ++ f n

-- whether all bytes are 0
abbrev pub all_zero : List ℕ → Bool
all_zero s = list_all (λ b. b == 0) s
