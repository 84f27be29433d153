-- Bytes of a list, one by one. Assumes nothing.
use Rattle.std.proofs.Common.{◌≡◌, ℕ, suc, zero, ◌+◌, ◌≤◌, List, [], ◌∷◌, length, get_or, take, drop, refl, ap, ◌∙◌, arith}
use Rattle.std.proofs.Math.Seq.{drop-cons}

-- n bytes from place i on
abbrev pub reads : ℕ → ℕ → List ℕ → List ℕ
reads zero i s = []
reads (suc n) i s = get_or s i 0 ∷ reads n (suc i) s

pub reads_are : (n i : ℕ) (s : List ℕ) → i + n ≤ length s → take n (drop i s) ≡ reads n i s
reads_are zero i s l = refl
reads_are (suc n) i s l =
    ap (take (suc n)) (drop-cons s i 0 (omega arith)) ∙ ap (λ t. get_or s i 0 ∷ t) (reads_are n (suc i) s (omega arith))
