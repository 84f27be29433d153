-- Places where a test says yes, and bytes that are all 0. Assumes nothing.
use Rattle.std.proofs.Common.{◌≡◌, ℕ, zero, suc, ◌<◌, Bool, true, false, eqb, ltb, List, [], ◌∷◌, length, get_or, replicate, None, position, refl, ap, ◌∙◌, inl, inr, arith}
use Rattle.std.specs.List.{position_or_len}
use Rattle.std.proofs.lemmas.List.Sums.{position_or_len_is, fails_before_first}
use Rattle.std.proofs.lemmas.Bool.{cases_Bool, cond-false, le-ltb, ltb-false, and_parts, eqb-true}
use Rattle.block.specs.Parts.{all_zero}

-- a test finds no place in a list exactly where it says no at each
module _ {X : Type 0} (p : X → Bool) (d : X) where
  pub none_found : (xs : List X) → ((k : ℕ) → k < length xs → p (get_or xs k d) ≡ false) → position p xs ≡ None
  none_found xs fails =
      let end : position_or_len p xs ≡ length xs = position_or_len_is p xs (length xs) d (omega arith) fails (λ less. absurd (omega arith)) in
      cond-false _ _ _ (le-ltb (position_or_len p xs) (length xs) (omega arith))

  pub none_there : (xs : List X) → position p xs ≡ None → (k : ℕ) → k < length xs → p (get_or xs k d) ≡ false
  none_there xs none k less =
      elim (cases_Bool (ltb (position_or_len p xs) (length xs))) [
        | inl found ↦ let z : ◌≡◌ {A = ℕ} 0 1 = cc (rw found at none) in absurd (omega arith)
        | inr end ↦ fails_before_first p xs k d (omega (arith, ltb-false (position_or_len p xs) (length xs) end))
      ]

pub zeros_zero : (n : ℕ) → all_zero (replicate n 0) ≡ true
zeros_zero zero = refl
zeros_zero (suc n) = zeros_zero n

pub zero_is : (s : List ℕ) → all_zero s ≡ true → s ≡ replicate (length s) 0
zero_is [] h = refl
zero_is (b ∷ s) h =
    let both = and_parts (eqb b 0) (all_zero s) h in
    ap (λ x. x ∷ s) (eqb-true b 0 both.0) ∙ ap (λ t. 0 ∷ t) (zero_is s both.1)
