-- Numbers above 100, and a DF3 record that has none among its correlations. Assumes nothing.
use Rattle.std.proofs.Common.{◌≡◌, ℕ, suc, ◌+◌, ◌<◌, ◌≤◌, Bool, true, false, cond, ltb, List, [], ◌∷◌, length, not, tests, get_or, take, drop, Some, None, sym, refl, ◌∙◌, arith, length-drop, length-take}
use Rattle.std.specs.List.{position, position_or_len}
use Rattle.std.specs.Option.{option_map}
use Rattle.std.proofs.lemmas.Option.{none-some}
use Rattle.std.proofs.lemmas.List.Sums.{fails_before_first}
use Rattle.std.proofs.lemmas.List.{get_or-take, get_or-drop}
use Rattle.std.proofs.lemmas.Bool.{ltb-false}
use Rattle.format.specs.Meaning.{data_place}
use Rattle.velocity.specs.Df3.{correlations, correlation_position, first_above, high_correlation}

abbrev high : ℕ → Bool
high x = ltb 100 x

above_from : (place : ℕ) (xs : List ℕ) → first_above place xs ≡ cond (ltb (position_or_len high xs) (length xs)) (Some (place + position_or_len high xs)) None
above_from place [] = refl
above_from place (x ∷ xs) = by (high x) (above_from (place + 1) xs)
  where
    by : (b : Bool) → first_above (place + 1) xs ≡ cond (ltb (position_or_len high xs) (length xs)) (Some (place + 1 + position_or_len high xs)) None
        → cond b (Some place) (first_above (place + 1) xs) ≡ cond (ltb (cond (not b) (1 + position_or_len high xs) 0) (suc (length xs))) (Some (place + cond (not b) (1 + position_or_len high xs) 0)) None
    by true rest = grind (arith, tests)
    by false rest = grind (arith, tests, rest)

-- the first number above 100 of numbers that begin at a place
pub above : (place : ℕ) (xs : List ℕ) → first_above place xs ≡ option_map (λ i. place + i) (position high xs)
above place xs = at (ltb (position_or_len high xs) (length xs)) (above_from place xs)
  where
    at : (b : Bool) → first_above place xs ≡ cond b (Some (place + position_or_len high xs)) None
        → first_above place xs ≡ option_map (λ i. place + i) (cond b (Some (position_or_len high xs)) None)
    at true e = e
    at false e = e

none_above : (place : ℕ) (xs : List ℕ) → first_above place xs ≡ None → (i : ℕ) → i < length xs → get_or xs i 0 ≤ 100
none_above place xs e i l = at (ltb (position_or_len high xs) (length xs)) refl (sym (above_from place xs) ∙ e)
  where
    at : (b : Bool) → ltb (position_or_len high xs) (length xs) ≡ b → cond b (Some (place + position_or_len high xs)) None ≡ None → get_or xs i 0 ≤ 100
    at true t e = absurd (none-some _ (sym e))
    at false t e = ltb-false 100 (get_or xs i 0) (fails_before_first high xs i 0 (omega (arith, ltb-false _ _ t)))

module _ (s : List ℕ) (high : high_correlation s ≡ None) where
  nominal_or : (b : Bool) → ltb 100 (get_or s 46 0) ≡ b → cond b (Some 46) (first_above (correlation_position s + data_place) (take (correlations s) (drop (correlation_position s + data_place) s))) ≡ None
      → (get_or s 46 0 ≤ 100) × (first_above (correlation_position s + data_place) (take (correlations s) (drop (correlation_position s + data_place) s)) ≡ None)
  nominal_or true t e = absurd (none-some _ (sym e))
  nominal_or false t e = (ltb-false 100 (get_or s 46 0) t, e)

  pub nominal_low : get_or s 46 0 ≤ 100
  nominal_low = (nominal_or (ltb 100 (get_or s 46 0)) refl high).0

  pub correlation_low : (i : ℕ) → i < correlations s → correlation_position s + data_place + i < length s → get_or s (correlation_position s + data_place + i) 0 ≤ 100
  correlation_low i l h =
      let from : ℕ = correlation_position s + data_place in
      let long : i < length (take (correlations s) (drop from s)) = simp (length-take, length-drop) (omega arith) in
      let low = none_above from (take (correlations s) (drop from s)) (nominal_or (ltb 100 (get_or s 46 0)) refl high).1 i long in
      omega (arith, low, get_or-take (correlations s) (drop from s) i 0 l ∙ get_or-drop from s i 0)
