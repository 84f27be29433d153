-- Where a clock's fault lies. Assumes nothing.
use Rattle.std.specs.Prelude.{◌≡◌, ℕ, ◌+◌, ◌≤◌, ◌||◌, List, Some, None, Option, ◌==◌, nat_lt, slice_index, refl}
use Rattle.std.proofs.Common.{arith}
use Rattle.std.proofs.lemmas.Bool.{cond_both}
use Rattle.calendar.specs.Calendar.{days}
use Rattle.velocity.specs.Layout.{word}
use Rattle.velocity.specs.Clock.{clock_fault, clock_at}

-- the ways of a clock: a fault at one of its fields, or none
module _ (at y mo d h mi se hu : ℕ) (P : Option ℕ → Type 0) (wrong : (place : ℕ) → at ≤ place → place ≤ at + 6 → P (Some place)) (right : P None) where
  pub clock_ways : P (clock_fault at y mo d h mi se hu)
  clock_ways =
      cond_both (nat_lt 11 mo) _ _ P (λ _. wrong (at + 1) (omega arith) (omega arith))
      (λ _. cond_both (d == 0 || nat_lt (days (y + 1900) mo) d) _ _ P (λ _. wrong (at + 2) (omega arith) (omega arith))
      (λ _. cond_both (nat_lt 23 h) _ _ P (λ _. wrong (at + 3) (omega arith) (omega arith))
      (λ _. cond_both (nat_lt 59 mi) _ _ P (λ _. wrong (at + 4) (omega arith) (omega arith))
      (λ _. cond_both (nat_lt 59 se) _ _ P (λ _. wrong (at + 5) (omega arith) (omega arith))
      (λ _. cond_both (nat_lt 9999 hu) _ _ P (λ _. wrong (at + 6) (omega arith) (omega arith)) (λ _. right))))))

pub clock_at_ways : (at : ℕ) (s : List ℕ) (P : Option ℕ → Type 0)
    → ((place : ℕ) → at ≤ place → place ≤ at + 6 → P (Some place)) → P None → P (clock_at at s)
clock_at_ways at s =
    clock_ways at (slice_index s at) (slice_index s (at + 1)) (slice_index s (at + 2)) (slice_index s (at + 3)) (slice_index s (at + 4)) (slice_index s (at + 5)) (word s (at + 6))

-- 29 February is a day of 2000 and not of 1900
real_2000 : clock_fault 0 100 1 29 0 0 0 0 ≡ None
real_2000 = refl

not_real_1900 : clock_fault 0 0 1 29 0 0 0 0 ≡ Some 2
not_real_1900 = refl
