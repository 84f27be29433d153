-- Numbers taken apart into their little-endian bytes and put together again. Assumes nothing.
use Rattle.std.proofs.Common.{◌≡◌, ℕ, zero, suc, ◌+◌, ◌*◌, ◌/◌, ◌%◌, ◌^◌, ◌<◌, List, [], ◌∷◌, length, get_or, take, drop, sym, refl, ap, ◌∙◌, subst, pow-suc, arith}
use Rattle.std.proofs.lemmas.Nat.{div_below}
use Rattle.std.proofs.lemmas.List.{get_or-drop, drop_more}
use Rattle.common.specs.Numbers.{number, le}

-- a number that fits n bytes is the number of its n bytes
pub number-le : (n x : ℕ) → x < 256 ^ n → number (le n x) ≡ x
number-le zero x fits = omega arith
number-le (suc n) x fits =
    let small : x / 256 < 256 ^ n = div_below x 256 (256 ^ n) (omega arith) (subst (λ p. x < p) (pow-suc 256 n) fits) in
    omega (arith, number-le n (x / 256) small)

-- bytes are the bytes of their number
pub le-number : (s : List ℕ) → ((i : ℕ) → get_or s i 0 < 256) → le (length s) (number s) ≡ s
le-number [] typed = refl
le-number (b ∷ s) typed =
    let first : b < 256 = typed 0 in
    let low : (b + 256 * number s) % 256 ≡ b = omega arith in
    let high : (b + 256 * number s) / 256 ≡ number s = omega arith in
    ap (λ x. x ∷ le (length s) ((b + 256 * number s) / 256)) low ∙ ap (λ x. b ∷ le (length s) x) high
    ∙ ap (λ x. b ∷ x) (le-number s (λ i. typed (suc i)))

-- n bytes are below 256^n
pub number_below : (s : List ℕ) → ((i : ℕ) → get_or s i 0 < 256) → number s < 256 ^ length s
number_below [] typed = omega arith
number_below (b ∷ s) typed =
    let rest : number s < 256 ^ length s = number_below s (λ i. typed (suc i)) in
    let first : b < 256 = typed 0 in
    subst (λ p. b + 256 * number s < p) (sym (pow-suc 256 (length s))) (omega arith)

-- the bytes of a part of some bytes
module _ (s : List ℕ) (typed : (i : ℕ) → get_or s i 0 < 256) where
  pub typed_drop : (n i : ℕ) → get_or (drop n s) i 0 < 256
  typed_drop n i = subst (λ x. x < 256) (sym (get_or-drop n s i 0)) (typed (n + i))

pub typed_take : (n : ℕ) (s : List ℕ) → ((i : ℕ) → get_or s i 0 < 256) → (i : ℕ) → get_or (take n s) i 0 < 256
typed_take zero s typed i = omega arith
typed_take (suc n) [] typed i = omega arith
typed_take (suc n) (b ∷ s) typed zero = typed 0
typed_take (suc n) (b ∷ s) typed (suc i) = typed_take n s (λ j. typed (suc j)) i

-- a number read byte by byte
pub number_more : (s : List ℕ) (at n : ℕ) → at < length s → number (take (suc n) (drop at s)) ≡ get_or s at 0 + 256 * number (take n (drop (at + 1) s))
number_more s at n less = ap (λ x. number (take (suc n) x)) (drop_more s at 0 less)
