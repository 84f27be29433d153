-- The checksum of some bytes by their words and a last odd byte. Assumes nothing.
use Rattle.std.proofs.Common.{◌≡◌, ℕ, suc, zero, ◌+◌, ◌*◌, ◌/◌, ◌%◌, ◌≤◌, List, [], ◌∷◌, length, get_or, drop, refl, ap, ◌∙◌, arith, length-drop}
use Rattle.std.specs.List.{sum_by}
use Rattle.std.specs.Int.{from_le_bytes, w16}
use Rattle.std.specs.Simd.{first_chunks}
use Rattle.std.proofs.lemmas.List.{drop-drop}
use Rattle.std.proofs.lemmas.List.Sums.{sum_by-cons}
use Rattle.framing.specs.Checksum.{words, checksum}

abbrev word_sum : ℕ → List ℕ → ℕ
word_sum n s = sum_by (from_le_bytes w16) (first_chunks 2 n s)

words_of : (n : ℕ) (s : List ℕ) → n * 2 ≤ length s → words s ≡ word_sum n s + words (drop (n * 2) s)
words_of zero s l = omega arith
words_of (suc n) [] l = absurd (omega arith)
words_of (suc n) (a ∷ []) l = absurd (omega arith)
words_of (suc n) (a ∷ (b ∷ s)) l =
    let on : drop (n * 2) s ≡ drop (suc n * 2) (a ∷ (b ∷ s)) = drop-drop (n * 2) 2 (a ∷ (b ∷ s)) ∙ ap (λ m. drop m (a ∷ (b ∷ s))) (omega arith) in
    omega (arith, words_of n s (omega arith), ap words on, sum_by-cons (from_le_bytes w16) (a ∷ (b ∷ [])) (first_chunks 2 n s))

last_of : (r : List ℕ) → length r ≡ 1 → words r ≡ 256 * get_or r 0 0
last_of (a ∷ []) h = refl
last_of [] h = absurd (omega arith)
last_of (a ∷ (b ∷ r)) h = absurd (omega arith)

none_of : (r : List ℕ) → length r ≡ 0 → words r ≡ 0
none_of [] h = refl
none_of (a ∷ r) h = absurd (omega arith)

pub even_sum : (s : List ℕ) → length s % 2 ≡ 0 → (0xB58C + word_sum (length s / 2) s) % 65536 ≡ checksum s
unfolding checksum
even_sum s h =
    omega (arith, words_of (length s / 2) s (omega arith), none_of (drop (length s / 2 * 2) s) (omega (arith, length-drop {A = ℕ})))

pub odd_sum : (s rest : List ℕ) → rest ≡ drop (length s / 2 * 2) s → length rest ≡ 1
    → ((0xB58C + word_sum (length s / 2) s) % 65536 + get_or rest 0 0 * 256 % 65536) % 65536 ≡ checksum s
unfolding checksum
odd_sum s rest e h = omega (arith, words_of (length s / 2) s (omega arith), last_of rest h, ap words e)
