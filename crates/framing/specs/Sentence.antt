-- The sentence framing, kind 2: a line of text between `$` and its checksum. Assumes nothing.
use Rattle.std.specs.Prelude.{◌≡◌, ℕ, ◌+◌, ◌-◌, ◌*◌, ◌/◌, ◌%◌, ◌≤◌, Bool, true, false, cond, not, ◌&&◌, List, [], ◌∷◌, ◌++◌, length, take, drop, Some, None, fold, Option, ◌==◌, bit_xor, nat_le, nat_lt, slice_index}
use Rattle.std.specs.List.{AllByRecursion}
use Rattle.framing.specs.declared.verdict.Verdict.{Verdict}
use Rattle.framing.specs.declared.verdict.Verdict.TheVariants.{Frame}
use Rattle.framing.specs.Plan.{Plan, frame, await, span, given}

-- a byte that may stand between `$` and `*`: printable, and neither of these two
abbrev pub payload : ℕ → Bool
payload b = (nat_le 0x20 b && nat_le b 0x7E) && (not (b == 36) && not (b == 42))

-- the exclusive-or of some bytes
abbrev pub xor_of : List ℕ → ℕ
xor_of s = fold bit_xor 0 s

-- the value of a character out of 0 to 9 and A to F
abbrev pub hex_value : ℕ → Option ℕ
hex_value c = cond (nat_le 48 c && nat_le c 57) (Some (c - 48)) (cond (nat_le 65 c && nat_le c 70) (Some (c - 55)) None)

-- two hex digits, the high one first, give a number
abbrev pub give : Option ℕ → Option ℕ → ℕ → Bool
give None low x = false
give (Some high) None x = false
give (Some high) (Some low) x = 16 * high + low == x

-- behind the `*`: the two digits of the checksum, CR and LF
abbrev pub finished : ℕ → List ℕ → Bool
finished x t = give (hex_value (slice_index t 0)) (hex_value (slice_index t 1)) x && (slice_index t 2 == 13 && slice_index t 3 == 10)

-- behind n payload bytes: there is one, the `*` follows, and then the checksum of the payload and the line's end
abbrev pub closing : ℕ → Plan
closing n =
    given (nat_le 1 n) (await (n + 2) λ s. given (slice_index s (n + 1) == 42)
    (await (n + 6) λ s. given (finished (xor_of (take n (drop 1 s))) (drop (n + 2) s)) (frame (n + 6) 2)))

-- `$`, at most 506 payload bytes, and what closes them
abbrev pub sentence : Plan
sentence = await 1 λ s. given (slice_index s 0 == 36) (span 1 payload 506 closing)

-- the upper-case hex digit of a number below 16
abbrev pub hex_digit : ℕ → ℕ
hex_digit v = cond (nat_lt v 10) (48 + v) (55 + v)

-- the sentence with this payload: `$`, the payload, `*`, its exclusive-or in two hex digits, CR and LF
abbrev pub sentence_of : List ℕ → List ℕ
sentence_of text = 36 ∷ (text ++ (42 ∷ (hex_digit (xor_of text / 16) ∷ (hex_digit (xor_of text % 16) ∷ (13 ∷ (10 ∷ []))))))

-- some bytes begin with a sentence of n bytes, whose payload is 1 to 506 payload bytes
pub record Framed (s : List ℕ) (n : ℕ) : Type 0 where
  pub text : List ℕ
  pub rest : List ℕ
  pub some : 1 ≤ length text
  pub fits : length text ≤ 506
  pub printable : AllByRecursion (λ b. payload b ≡ true) text
  pub begins : s ≡ sentence_of text ++ rest
  pub long : n ≡ length text + 6

-- the verdict on some bytes is a frame of n bytes exactly when they begin with a sentence of n bytes, and its kind is 2
abbrev pub ExactlySentences : List ℕ → Verdict → Type 0
ExactlySentences s r = (n k : ℕ) → (r ≡ Frame n k → (k ≡ 2) × Framed s n) × (k ≡ 2 → Framed s n → r ≡ Frame n k)
