-- The plan of the binary framing: it is sound, and what it comes to where the data are there. Assumes nothing.
use Rattle.std.specs.Prelude.{◌≡◌, ℕ, ◌+◌, ◌≤◌, Bool, true, cond, List, length, take, drop, ◌==◌, nat_eq, slice_index, slice_index_or, refl}
use Rattle.std.proofs.Common.{ap, ◌∙◌, arith}
use Rattle.std.proofs.lemmas.List.{drop-take, get_or-take}
use Rattle.std.proofs.lemmas.Bool.{and_parts, leb-true, eq-eqb}
use Rattle.framing.specs.declared.verdict.Verdict.TheVariants.{NoFrame, Frame}
use Rattle.framing.specs.Checksum.{checksum}
use Rattle.framing.specs.Verdicts.{Laws}
use Rattle.framing.specs.Plan.{Plan, await, frame, given, judged, Sound}
use Rattle.framing.specs.Binary.{binary, header, body, headed, word}
use Rattle.framing.specs.Plans.{lawful, given_sound, judged_await, judged_step, judged_last}

pub headed_size : (h : List ℕ) → headed h ≡ true → word h 4 ≤ 8182
headed_size h t =
    let sum : Bool = nat_eq (word h 8) (checksum (take 8 h)) in
    let two = (and_parts (slice_index h 3 == 0x10) _ t).1 in
    leb-true (word h 4) 8182 (and_parts sum _ two).1

body_sound : (h : List ℕ) → headed h ≡ true → Sound 8192 10 (body h)
body_sound h t =
    let size = headed_size h t in
    (omega arith, λ s _. given_sound (checksum (drop 10 s) == word h 6) (frame (10 + word h 4) 1) 8192 _ λ _. (omega arith, omega arith, omega arith))

header_sound : Sound 8192 2 header
header_sound = (omega arith, λ h _. given_sound (headed h) (body h) 8192 10 (body_sound h))

abbrev pub after_sync : Plan
after_sync = await 2 λ s. given (slice_index s 1 == 10) header

binary_sound : Sound 8192 0 binary
binary_sound = (
  omega arith,
  λ s _. given_sound (slice_index s 0 == 0xA5) after_sync 8192 1
      (λ _. (omega arith, λ s _. given_sound (slice_index s 1 == 10) header 8192 2 (λ _. header_sound))),
)

pub binary_lawful : Laws (judged binary) 8192
binary_lawful = lawful binary 8192 binary_sound refl (omega arith) (omega arith)

module _ (s : List ℕ) where
  abbrev h : List ℕ
  h = take 10 s

  -- where the header is a right one, and all the data are there
  pub binary_data : slice_index_or s 0 0 ≡ 0xA5 → slice_index s 1 ≡ 10 → headed h ≡ true → 10 + word h 4 ≤ length s
      → judged binary s ≡ cond (checksum (take (word h 4) (drop 10 s)) == word h 6) (Frame (10 + word h 4) 1) NoFrame
  binary_data sync size right there =
      judged_step 1 (λ x. slice_index x 0 == 0xA5) (λ _. after_sync) s (omega arith) (eq-eqb _ _ (get_or-take 1 s 0 0 (omega arith) ∙ sync))
      ∙ judged_step 2 (λ x. slice_index x 1 == 10) (λ _. header) s (omega arith) (eq-eqb _ _ (get_or-take 2 s 1 0 (omega arith) ∙ size))
      ∙ judged_step 10 headed body s (omega arith) right
      ∙ judged_await (10 + word h 4) (λ x. given (checksum (drop 10 x) == word h 6) (frame (10 + word h 4) 1)) s there
      ∙ judged_last (checksum (drop 10 (take (10 + word h 4) s)) == word h 6) (10 + word h 4) 1 s
      ∙ ap (λ x. cond (checksum x == word h 6) (Frame (10 + word h 4) 1) NoFrame) (drop-take 10 (word h 4) s)
