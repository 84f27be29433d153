-- A header put in front of data makes a frame. Assumes nothing.
use Rattle.std.proofs.Common.{◌≡◌, ℕ, ◌+◌, ◌≤◌, List, ◌++◌, length, get_or, take, drop, sym, refl, ap, ◌∙◌, subst, arith, length-append, length-drop, length-take, take-append-drop}
use Rattle.std.proofs.lemmas.List.{append_assoc, take_at, drop-drop}
use Rattle.std.proofs.lemmas.Bool.{le-leb, cond-true}
use Rattle.framing.specs.Binary.{binary, header_of}
use Rattle.framing.specs.Plan.{judged}
use Rattle.framing.proofs.BinaryFrames.{to_frame}
use Rattle.writing.specs.Drafts.{put_at, Seals}

-- a space with a header over its first ten bytes
fronted : (header d before : List ℕ) (n : ℕ) → length header ≡ 10 → take n (drop 10 before) ≡ d → length d ≡ n
    → put_at 0 header before ≡ header ++ (d ++ drop (10 + n) before)
fronted header d before n ten is long =
    let at : 0 + length header ≡ 10 = omega arith in
    ap (λ k. header ++ drop k before) at
    ∙ ap (λ x. header ++ x) (sym (take-append-drop n (drop 10 before)) ∙ ap (λ x. x ++ drop n (drop 10 before)) is ∙ ap (λ x. d ++ x) (drop-drop n 10 before))

module _ (series : ℕ) (d before after : List ℕ) (enough : 10 ≤ length before) (few : length d ≤ 8182)
    (is : after ≡ header_of series d ++ (d ++ drop (10 + length d) before)) where
  abbrev rest : List ℕ
  rest = drop (10 + length d) before

  -- the frame alone
  written : take (10 + length d) after ≡ header_of series d ++ d
  written =
      ap (take (10 + length d)) (is ∙ sym (append_assoc (header_of series d) d rest))
      ∙ take_at (header_of series d ++ d) rest (10 + length d) (length-append (header_of series d) d)

  seals : Seals series d before after (10 + length d)
  seals =
      let yes = le-leb 10 (length before) enough in
      record {
        says = sym (cond-true _ (10 + length d) 0 yes);
        leaves = is ∙ sym (cond-true _ (header_of series d ++ (d ++ rest)) before yes);
        reads = λ _ more. ap (λ x. judged binary (x ++ more)) written ∙ ap (judged binary) (append_assoc (header_of series d) d more) ∙ to_frame series d more few;
        reads_there = λ _. ap (judged binary) is ∙ to_frame series d rest few;
        same_series = λ _. ap (λ x. get_or x 2 0) is;
        same_data = λ _. ap (drop 10) written;
      }

-- a header written in front of the first n data bytes of a space
pub sealed : (series n : ℕ) (before after : List ℕ) → 10 + n ≤ length before → n ≤ 8182
    → after ≡ put_at 0 (header_of series (take n (drop 10 before))) before → Seals series (take n (drop 10 before)) before after (10 + n)
sealed series n before after room few is =
    let d : List ℕ = take n (drop 10 before) in
    let long : length d ≡ n = simp (length-take, length-drop) (omega arith) in
    subst (Seals series d before after) (ap (λ k. 10 + k) long)
    (seals series d before after (omega arith) (omega (arith, long)) (is ∙ fronted (header_of series d) d before (length d) refl (ap (λ k. take k (drop 10 before)) long) refl))
