-- The plan of the sentence framing: it is sound, and what it comes to behind the payload. Assumes nothing.
use Rattle.std.specs.Prelude.{◌≡◌, ℕ, suc, ◌+◌, ◌-◌, ◌<◌, ◌≤◌, min, max, Bool, true, false, cond, ltb, List, ◌∷◌, ◌++◌, length, take, drop, ◌==◌, nat_le, nat_lt, slice_index, slice_index_or, slice_range, refl}
use Rattle.std.proofs.Common.{sym, ap, ◌∙◌, arith, length-append, length-take, length-drop}
use Rattle.std.specs.List.{prefix_len}
use Rattle.std.proofs.lemmas.List.{take_at, drop_at, get_or-take, drop-take, get_or-append_right, take-take, drop-drop, drop_more, take_rest, take-append-drop}
use Rattle.std.proofs.lemmas.List.Folds.{prefix_len-append}
use Rattle.std.proofs.lemmas.List.Sums.{prefix_len-le-length}
use Rattle.std.proofs.lemmas.Bool.{eq-eqb, lt-ltb, le-ltb, lt-leb, le-leb}
use Rattle.std.proofs.lemmas.Bool.Decides.{nat_tests}
use Rattle.framing.specs.declared.verdict.Verdict.TheVariants.{NoFrame, Short, Frame}
use Rattle.framing.specs.Verdicts.{Laws}
use Rattle.framing.specs.Plan.{Plan, await, span, frame, given, spanned, judged, Sound}
use Rattle.framing.specs.Sentence.{sentence, closing, finished, payload, xor_of}
use Rattle.framing.specs.Plans.{lawful, given_sound, judged_await, judged_step, judged_last, spanned_on}

-- the plan from the `*` on, and from the checksum on
abbrev ending : ℕ → Plan
ending n = await (n + 6) λ s. given (finished (xor_of (take n (drop 1 s))) (drop (n + 2) s)) (frame (n + 6) 2)

abbrev starred : ℕ → Plan
starred n = await (n + 2) λ s. given (slice_index s (n + 1) == 42) (ending n)

closing_sound : (n : ℕ) → n ≤ 506 → Sound 512 (max 1 (1 + n + 1)) (closing n)
closing_sound n few = given_sound (nat_le 1 n) (starred n) 512 _ λ _. (
  omega arith,
  λ s _. given_sound (slice_index s (n + 1) == 42) (ending n) 512 _ λ _. (
    omega arith,
    λ t _. given_sound (finished (xor_of (take n (drop 1 t))) (drop (n + 2) t)) (frame (n + 6) 2) 512 _ λ _.
        (omega arith, omega arith, omega arith),
  ),
)

pub sentence_lawful : Laws (judged sentence) 512
sentence_lawful = lawful sentence 512 sound refl (omega arith) (omega arith)
  where
    sound : Sound 512 0 sentence
    sound = (omega arith, λ s _. given_sound (slice_index s 0 == 36) (span 1 payload 506 closing) 512 1 λ _. (omega arith, omega arith, closing_sound))

-- a step that goes on only where a test holds
judged_cond : (b : Bool) (p : Plan) (s : List ℕ) → judged (given b p) s ≡ cond b (judged p s) NoFrame
judged_cond true p s = refl
judged_cond false p s = refl

module _ (text tail : List ℕ) (there : 0 < length tail) where
  abbrev n : ℕ
  n = length text

  abbrev s : List ℕ
  s = 36 ∷ (text ++ tail)

  long : length s ≡ 1 + n + length tail
  long = ap suc (length-append text tail) ∙ omega arith

  star_at : slice_index_or (take (n + 2) s) (n + 1) 0 ≡ slice_index tail 0
  star_at =
      get_or-take (n + 2) s (n + 1) 0 (omega arith) ∙ get_or-append_right (36 ∷ text) tail (n + 1) (n + 1) 0 (omega arith) (omega arith)
      ∙ ap (λ i. slice_index tail i) (omega arith)

  text_at : take n (drop 1 (take (n + 6) s)) ≡ text
  text_at =
      let six : n + 6 ≡ 1 + (n + 5) = omega arith in
      ap (λ i. take n (drop 1 (take i s))) six ∙ ap (take n) (drop-take 1 (n + 5) s)
      ∙ take-take n (n + 5) (text ++ tail) (omega arith) ∙ take_at text tail n refl

  end_at : drop (n + 2) (take (n + 6) s) ≡ take 4 (drop 1 tail)
  end_at =
      let six : n + 6 ≡ n + 2 + 4 = omega arith in
      let two : n + 2 ≡ n + 1 + 1 = omega arith in
      ap (λ i. drop (n + 2) (take i s)) six ∙ drop-take (n + 2) 4 s
      ∙ ap (λ i. take 4 (drop i s)) two ∙ ap (take 4) (sym (drop-drop 1 (n + 1) s) ∙ ap (drop 1) (drop_at (36 ∷ text) tail (n + 1) (omega arith)))

  ending_is : judged (ending n) s ≡ cond (nat_lt (length tail) 5) Short (cond (finished (xor_of text) (take 4 (drop 1 tail))) (Frame (n + 6) 2) NoFrame)
  ending_is =
      let waits : ltb (length s) (n + 6) ≡ ltb (length tail) 5 = grind (arith, nat_tests, long) in
      ap (λ b. cond b Short (judged (given (finished (xor_of (take n (drop 1 (take (n + 6) s)))) (drop (n + 2) (take (n + 6) s))) (frame (n + 6) 2)) s)) waits
      ∙ ap (λ v. cond (nat_lt (length tail) 5) Short v)
      (judged_last (finished (xor_of (take n (drop 1 (take (n + 6) s)))) (drop (n + 2) (take (n + 6) s))) (n + 6) 2 s
      ∙ ap (λ x. cond (finished (xor_of x) (drop (n + 2) (take (n + 6) s))) (Frame (n + 6) 2) NoFrame) text_at
      ∙ ap (λ x. cond (finished (xor_of text) x) (Frame (n + 6) 2) NoFrame) end_at)

  -- the verdict on `$`, a payload and what comes behind it
  pub closing_is : judged (closing n) s ≡ cond (nat_le 1 n) (cond (slice_index tail 0 == 42) (cond (nat_lt (length tail) 5) Short (cond (finished (xor_of text) (take 4 (drop 1 tail))) (Frame (n + 6) 2) NoFrame)) NoFrame) NoFrame
  closing_is =
      judged_cond (nat_le 1 n) (starred n) s ∙ ap (λ v. cond (nat_le 1 n) v NoFrame)
      (judged_await (n + 2) (λ x. given (slice_index x (n + 1) == 42) (ending n)) s (omega (arith, long))
      ∙ judged_cond (slice_index (take (n + 2) s) (n + 1) == 42) (ending n) s
      ∙ ap (λ x. cond (x == 42) (judged (ending n) s) NoFrame) star_at
      ∙ ap (λ v. cond (slice_index tail 0 == 42) v NoFrame) ending_is)

leading_take : (test : ℕ → Bool) (j : ℕ) (s : List ℕ) → prefix_len test (take j s) ≡ min j (prefix_len test s)
leading_take test j s =
    let parts = prefix_len-append test (take j s) (drop j s) in
    let whole = ap (prefix_len test) (take-append-drop j s) in
    grind (arith, nat_tests, length-take j s, length-drop j s, prefix_len-le-length test s, prefix_len-le-length test (take j s), prefix_len-le-length test (drop j s))

module _ (s : List ℕ) (first : 0 < length s) (dollar : slice_index_or s 0 0 ≡ 36) where
  abbrev count : ℕ
  count = prefix_len payload (drop 1 s)

  pub sentence_is : judged sentence s ≡ spanned (nat_lt (1 + count) (length s)) (nat_le count 506) (judged (closing count) s)
  sentence_is =
      judged_step 1 (λ x. slice_index x 0 == 36) (λ _. span 1 payload 506 closing) s (omega arith) (eq-eqb _ _ (get_or-take 1 s 0 0 (omega arith) ∙ dollar))

  -- the payload that is counted among the first bytes
  pub near_count : (near : ℕ) → near ≡ min (length s) 508 → prefix_len payload (slice_range s 1 near) ≡ min 507 count
  near_count near e =
      let all : count ≤ length s - 1 = omega (arith, prefix_len-le-length payload (drop 1 s), length-drop 1 s) in
      omega (arith, leading_take payload (near - 1) (drop 1 s))

  pub parts_are : (k : ℕ) → 1 ≤ k → k ≤ length s → 36 ∷ (slice_range s 1 k ++ take (length s - k) (drop k s)) ≡ s
  parts_are k low high =
      let rest : take (length s - k) (drop k s) ≡ drop (k - 1) (drop 1 s) =
      take_rest s k ∙ ap (λ i. drop i s) {y = 1 + (k - 1)} (omega arith) ∙ sym (drop-drop (k - 1) 1 s) in
      ap (λ t. 36 ∷ (slice_range s 1 k ++ t)) rest ∙ ap (λ t. 36 ∷ t) (take-append-drop (k - 1) (drop 1 s))
      ∙ ap (λ x. x ∷ drop 1 s) (sym dollar) ∙ sym (drop_more s 0 0 first)

  -- the three ways behind the payload
  pub too_many : 506 < count → NoFrame ≡ judged sentence s
  too_many h = sym (sentence_is ∙ ap (λ b. spanned (nat_lt (1 + count) (length s)) b (judged (closing count) s)) (lt-leb count 506 h))

  pub open_ended : count ≤ 506 → length s ≤ 1 + count → Short ≡ judged sentence s
  open_ended h l =
      sym (sentence_is ∙ ap (λ b. spanned b (nat_le count 506) (judged (closing count) s)) (le-ltb (1 + count) (length s) l)
      ∙ ap (λ b. spanned false b (judged (closing count) s)) (le-leb count 506 h))

  pub closes : (k : ℕ) (tail : List ℕ) → tail ≡ take (length s - k) (drop k s) → k ≡ 1 + count → count ≤ 506 → k < length s
      → judged (closing (length (slice_range s 1 k))) (36 ∷ (slice_range s 1 k ++ tail)) ≡ judged sentence s
  closes k tail t e h l =
      let long : length (slice_range s 1 k) ≡ count = simp (length-take, length-drop) (omega arith) in
      ap (λ m. judged (closing m) (36 ∷ (slice_range s 1 k ++ tail))) long
      ∙ ap (λ r. judged (closing count) (36 ∷ (slice_range s 1 k ++ r))) t
      ∙ ap (judged (closing count)) (parts_are k (omega arith) (omega arith))
      ∙ sym (sentence_is ∙ spanned_on _ _ _ (lt-ltb (1 + count) (length s) (omega arith)) (le-leb count 506 h))
