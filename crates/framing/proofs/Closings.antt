-- The verdict behind a payload, where `*` and four bytes follow. Assumes nothing.
use Rattle.std.proofs.Common.{◌≡◌, ℕ, ◌+◌, ◌≤◌, cond, List, ◌∷◌, ◌++◌, length, get_or, take, drop, sym, ap, ◌∙◌, arith}
use Rattle.std.specs.Array.{IsFirstChunk}
use Rattle.std.proofs.lemmas.Bool.{cond-true, cond-false, le-leb, eq-eqb, le-ltb}
use Rattle.framing.specs.declared.verdict.Verdict.TheVariants.{NoFrame, Frame}
use Rattle.framing.specs.Plan.{judged}
use Rattle.framing.specs.Sentence.{closing, finished, xor_of}
use Rattle.framing.specs.SentencePlan.{closing_is}

pub closed_by : (text tail : List ℕ) → 1 ≤ length text → get_or tail 0 0 ≡ 42 → 5 ≤ length tail
    → judged (closing (length text)) (36 ∷ (text ++ tail)) ≡ cond (finished (xor_of text) (take 4 (drop 1 tail))) (Frame (length text + 6) 2) NoFrame
closed_by text tail some star long =
    closing_is text tail (omega arith) ∙ cond-true _ _ _ (le-leb 1 (length text) some) ∙ cond-true _ _ _ (eq-eqb _ _ star)
    ∙ cond-false _ _ _ (le-ltb (length tail) 5 long)

-- the same, where the four bytes are the first of those behind `*`
pub ended : (text rest end : List ℕ) (mark : ℕ) → 1 ≤ length text → mark ≡ 42 → IsFirstChunk rest end 4
    → cond (finished (xor_of text) end) (Frame (length text + 6) 2) NoFrame ≡ judged (closing (length text)) (36 ∷ (text ++ (mark ∷ rest)))
ended text rest end mark some star first =
    ap (λ x. cond (finished (xor_of text) x) (Frame (length text + 6) 2) NoFrame) first.same
    ∙ sym (closed_by text (mark ∷ rest) some star (omega (arith, first.enough)))
