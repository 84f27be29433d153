-- The sentence verdict is a frame exactly when the bytes begin with a sentence. Assumes nothing.
use Rattle.std.proofs.Common.{◌≡◌, ℕ, ◌+◌, ◌*◌, ◌/◌, ◌%◌, ◌<◌, ◌≤◌, Bool, true, false, cond, ◌&&◌, eqb, ltb, leb, List, [], ◌∷◌, ◌++◌, length, get_or, take, drop, Some, None, fold, Option, sym, refl, ap, ◌∙◌, subst, append_assoc, one-add, arith, length-append, length-drop, take-append-drop, length-take}
use lib.Bits.{bit_xor}
use Rattle.std.specs.List.{prefix_len, AllByRecursion}
use Rattle.std.proofs.lemmas.List.{drop_more, get_or-drop, get_or-take}
use Rattle.std.proofs.lemmas.Nat.{xor_lt}
use Rattle.std.proofs.lemmas.Bool.{cond-true, and_parts, and_from, leb-true, le-leb, lt-ltb, ltb-false, eqb-true, eq-eqb}
use Rattle.std.proofs.lemmas.Bool.Decides.{nat_tests}
use Rattle.framing.specs.declared.verdict.Verdict.{Verdict}
use Rattle.framing.specs.declared.verdict.Verdict.TheVariants.{NoFrame, Short, Frame}
use Rattle.framing.specs.Plan.{span, judged}
use Rattle.framing.specs.Sentence.{payload, xor_of, hex_value, give, finished, closing, sentence, hex_digit, Framed, ExactlySentences}
use Rattle.framing.specs.Plans.{frame_len, frame_kind, step_frame, span_frame, spanned_on}
use Rattle.framing.specs.SentencePlan.{closing_is, sentence_is}
use Rattle.framing.proofs.Closings.{closed_by}
use Rattle.framing.proofs.Listed.{reads_are}

abbrev Payload : ℕ → Type 0
Payload b = payload b ≡ true

-- the digits, written and read
digit_read : (v : ℕ) → v < 16 → hex_value (hex_digit v) ≡ Some v
digit_read v h = grind (arith, nat_tests)

digit_written : (c v : ℕ) → hex_value c ≡ Some v → (c ≡ hex_digit v) × (v < 16)
digit_written c v e = grind (arith, nat_tests)

give_read : (a b : Option ℕ) (x : ℕ) → give a b x ≡ true → (h : ℕ) × (l : ℕ) × (a ≡ Some h) × (b ≡ Some l) × (16 * h + l ≡ x)
give_read None b x e = absurd cc
give_read (Some h) None x e = absurd cc
give_read (Some h) (Some l) x e = (h, l, refl, refl, eqb-true (16 * h + l) x e)

-- the payload in front
leading_all : (text : List ℕ) (x : ℕ) (rest : List ℕ) → AllByRecursion Payload text → payload x ≡ false → prefix_len payload (text ++ (x ∷ rest)) ≡ length text
leading_all [] x rest all no_more = ap (λ b. cond b (1 + prefix_len payload rest) 0) no_more
leading_all (y ∷ text) x rest all no_more =
    ap (λ b. cond b (1 + prefix_len payload (text ++ (x ∷ rest))) 0) all.0 ∙ ap (λ n. 1 + n) (leading_all text x rest all.1 no_more) ∙ omega arith

front-all : (s : List ℕ) → AllByRecursion Payload (take (prefix_len payload s) s)
front-all [] = tt
front-all (y ∷ s) = at (payload y) refl (front-all s)
  where
    at : (b : Bool) → payload y ≡ b → AllByRecursion Payload (take (prefix_len payload s) s) → AllByRecursion Payload (take (cond b (1 + prefix_len payload s) 0) (y ∷ s))
    at true e more = rw one-add (e, more)
    at false e more = tt

xor_small : (text : List ℕ) (x : ℕ) → x < 128 → AllByRecursion Payload text → fold bit_xor x text < 128
xor_small [] x h all = h
xor_small (y ∷ text) x h all =
    let fits : y ≤ 0x7E = leb-true y 0x7E (and_parts (leb 0x20 y) _ (and_parts (leb 0x20 y && leb y 0x7E) _ all.0).0).1 in
    xor_small text (bit_xor x y) (xor_lt 7 x y h (omega arith)) all.1

-- from a payload to the verdict
module _ (text rest : List ℕ) (some : 1 ≤ length text) (fits : length text ≤ 506) (all : AllByRecursion Payload text) where
  abbrev tail : List ℕ
  tail = 42 ∷ (hex_digit (xor_of text / 16) ∷ (hex_digit (xor_of text % 16) ∷ (13 ∷ (10 ∷ rest))))

  abbrev line : List ℕ
  line = 36 ∷ (text ++ tail)

  right : finished (xor_of text) (take 4 (drop 1 tail)) ≡ true
  right =
      let small = xor_small text 0 (omega arith) all in
      let high : hex_value (hex_digit (xor_of text / 16)) ≡ Some (xor_of text / 16) = digit_read (xor_of text / 16) (omega arith) in
      let low : hex_value (hex_digit (xor_of text % 16)) ≡ Some (xor_of text % 16) = digit_read (xor_of text % 16) (omega arith) in
      let sum : eqb (16 * (xor_of text / 16) + xor_of text % 16) (xor_of text) ≡ true = eq-eqb _ _ (omega arith) in
      and_from _ (eqb 13 13 && eqb 10 10)
      (ap (λ a. give a (hex_value (hex_digit (xor_of text % 16))) (xor_of text)) high ∙ ap (λ a. give (Some (xor_of text / 16)) a (xor_of text)) low ∙ sum) refl

  closed : judged (closing (length text)) line ≡ Frame (length text + 6) 2
  closed =
      closed_by text tail some refl (omega arith) ∙ cond-true _ _ _ right

  to_frame : judged sentence line ≡ Frame (length text + 6) 2
  to_frame =
      let count : prefix_len payload (text ++ tail) ≡ length text = leading_all text 42 _ all refl in
      let past : 1 + length text < length line = omega (arith, length-append text tail) in
      sentence_is line (omega arith) refl ∙ spanned_on _ _ _ (lt-ltb (1 + prefix_len payload (text ++ tail)) (length line) (omega (arith, count)))
      (le-leb (prefix_len payload (text ++ tail)) 506 (omega (arith, count)))
      ∙ ap (λ m. judged (closing m) line) count ∙ closed

-- from the verdict to a payload
held : (b : Bool) (v : Verdict) (n k : ℕ) → cond b v NoFrame ≡ Frame n k → (b ≡ true) × (v ≡ Frame n k)
held true v n k e = (refl, e)
held false v n k e = absurd cc

waited : (b : Bool) (v : Verdict) (n k : ℕ) → cond b Short v ≡ Frame n k → (b ≡ false) × (v ≡ Frame n k)
waited true v n k e = absurd cc
waited false v n k e = (refl, e)

-- what closes a payload
tail_is : (text t : List ℕ) (n k : ℕ) → 0 < length t → judged (closing (length text)) (36 ∷ (text ++ t)) ≡ Frame n k
    → (1 ≤ length text) × (t ≡ 42 ∷ (hex_digit (xor_of text / 16) ∷ (hex_digit (xor_of text % 16) ∷ (13 ∷ (10 ∷ drop 5 t))))) × (Frame (length text + 6) 2 ≡ Frame n k)
tail_is text t n k there e =
    let x : ℕ = xor_of text in
    let a = held (leb 1 (length text)) _ n k (sym (closing_is text t there) ∙ e) in
    let b = held (eqb (get_or t 0 0) 42) _ n k a.1 in
    let c = waited (ltb (length t) 5) _ n k b.1 in
    let d = held (finished x (take 4 (drop 1 t))) _ n k c.1 in
    let enough : 5 ≤ length t = ltb-false (length t) 5 c.0 in
    let at : (i : ℕ) → i < 4 → get_or (take 4 (drop 1 t)) i 0 ≡ get_or t (1 + i) 0 = λ i l. get_or-take 4 (drop 1 t) i 0 l ∙ get_or-drop 1 t i 0 in
    let u = take 4 (drop 1 t) in
    let parts = and_parts (give (hex_value (get_or u 0 0)) (hex_value (get_or u 1 0)) x) _ d.0 in
    let ends = and_parts (eqb (get_or u 2 0) 13) _ parts.1 in
    let g = give_read (hex_value (get_or u 0 0)) (hex_value (get_or u 1 0)) x parts.0 in
    let high = digit_written (get_or u 0 0) g.0 g.2 in
    let low = digit_written (get_or u 1 0) g.1 g.3 in
    let d1 : get_or t 1 0 ≡ hex_digit (x / 16) = sym (at 0 (omega arith)) ∙ high.0 ∙ ap hex_digit (omega (arith, g.4, low.1)) in
    let d2 : get_or t 2 0 ≡ hex_digit (x % 16) = sym (at 1 (omega arith)) ∙ low.0 ∙ ap hex_digit (omega (arith, g.4, low.1)) in
    let cr : get_or t 3 0 ≡ 13 = sym (at 2 (omega arith)) ∙ eqb-true _ _ ends.0 in
    let lf : get_or t 4 0 ≡ 10 = sym (at 3 (omega arith)) ∙ eqb-true _ _ ends.1 in
    let star : get_or t 0 0 ≡ 42 = eqb-true _ _ b.0 in
    let r : List ℕ = drop 5 t in
    let list : t ≡ 42 ∷ (hex_digit (x / 16) ∷ (hex_digit (x % 16) ∷ (13 ∷ (10 ∷ r)))) =
    let bytes = sym (take-append-drop 5 t) ∙ ap (λ y. y ++ r) (reads_are 5 0 t enough) in cc in
    (leb-true 1 (length text) a.0, list, d.1)

from_frame : (s : List ℕ) (n k : ℕ) → judged sentence s ≡ Frame n k → (k ≡ 2) × Framed s n
from_frame s n k e =
    let a = step_frame 1 (λ x. eqb (get_or x 0 0) 36) (λ _. span 1 payload 506 closing) s n k e in
    let dollar : get_or s 0 0 ≡ 36 = sym (get_or-take 1 s 0 0 (omega arith)) ∙ eqb-true _ _ a.1 in
    let f = span_frame 1 506 payload closing s n k a.2 in
    let m : ℕ = prefix_len payload (drop 1 s) in
    let text : List ℕ = take m (drop 1 s) in
    let tail : List ℕ = drop m (drop 1 s) in
    let past : 1 + m < length s = f.0 in
    let long : length text ≡ m = simp (length-take, length-drop) (omega arith) in
    let there : 0 < length tail = simp length-drop (omega arith) in
    let all : s ≡ 36 ∷ (text ++ tail) =
    drop_more s 0 0 (omega arith) ∙ ap (λ x. x ∷ drop 1 s) dollar ∙ ap (λ x. 36 ∷ x) (sym (take-append-drop m (drop 1 s))) in
    let closed : judged (closing (length text)) (36 ∷ (text ++ tail)) ≡ Frame n k =
    ap (λ i. judged (closing i) (36 ∷ (text ++ tail))) long ∙ ap (judged (closing m)) (sym all) ∙ f.2 in
    let t = tail_is text tail n k there closed in (
      sym (frame_kind t.2),
      record {
        text = text;
        rest = drop 5 tail;
        some = t.0;
        fits = omega (arith, f.1);
        printable = front-all (drop 1 s);
        begins = all ∙ ap (λ x. 36 ∷ (text ++ x)) t.1 ∙ ap (λ x. 36 ∷ x) (sym (append_assoc text (42 ∷ (hex_digit (xor_of text / 16) ∷ (hex_digit (xor_of text % 16) ∷ (13 ∷ (10 ∷ []))))) (drop 5 tail)));
        long = sym (frame_len t.2);
      },
    )

pub exactly_sentences : (s : List ℕ) → ExactlySentences s (judged sentence s)
exactly_sentences s n k = (
  from_frame s n k,
  λ two f. subst (λ x. judged sentence x ≡ Frame n k)
      (sym (f.begins ∙ ap (λ x. 36 ∷ x) (append_assoc f.text (42 ∷ (hex_digit (xor_of f.text / 16) ∷ (hex_digit (xor_of f.text % 16) ∷ (13 ∷ (10 ∷ []))))) f.rest)))
      (to_frame f.text f.rest f.some f.fits f.printable ∙ ap (λ m. Frame m 2) (sym f.long) ∙ ap (λ j. Frame n j) (sym two)),
)
