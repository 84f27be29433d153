-- The laws of a framing, for every sound plan. Assumes nothing.
use Rattle.std.specs.Prelude.{◌≡◌, ℕ, ◌+◌, ◌<◌, ◌≤◌, max, Bool, true, false, cond, ltb, leb, List, [], ◌++◌, length, take, drop, ◌≢◌, nat_le, nat_lt, refl}
use Rattle.std.proofs.Common.{sym, ap, ◌∙◌, arith, length-append, length-drop}
use Rattle.std.specs.List.{prefix_len}
use Rattle.std.proofs.lemmas.List.{take-append-le, drop-append-le, length-take-le}
use Rattle.std.proofs.lemmas.List.Folds.{prefix_len-append}
use Rattle.std.proofs.lemmas.List.Sums.{prefix_len-le-length}
use Rattle.std.proofs.lemmas.Bool.Decides.{nat_tests}
use Rattle.std.proofs.lemmas.Bool.{ltb-true, ltb-false, leb-true, leb-false, lt-ltb, le-ltb, lt-leb}
use Rattle.framing.specs.declared.verdict.Verdict.{Verdict}
use Rattle.framing.specs.declared.verdict.Verdict.TheVariants.{NoFrame, Short, Frame}
use Rattle.framing.specs.Verdicts.{Laws}
use Rattle.framing.specs.Plan.{Plan, none, frame, await, span, spanned, judged, given, Sound}

pub frame_len : {n m k j : ℕ} → Frame n k ≡ Frame m j → n ≡ m
frame_len e = cc

pub frame_kind : {n m k j : ℕ} → Frame n k ≡ Frame m j → k ≡ j
frame_kind e = cc

-- what passes a test, counted in a longer list
leading_more : (test : ℕ → Bool) (s t : List ℕ) → prefix_len test s ≤ prefix_len test (s ++ t)
leading_more test s t = grind (arith, nat_tests, prefix_len-append test s t, prefix_len-le-length test s)

-- where the counting came to an end, it is the same in a longer list
leading_ended : (test : ℕ → Bool) (s t : List ℕ) → prefix_len test s < length s → prefix_len test (s ++ t) ≡ prefix_len test s
leading_ended test s t h = grind (arith, nat_tests, prefix_len-append test s t)

-- the ways to a verdict, at a step that waits and at one that counts
awaited : (b : Bool) (v w : Verdict) (P : Type 0) → (b ≡ true → w ≡ Short → P) → (b ≡ false → v ≡ w → P) → cond b Short v ≡ w → P
awaited true v w P early on e = early refl (sym e)
awaited false v w P early on e = on refl e

counted : (e f : Bool) (v w : Verdict) (P : Type 0) → (f ≡ false → w ≡ NoFrame → P) → (e ≡ false → f ≡ true → w ≡ Short → P) → (e ≡ true → f ≡ true → v ≡ w → P) → spanned e f v ≡ w → P
counted true false v w P many early on q = many refl (sym q)
counted false false v w P many early on q = many refl (sym q)
counted true true v w P many early on q = on refl refl q
counted false true v w P many early on q = early refl refl (sym q)

clash_no : (n k : ℕ) → NoFrame ≢ Frame n k
clash_no n k e = cc

clash_short : (n k : ℕ) → Frame n k ≢ Short
clash_short n k e = cc

clash_both : NoFrame ≡ Short → ⊥
clash_both e = cc

Fits : ℕ → List ℕ → ℕ → Type 0
Fits reach s n = (1 ≤ n) × (n ≤ length s) × (n ≤ reach)

within : (p : Plan) (reach seen : ℕ) → Sound reach seen p → (s : List ℕ) → seen ≤ length s → (n k : ℕ) → judged p s ≡ Frame n k → Fits reach s n
unfolding Fits
within none reach seen h s l n k e = absurd (clash_no n k e)
within (frame m j) reach seen h s l n k e = let same : m ≡ n = cc in omega arith
within (await m go) reach seen h s l n k e =
    awaited (nat_lt (length s) m) (judged (go (take m s)) s) (Frame n k) (Fits reach s n)
    (λ _ w. absurd (clash_short n k w))
    (λ b. let there : m ≤ length s = ltb-false (length s) m b in
    within (go (take m s)) reach (max seen m) (h.1 (take m s) (length-take-le m s there)) s (omega arith) n k)
    e
within (span from test most go) reach seen h s l n k e =
    let m = prefix_len test (drop from s) in
    counted (nat_lt (from + m) (length s)) (nat_le m most) (judged (go m) s) (Frame n k) (Fits reach s n)
    (λ _ w. absurd (clash_no n k (sym w)))
    (λ _ _ w. absurd (clash_short n k w))
    (λ b f. let past : from + m < length s = ltb-true (from + m) (length s) b in
    within (go m) reach (max seen (from + m + 1)) (h.2 m (leb-true m most f)) s (omega arith) n k)
    e

decided : (p : Plan) (reach seen : ℕ) → Sound reach seen p → (s : List ℕ) → seen ≤ length s → reach ≤ length s → judged p s ≢ Short
decided none reach seen h s l r e = clash_both e
decided (frame m j) reach seen h s l r e = clash_short m j e
decided (await m go) reach seen h s l r e =
    awaited (nat_lt (length s) m) (judged (go (take m s)) s) Short ⊥
    (λ b _. let less : length s < m = ltb-true (length s) m b in omega arith)
    (λ b. let there : m ≤ length s = ltb-false (length s) m b in
    decided (go (take m s)) reach (max seen m) (h.1 (take m s) (length-take-le m s there)) s (omega arith) r)
    e
decided (span from test most go) reach seen h s l r e =
    let m = prefix_len test (drop from s) in
    counted (nat_lt (from + m) (length s)) (nat_le m most) (judged (go m) s) Short ⊥
    (λ _ w. clash_both (sym w))
    (λ b f _. let few : m ≤ most = leb-true m most f in let end : length s ≤ from + m = ltb-false (from + m) (length s) b in omega arith)
    (λ b f. let past : from + m < length s = ltb-true (from + m) (length s) b in
    decided (go m) reach (max seen (from + m + 1)) (h.2 m (leb-true m most f)) s (omega arith) r)
    e

Kept : Plan → List ℕ → List ℕ → Type 0
Kept p s t = judged p (s ++ t) ≡ judged p s

stays : (p : Plan) (reach seen : ℕ) → Sound reach seen p → (s t : List ℕ) → seen ≤ length s → (judged p s ≢ Short) → Kept p s t
unfolding Kept
stays none reach seen h s t l d = refl
stays (frame m j) reach seen h s t l d = refl
stays (await m go) reach seen h s t l d =
    awaited (nat_lt (length s) m) (judged (go (take m s)) s) (judged (await m go) s) (Kept (await m go) s t)
    (λ _ w. absurd (d w))
    (λ b v. let there : m ≤ length s = ltb-false (length s) m b in
    let longer : ltb (length (s ++ t)) m ≡ false = le-ltb (length (s ++ t)) m (simp length-append (omega arith)) in
    let not_short : judged (go (take m s)) s ≡ Short → ⊥ = λ w. d (sym v ∙ w) in
    let on : judged (go (take m s)) (s ++ t) ≡ judged (go (take m s)) s =
    stays (go (take m s)) reach (max seen m) (h.1 (take m s) (length-take-le m s there)) s t (omega arith) not_short in
    ap (λ x. cond x Short (judged (go (take m (s ++ t))) (s ++ t))) longer
    ∙ ap (λ x. judged (go x) (s ++ t)) (take-append-le m s t there) ∙ on ∙ v)
    refl
stays (span from test most go) reach seen h s t l d =
    let m = prefix_len test (drop from s) in
    let m' = prefix_len test (drop from (s ++ t)) in
    let from-there : from ≤ length s = omega arith in
    let longer : m' ≡ prefix_len test (drop from s ++ t) = ap (prefix_len test) (drop-append-le from s t from-there) in
    counted (nat_lt (from + m) (length s)) (nat_le m most) (judged (go m) s) (judged (span from test most go) s) (Kept (span from test most go) s t)
    (λ f w. let many : most < m = leb-false m most f in
    let many' : leb m' most ≡ false = lt-leb m' most (omega (arith, longer, leading_more test (drop from s) t)) in
    ap (λ x. spanned (nat_lt (from + m') (length (s ++ t))) x (judged (go m') (s ++ t))) many' ∙ sym w)
    (λ _ _ w. absurd (d w))
    (λ b f v. let past : from + m < length s = ltb-true (from + m) (length s) b in
    let ended : m < length (drop from s) = simp length-drop (omega arith) in
    let same : m' ≡ m = longer ∙ leading_ended test (drop from s) t ended in
    let past' : ltb (from + m) (length (s ++ t)) ≡ true = lt-ltb (from + m) (length (s ++ t)) (simp length-append (omega arith)) in
    let on : judged (go m) (s ++ t) ≡ judged (go m) s =
    stays (go m) reach (max seen (from + m + 1)) (h.2 m (leb-true m most f)) s t (omega arith) (λ w. d (sym v ∙ w)) in
    ap (λ x. spanned (nat_lt (from + x) (length (s ++ t))) (nat_le x most) (judged (go x) (s ++ t))) same
    ∙ ap (λ x. spanned x (nat_le m most) (judged (go m) (s ++ t))) past'
    ∙ ap (λ x. spanned true x (judged (go m) (s ++ t))) f ∙ on ∙ v)
    refl

-- a plan that goes on only where a test holds
pub given_sound : (b : Bool) (p : Plan) (reach seen : ℕ) → (b ≡ true → Sound reach seen p) → Sound reach seen (given b p)
given_sound true p reach seen h = h refl
given_sound false p reach seen h = tt

-- one step of a verdict
pub judged_await : (m : ℕ) (go : List ℕ → Plan) (s : List ℕ) → m ≤ length s → judged (await m go) s ≡ judged (go (take m s)) s
judged_await m go s h = ap (λ x. cond x Short (judged (go (take m s)) s)) (le-ltb (length s) m h)

pub judged_given : (b : Bool) (p : Plan) (s : List ℕ) → b ≡ true → judged (given b p) s ≡ judged p s
judged_given b p s t = ap (λ x. judged (cond x p none) s) t

-- one step of a verdict that waits and then tests
pub judged_step : (m : ℕ) (test : List ℕ → Bool) (go : List ℕ → Plan) (s : List ℕ) → m ≤ length s → test (take m s) ≡ true
    → judged (await m (λ x. given (test x) (go x))) s ≡ judged (go (take m s)) s
judged_step m test go s h t = judged_await m (λ x. given (test x) (go x)) s h ∙ judged_given (test (take m s)) (go (take m s)) s t

pub judged_last : (b : Bool) (n k : ℕ) (s : List ℕ) → judged (given b (frame n k)) s ≡ cond b (Frame n k) NoFrame
judged_last true n k s = refl
judged_last false n k s = refl

pub spanned_on : (ended few : Bool) (v : Verdict) → ended ≡ true → few ≡ true → spanned ended few v ≡ v
spanned_on ended few v e f = ap (λ x. spanned x few v) e ∙ ap (λ x. spanned true x v) f

-- a plan that first waits for a byte, and is sound, gives a framing
pub lawful : (p : Plan) (reach : ℕ) → Sound reach 0 p → judged p [] ≡ Short → 1 ≤ reach → reach ≤ 8192 → Laws (judged p) reach
unfolding Fits Kept
lawful p reach sound first low high = record {
  reach_low = low;
  reach_high = high;
  empty = first;
  within = λ s. within p reach 0 sound s (omega arith);
  stays = λ s t. stays p reach 0 sound s t (omega arith);
  decided = λ s. decided p reach 0 sound s (omega arith);
}

-- what stands behind a frame, step by step
pub await_frame : (m : ℕ) (go : List ℕ → Plan) (s : List ℕ) (n k : ℕ) → judged (await m go) s ≡ Frame n k → (m ≤ length s) × (judged (go (take m s)) s ≡ Frame n k)
await_frame m go s n k =
    awaited (nat_lt (length s) m) (judged (go (take m s)) s) (Frame n k) _ (λ _ w. absurd (clash_short n k w)) (λ b v. (ltb-false (length s) m b, v))

pub given_frame : (b : Bool) (p : Plan) (s : List ℕ) (n k : ℕ) → judged (given b p) s ≡ Frame n k → (b ≡ true) × (judged p s ≡ Frame n k)
given_frame true p s n k e = (refl, e)
given_frame false p s n k e = absurd (clash_no n k e)

pub step_frame : (m : ℕ) (test : List ℕ → Bool) (go : List ℕ → Plan) (s : List ℕ) (n k : ℕ) → judged (await m (λ x. given (test x) (go x))) s ≡ Frame n k
    → (m ≤ length s) × (test (take m s) ≡ true) × (judged (go (take m s)) s ≡ Frame n k)
step_frame m test go s n k e =
    let there = await_frame m (λ x. given (test x) (go x)) s n k e in
    let right = given_frame (test (take m s)) (go (take m s)) s n k there.1 in
    (there.0, right.0, right.1)

pub span_frame : (from most : ℕ) (test : ℕ → Bool) (go : ℕ → Plan) (s : List ℕ) (n k : ℕ) → judged (span from test most go) s ≡ Frame n k
    → (from + prefix_len test (drop from s) < length s) × (prefix_len test (drop from s) ≤ most) × (judged (go (prefix_len test (drop from s))) s ≡ Frame n k)
span_frame from most test go s n k =
    let m = prefix_len test (drop from s) in
    counted (nat_lt (from + m) (length s)) (nat_le m most) (judged (go m) s) (Frame n k) _
    (λ _ w. absurd (clash_no n k (sym w)))
    (λ _ _ w. absurd (clash_short n k w))
    (λ b f v. (ltb-true (from + m) (length s) b, leb-true m most f, v))
