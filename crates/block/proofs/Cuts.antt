-- Lists cut at places, and parts of lists written over. Assumes nothing.
use Rattle.std.proofs.Common.{◌≡◌, ℕ, ◌+◌, ◌*◌, ◌^◌, ◌<◌, ◌≤◌, List, ◌++◌, length, get_or, take, drop, sym, ap, ◌∙◌, subst, append_assoc, mul-suc, add-one, arith, length-drop, take-append-drop, take-add}
use borrow.Rule.Slice.PartMut.{put_mid}
use Rattle.std.proofs.lemmas.List.{drop-drop, drop_at, take_at, length-take-le}
use Rattle.common.specs.Numbers.{number, le}
use Rattle.common.proofs.Numbers.{le-number, number_below, typed_take, typed_drop}

-- what follows a place is n items and what follows them
pub cut : {X : Type 0} (a n : ℕ) (s : List X) → drop a s ≡ take n (drop a s) ++ drop (a + n) s
cut a n s = sym (take-append-drop n (drop a s)) ∙ ap (λ t. take n (drop a s) ++ t) (drop-drop n a s)

pub cut_take : {X : Type 0} (a n m : ℕ) (s : List X) → take (n + m) (drop a s) ≡ take n (drop a s) ++ take m (drop (a + n) s)
cut_take a n m s = take-add n m (drop a s) ∙ ap (λ t. take n (drop a s) ++ take m t) (drop-drop n a s)

-- the middle of a list written over
pub put_at : {X : Type 0} (a k : ℕ) (p q r new : List X) → length p ≡ a → length q ≡ k → put_mid a k (p ++ (q ++ r)) new ≡ p ++ (new ++ r)
put_at a k p q r new long wide =
    ap (λ t. t ++ (new ++ drop k (drop a (p ++ (q ++ r))))) (take_at p (q ++ r) a long)
    ∙ ap (λ t. p ++ (new ++ drop k t)) (drop_at p (q ++ r) a long) ∙ ap (λ t. p ++ (new ++ t)) (drop_at q r k wide)

-- the next w items behind some parts of w items written over
pub put_next : {X : Type 0} (w k m : ℕ) (p before new : List X) → m ≡ w → length p ≡ w * k → w * k + w ≤ length before
    → put_mid (w * k) m (p ++ drop (w * k) before) new ≡ (p ++ new) ++ drop (w * (k + 1)) before
put_next w k m p before new size long fits =
    let rest = drop (w * k) before in
    let wide : length (take m rest) ≡ m = length-take-le m rest (omega (arith, length-drop (w * k) before)) in
    let next : w * k + m ≡ w * (k + 1) = omega (arith, mul-suc w k, ap (λ i. w * i) (add-one k)) in
    ap (λ t. put_mid (w * k) m (p ++ t) new) (cut (w * k) m before)
    ∙ put_at (w * k) m p (take m rest) (drop (w * k + m) before) new long wide
    ∙ ap (λ i. p ++ (new ++ drop i before)) next ∙ sym (append_assoc p new (drop (w * (k + 1)) before))

-- the bytes of the number that n bytes are
pub le-take : (a n : ℕ) (s : List ℕ) → ((i : ℕ) → get_or s i 0 < 256) → a + n ≤ length s → le n (number (take n (drop a s))) ≡ take n (drop a s)
le-take a n s typed fits =
    let t : List ℕ = take n (drop a s) in
    let long : length t ≡ n = length-take-le n (drop a s) (omega (arith, length-drop a s)) in
    subst (λ m. le m (number t) ≡ t) long (le-number t (typed_take n (drop a s) (typed_drop s typed a)))

-- the number that n bytes are, is below 256^n
pub below_take : (a n : ℕ) (s : List ℕ) → ((i : ℕ) → get_or s i 0 < 256) → a + n ≤ length s → number (take n (drop a s)) < 256 ^ n
below_take a n s typed fits =
    let t : List ℕ = take n (drop a s) in
    let long : length t ≡ n = length-take-le n (drop a s) (omega (arith, length-drop a s)) in
    subst (λ m. number t < 256 ^ m) long (number_below t (typed_take n (drop a s) (typed_drop s typed a)))
