-- What a history has brought, and that the reading of all accepted bytes begins so whatever comes behind. Assumes nothing.
use Rattle.std.proofs.Common.{◌≡◌, ℕ, ◌+◌, ◌≤◌, Bool, true, false, List, [], ◌∷◌, ◌++◌, length, take, sym, refl, ap, ◌∙◌, subst, append_assoc, append-nil, arith, length-append}
use Rattle.std.specs.List.{AllByRecursion}
use Rattle.std.proofs.lemmas.List.{take_at}
use Rattle.std.proofs.ByRecursion.{All-weaker, All-append}
use Rattle.std.proofs.lemmas.List.Sums.{sum_by-append}
use Rattle.framing.specs.declared.verdict.Verdict.{Verdict}
use Rattle.framing.specs.Verdicts.{Laws}
use Rattle.reading.specs.Reading.{Found, Reading}
use Rattle.reading.specs.Listed.{framed}
use Rattle.reading.proofs.Readings.{unique, exists}
use Rattle.stream.specs.History.{behind}
use Rattle.stream.proofs.Works.{Grows, first, works_on, places, behind_bounds}

-- n records were brought of the stream s, closed or open, and place p was reached
pub record Progress (v : List ℕ → Verdict) (s : List ℕ) (c : Bool) (n p : ℕ) : Type 0 where
  pub front : List Found
  pub count : length front ≡ n
  pub within : p ≤ length s
  pub inside : framed front ≤ p
  pub before : AllByRecursion (λ f. f.place + length f.bytes ≤ p) front
  -- whatever comes behind, a reading from p on is the rest of the whole one
  pub joins : (t : List ℕ) (d : Bool) → Grows c t d → (rs : List Found) (e : ℕ) → Reading v d (s ++ t) p rs e → Reading v d (s ++ t) 0 (front ++ rs) e

unfoldable pub nothing_yet : {v : List ℕ → Verdict} → Progress v [] false 0 0
nothing_yet = record { front = []; count = refl; within = omega arith; inside = omega arith; before = tt; joins = λ t d g rs e r. r }

-- an open stream may grow by any bytes
pub grows : (c : Bool) (t : List ℕ) (d : Bool) → c ≡ false → Grows c t d
grows true t d o = absurd cc
grows false t d o = tt

-- the first of some records, which lie from p on, ends where it is behind it
pub ends-before : (p e : ℕ) (rs : List Found) → p ≤ behind rs e → AllByRecursion (λ f. p ≤ f.place) rs
    → (p + framed (first rs) ≤ behind rs e) × AllByRecursion (λ f. f.place + length f.bytes ≤ behind rs e) (first rs)
ends-before p e [] h a = (omega arith, tt)
ends-before p e (f ∷ rs) h a = (omega (arith, a.0), (omega arith, tt))

module _ {v : List ℕ → Verdict} {s : List ℕ} {n p : ℕ} where
  -- more bytes
  unfoldable pub with_more : {c : Bool} (b : List ℕ) → c ≡ false → Progress v s c n p → Progress v (s ++ b) c n p
  with_more {c} b o q = record {
    front = q.front;
    count = q.count;
    within = simp length-append (omega (arith, q.within));
    inside = q.inside;
    before = q.before;
    joins = λ t d g rs e r.
        let same : s ++ b ++ t ≡ s ++ (b ++ t) = append_assoc s b t in
        subst (λ u. Reading v d u 0 (q.front ++ rs) e) (sym same) (q.joins (b ++ t) d (grows c (b ++ t) d o) rs e (subst (λ u. Reading v d u p rs e) same r));
  }

  -- the stream is closed
  unfoldable pub with_close : {c : Bool} → Progress v s c n p → Progress v s true n p
  with_close {c} q = record {
    front = q.front;
    count = q.count;
    within = q.within;
    inside = q.inside;
    before = q.before;
    joins = λ t d g. q.joins t d (still c t d g);
  }
    where
      still : (c : Bool) (t : List ℕ) (d : Bool) → Grows true t d → Grows c t d
      still true t d g = g
      still false t d g = tt

  -- a take
  unfoldable pub with_take : {c : Bool} {reach e : ℕ} {rs : List Found} → Laws v reach → (q : Progress v s c n p) → Reading v c s p rs e
      → (m : ℕ) → n + length (first rs) ≡ m → Progress v s c m (behind rs e)
  with_take {c} {reach} {e} {rs} laws q r m is =
      let b = behind_bounds laws r q.within in
      let m = ends-before p e rs b.0 (places laws r) in
      record {
        front = q.front ++ first rs;
        count = length-append q.front (first rs) ∙ ap (λ i. i + length (first rs)) q.count ∙ is;
        within = b.1;
        inside = omega (arith, sum_by-append (λ (f : Found). length f.bytes) q.front (first rs), q.inside, m.0, b.0);
        before = All-append (λ f. f.place + length f.bytes ≤ behind rs e) q.front (first rs)
            (All-weaker (λ f. f.place + length f.bytes ≤ p) (λ f. f.place + length f.bytes ≤ behind rs e) (λ f h. omega (arith, b.0)) q.front q.before) m.1;
        joins = λ t d g rs' e' x.
            subst (λ l. Reading v d (s ++ t) 0 l e') (sym (append_assoc q.front (first rs) rs'))
            (q.joins t d g (first rs ++ rs') e' (works_on laws c s t d g r x));
      }

-- the reading of all bytes, from what was brought
module _ {v : List ℕ → Verdict} {reach : ℕ} (laws : Laws v reach) {s : List ℕ} {c : Bool} {n p : ℕ} (q : Progress v s c n p) where
  grows_none : (c : Bool) → Grows c [] c
  grows_none true = (refl, refl)
  grows_none false = tt

  pub whole : (rs : List Found) (e : ℕ) → Reading v c s p rs e → Reading v c s 0 (q.front ++ rs) e
  whole rs e r =
      let same : s ++ [] ≡ s = append-nil s in
      subst (λ u. Reading v c u 0 (q.front ++ rs) e) same (q.joins [] c (grows_none c) rs e (subst (λ u. Reading v c u p rs e) (sym same) r))

  -- the whole reading is what was brought and the reading from the place reached
  pub split : (rs : List Found) (e : ℕ) → Reading v c s 0 rs e → (more : List Found) × Reading v c s p more e × (rs ≡ q.front ++ more)
  split rs e r =
      let x = exists laws c s p in
      let u = unique r (whole x.0 x.1 x.2) in
      (x.0, subst (λ i. Reading v c s p x.0 i) (sym u.1) x.2, u.0)

  pub front_is : (rs : List Found) (e : ℕ) → Reading v c s 0 rs e → take n rs ≡ q.front
  front_is rs e r = let x = split rs e r in ap (take n) x.2 ∙ take_at q.front x.0 n q.count
