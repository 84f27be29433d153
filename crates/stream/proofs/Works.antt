-- Readings worked on: in a part of the stream, in a longer stream, and behind the first record. Assumes nothing.
use Rattle.std.proofs.lemmas.Grind.{common_steps}
use Rattle.std.proofs.Common.{◌≡◌, ℕ, ◌+◌, ◌-◌, ◌<◌, ◌≤◌, Bool, true, false, List, [], ◌∷◌, ◌++◌, map, length, take, drop, sym, ap, ◌∙◌, subst, inl, inr, append-nil, arith, length-append, length-drop}
use Rattle.std.specs.List.{AllByRecursion}
use Rattle.std.proofs.lemmas.List.{drop-drop, drop-append-le}
use Rattle.std.proofs.ByRecursion.{All-weaker}
use Rattle.std.proofs.lemmas.Bool.{cases_lt}
use Rattle.framing.specs.declared.verdict.Verdict.{Verdict}
use Rattle.framing.specs.declared.verdict.Verdict.TheVariants.{Short, Frame}
use Rattle.framing.specs.Verdicts.{Laws}
use Rattle.reading.specs.Reading.{Found, found, Reading, ends, stops, cuts, skips, takes}
use Rattle.stream.specs.History.{behind}

-- a record of what is left of a stream, as one of the whole
abbrev pub moved : ℕ → Found → Found
moved b f = record { place = b + f.place; bytes = f.bytes; kind = f.kind }

-- a reading of what is left of a stream is one of the whole
pub in_whole : (v : List ℕ → Verdict) (c : Bool) (s : List ℕ) (b : ℕ) → b ≤ length s → {p e : ℕ} {rs : List Found} → Reading v c (drop b s) p rs e
    → Reading v c s (b + p) (map (moved b) rs) (b + e)
in_whole v c s b h {p} (ends l) = ends (omega (arith, length-drop b s))
in_whole v c s b h {p} (stops l q o) = stops (omega (arith, length-drop b s)) (ap v (sym (drop-drop p b s)) ∙ q) o
in_whole v c s b h {p} {e} (cuts {rs = rs} l q o r) =
    let on : Reading v c s (b + p + 1) (map (moved b) rs) (b + e) =
    subst (λ i. Reading v c s i (map (moved b) rs) (b + e)) (omega arith) (in_whole v c s b h r) in
    cuts (omega (arith, length-drop b s)) (ap v (sym (drop-drop p b s)) ∙ q) o on
in_whole v c s b h {p} {e} (skips {rs = rs} l q r) =
    let on : Reading v c s (b + p + 1) (map (moved b) rs) (b + e) =
    subst (λ i. Reading v c s i (map (moved b) rs) (b + e)) (omega arith) (in_whole v c s b h r) in
    skips (omega (arith, length-drop b s)) (ap v (sym (drop-drop p b s)) ∙ q) on
in_whole v c s b h {p} {e} (takes {n = n} {k = k} {rs = rs} l q r) =
    let on : Reading v c s (b + p + n) (map (moved b) rs) (b + e) =
    subst (λ i. Reading v c s i (map (moved b) rs) (b + e)) (omega arith) (in_whole v c s b h r) in
    let same : found s (b + p) n k ≡ moved b (found (drop b s) p n k) =
    ap (λ t. record { place = b + p; bytes = take n t; kind = k }) (sym (drop-drop p b s)) in
    subst (λ f. Reading v c s (b + p) (f ∷ map (moved b) rs) (b + e)) same
    (takes (omega (arith, length-drop b s)) (ap v (sym (drop-drop p b s)) ∙ q) on)

-- what may come behind the bytes of a stream: nothing where it is closed
abbrev pub Grows : Bool → List ℕ → Bool → Type 0
Grows true t c = (t ≡ []) × (c ≡ true)
Grows false t c = Unit {0}

-- the first of some records, as a list
abbrev pub first : List Found → List Found
first [] = []
first (f ∷ rs) = f ∷ []

module _ {v : List ℕ → Verdict} {reach : ℕ} (laws : Laws v reach) where
  longer : (s t : List ℕ) (p : ℕ) → p ≤ length s → (v (drop p s) ≡ Short → ⊥) → v (drop p (s ++ t)) ≡ v (drop p s)
  longer s t p h d = ap v (drop-append-le p s t h) ∙ laws.stays (drop p s) t d

  fits : (s : List ℕ) (p n k : ℕ) → p < length s → v (drop p s) ≡ Frame n k → p + n ≤ length s
  fits s p n k l q = omega (arith, (laws.within (drop p s) n k q).1, length-drop p s)

  same_bytes : (s t : List ℕ) (p n : ℕ) → p + n ≤ length s → take n (drop p (s ++ t)) ≡ take n (drop p s)
  same_bytes s t p n h = grind (arith, common_steps)

  long : (s : List ℕ) (p n : ℕ) → p + n ≤ length s → length (take n (drop p s)) ≡ n
  long s p n h = grind (arith, common_steps)

  -- where the bytes before a place are read so, the first record or none, they are in a longer stream too
  pub works_on : (c : Bool) (s t : List ℕ) (d : Bool) → Grows c t d → {p e : ℕ} {rs : List Found} → Reading v c s p rs e
      → {e' : ℕ} {rs' : List Found} → Reading v d (s ++ t) (behind rs e) rs' e' → Reading v d (s ++ t) p (first rs ++ rs') e'
  works_on c s t d g (ends l) x = x
  works_on c s t d g (stops l q o) x = x
  works_on true s t d g {p} {e} (cuts {rs = rs} l q o r) {e'} {rs'} x =
      let same : s ++ t ≡ s = ap (λ u. s ++ u) g.0 ∙ append-nil s in
      let on = works_on true s t d g r x in
      cuts (subst (λ u. p < length u) (sym same) l) (ap (λ u. v (drop p u)) same ∙ q) g.1 on
  works_on false s t d g (cuts l q o r) x = absurd cc
  works_on c s t d g {p} (skips l q r) x =
      skips (simp length-append (omega arith)) (longer s t p (omega arith) (λ z. cc) ∙ q) (works_on c s t d g r x)
  works_on c s t d g {p} {e} (takes {n = n} {k = k} {rs = rs} l q r) {e'} {rs'} x =
      let inside = fits s p n k l q in
      let w : v (drop p (s ++ t)) ≡ Frame n k = longer s t p (omega arith) (λ z. cc) ∙ q in
      let there : p < length (s ++ t) = simp length-append (omega arith) in
      let y : Reading v d (s ++ t) (p + n) rs' e' = subst (λ m. Reading v d (s ++ t) (p + m) rs' e') (long s p n inside) x in
      subst (λ b. Reading v d (s ++ t) p (record { place = p; bytes = b; kind = k } ∷ rs') e') (same_bytes s t p n inside) (takes there w y)

  -- the records of a reading lie behind its place, and what lies behind the first is within the stream
  pub places : {c : Bool} {s : List ℕ} {p e : ℕ} {rs : List Found} → Reading v c s p rs e → AllByRecursion (λ f. p ≤ f.place) rs
  places (ends l) = tt
  places (stops l q o) = tt
  places {p = p} (cuts {rs = rs} l q o r) = All-weaker (λ f. p + 1 ≤ f.place) (λ f. p ≤ f.place) (λ f h. omega arith) rs (places r)
  places {p = p} (skips {rs = rs} l q r) = All-weaker (λ f. p + 1 ≤ f.place) (λ f. p ≤ f.place) (λ f h. omega arith) rs (places r)
  places {p = p} (takes {n = n} {rs = rs} l q r) = (omega arith, All-weaker (λ f. p + n ≤ f.place) (λ f. p ≤ f.place) (λ f h. omega arith) rs (places r))

  pub behind_bounds : {c : Bool} {s : List ℕ} {p e : ℕ} {rs : List Found} → Reading v c s p rs e → p ≤ length s → (p ≤ behind rs e) × (behind rs e ≤ length s)
  behind_bounds (ends l) h = (omega arith, h)
  behind_bounds (stops l q o) h = (omega arith, h)
  behind_bounds (cuts l q o r) h = let b = behind_bounds r (omega arith) in (omega arith, b.1)
  behind_bounds (skips l q r) h = let b = behind_bounds r (omega arith) in (omega arith, b.1)
  behind_bounds {s = s} {p = p} (takes {n = n} {k = k} l q r) h =
      let inside = fits s p n k l q in (omega arith, omega (arith, long s p n inside))

  -- an open reading stops with fewer bytes left than the reach
  pub few-left : {s : List ℕ} {p e : ℕ} {rs : List Found} → Reading v false s p rs e → p ≤ length s → length s - e < 8192
  few-left (ends l) h = omega arith
  few-left {s} {p} (stops l q o) h =
      elim (cases_lt (length (drop p s)) reach) [
        | inl less ↦ omega (arith, length-drop p s, laws.reach_high)
        | inr enough ↦ absurd (laws.decided (drop p s) enough q)
      ]
  few-left (cuts l q o r) h = few-left r (omega arith)
  few-left (skips l q r) h = few-left r (omega arith)
  few-left {s} {p} (takes {n = n} {k = k} l q r) h = few-left r (fits s p n k l q)
