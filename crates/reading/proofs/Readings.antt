-- Of every stream there is exactly one reading, and what an open reading has found stays found. Assumes nothing.
use Rattle.std.proofs.Common.{◌≡◌, ℕ, zero, suc, ◌+◌, ◌<◌, ◌≤◌, Bool, true, false, List, [], ◌∷◌, ◌++◌, length, take, drop, sym, refl, ap, ◌∙◌, subst, inl, inr, arith, length-append, length-drop}
use Rattle.std.proofs.lemmas.List.{drop-append-le, take-append-le}
use Rattle.std.proofs.lemmas.Bool.{cases_lt}
use Rattle.framing.specs.declared.verdict.Verdict.{Verdict}
use Rattle.framing.specs.declared.verdict.Verdict.TheVariants.{NoFrame, Short, Frame}
use Rattle.framing.specs.Verdicts.{Laws}
use Rattle.framing.specs.Plans.{frame_len, frame_kind}
use Rattle.reading.specs.Reading.{Found, found, Reading, ends, stops, cuts, skips, takes}

module _ {v : List ℕ → Verdict} {c : Bool} {s : List ℕ} where
  -- what a reading is, by what stands at its place
  at_end : {p e : ℕ} {rs : List Found} → length s ≤ p → Reading v c s p rs e → (rs ≡ []) × (e ≡ p)
  at_end h (ends l) = (refl, refl)
  at_end h (stops l q o) = (refl, refl)
  at_end h (cuts l q o r) = absurd (omega arith)
  at_end h (skips l q r) = absurd (omega arith)
  at_end h (takes l q r) = absurd (omega arith)

  at_stop : {p e : ℕ} {rs : List Found} → p < length s → v (drop p s) ≡ Short → c ≡ false → Reading v c s p rs e → (rs ≡ []) × (e ≡ p)
  at_stop h w f (ends l) = (refl, refl)
  at_stop h w f (stops l q o) = (refl, refl)
  at_stop h w f (cuts l q o r) = absurd cc
  at_stop h w f (skips l q r) = absurd cc
  at_stop h w f (takes l q r) = absurd cc

  at_cut : {p e : ℕ} {rs : List Found} → p < length s → v (drop p s) ≡ Short → c ≡ true → Reading v c s p rs e → Reading v c s (p + 1) rs e
  at_cut h w f (ends l) = absurd (omega arith)
  at_cut h w f (stops l q o) = absurd cc
  at_cut h w f (cuts l q o r) = r
  at_cut h w f (skips l q r) = absurd cc
  at_cut h w f (takes l q r) = absurd cc

  at_skip : {p e : ℕ} {rs : List Found} → p < length s → v (drop p s) ≡ NoFrame → Reading v c s p rs e → Reading v c s (p + 1) rs e
  at_skip h w (ends l) = absurd (omega arith)
  at_skip h w (stops l q o) = absurd cc
  at_skip h w (cuts l q o r) = absurd cc
  at_skip h w (skips l q r) = r
  at_skip h w (takes l q r) = absurd cc

  pub at-frame : {p e n k : ℕ} {rs : List Found} → p < length s → v (drop p s) ≡ Frame n k → Reading v c s p rs e
      → (more : List Found) × (rs ≡ found s p n k ∷ more) × Reading v c s (p + n) more e
  at-frame h w (ends l) = absurd (omega arith)
  at-frame h w (stops l q o) = absurd cc
  at-frame h w (cuts l q o r) = absurd cc
  at-frame h w (skips l q r) = absurd cc
  at-frame {p} {e} {n} {k} h w (takes {n = m} {k = j} {rs = more} l q r) =
      let len : m ≡ n = frame_len (sym q ∙ w) in
      let kind : j ≡ k = frame_kind (sym q ∙ w) in
      (more, ap (λ i. found s p i j ∷ more) len ∙ ap (λ i. found s p n i ∷ more) kind, subst (λ i. Reading v c s (p + i) more e) len r)

  -- there is at most one
  pub unique : {p e e' : ℕ} {rs rs' : List Found} → Reading v c s p rs e → Reading v c s p rs' e' → (rs ≡ rs') × (e ≡ e')
  unique (ends l) x = let a = at_end l x in (sym a.0, sym a.1)
  unique (stops l q o) x = let a = at_stop l q o x in (sym a.0, sym a.1)
  unique (cuts l q o r) x = unique r (at_cut l q o x)
  unique (skips l q r) x = unique r (at_skip l q x)
  unique {p} (takes {n = n} {k = k} l q r) x =
      let a = at-frame l q x in
      let u = unique r a.2 in
      (ap (λ t. found s p n k ∷ t) u.0 ∙ sym a.1, u.1)

-- there is one
module _ {v : List ℕ → Verdict} {reach : ℕ} (laws : Laws v reach) (c : Bool) (s : List ℕ) where
  Some : ℕ → Type 0
  Some p = (rs : List Found) × (e : ℕ) × Reading v c s p rs e

  step : (p : ℕ) (w : Verdict) (b : Bool) → p < length s → v (drop p s) ≡ w → c ≡ b → ((n : ℕ) → 1 ≤ n → Some (p + n)) → Some p
  unfolding Some
  step p NoFrame b l q o on = let r = on 1 (omega arith) in (r.0, r.1, skips l q r.2)
  step p Short true l q o on = let r = on 1 (omega arith) in (r.0, r.1, cuts l q o r.2)
  step p Short false l q o on = ([], p, stops l q o)
  step p (Frame n k) b l q o on = let r = on n (laws.within (drop p s) n k q).0 in (found s p n k ∷ r.0, r.1, takes l q r.2)

  within_fuel : (fuel p : ℕ) → length s ≤ p + fuel → Some p
  unfolding Some
  within_fuel zero p h = ([], p, ends (omega arith))
  within_fuel (suc fuel) p h =
      elim (cases_lt p (length s)) [ inl l ↦ step p (v (drop p s)) c l refl refl (λ n low. within_fuel fuel (p + n) (omega arith)) | inr g ↦ ([], p, ends g) ]

  pub exists : (p : ℕ) → (rs : List Found) × (e : ℕ) × Reading v c s p rs e
  unfolding Some
  exists p = within_fuel (length s) p (omega arith)

-- a longer stream
module _ {v : List ℕ → Verdict} {reach : ℕ} (laws : Laws v reach) (s t : List ℕ) where
  longer : (p : ℕ) → p ≤ length s → (v (drop p s) ≡ Short → ⊥) → v (drop p (s ++ t)) ≡ v (drop p s)
  longer p h d = ap v (drop-append-le p s t h) ∙ laws.stays (drop p s) t d

  there : (p : ℕ) → p < length s → p < length (s ++ t)
  there p h = simp length-append (omega arith)

  same-found : (p n k : ℕ) → p < length s → v (drop p s) ≡ Frame n k → found (s ++ t) p n k ≡ found s p n k
  same-found p n k l q =
      let fits : n ≤ length (drop p s) = (laws.within (drop p s) n k q).1 in
      let same : take n (drop p (s ++ t)) ≡ take n (drop p s) = ap (take n) (drop-append-le p s t (omega arith)) ∙ take-append-le n (drop p s) t fits in
      ap (λ b. record { place = p; bytes = b; kind = k }) same

  -- what an open reading has found, and passed over, stays so whatever comes behind, and the reading of the longer stream goes on from there
  pub goes_on : {c : Bool} {p e e' : ℕ} {rs rs' : List Found} → Reading v false s p rs e → Reading v c (s ++ t) e rs' e' → Reading v c (s ++ t) p (rs ++ rs') e'
  goes_on (ends l) x = x
  goes_on (stops l q o) x = x
  goes_on (cuts l q o r) x = absurd cc
  goes_on {p = p} (skips l q r) x =
      let w : v (drop p (s ++ t)) ≡ NoFrame = longer p (omega arith) (λ z. cc) ∙ q in
      skips (there p l) w (goes_on r x)
  goes_on {c} {p} {e} {e'} {rs} {rs'} (takes {n = n} {k = k} {rs = more} l q r) x =
      let w : v (drop p (s ++ t)) ≡ Frame n k = longer p (omega arith) (λ z. cc) ∙ q in
      subst (λ f. Reading v c (s ++ t) p (f ∷ (more ++ rs')) e') (same-found p n k l q) (takes (there p l) w (goes_on r x))

-- where a reading stands at the end
module _ {v : List ℕ → Verdict} {reach : ℕ} (laws : Laws v reach) where
  pub bounds : {c : Bool} {s : List ℕ} {p e : ℕ} {rs : List Found} → Reading v c s p rs e → p ≤ length s → (p ≤ e) × (e ≤ length s)
  bounds (ends l) h = (omega arith, h)
  bounds (stops l q o) h = (omega arith, h)
  bounds (cuts l q o r) h = let b = bounds r (omega arith) in (omega arith, b.1)
  bounds (skips l q r) h = let b = bounds r (omega arith) in (omega arith, b.1)
  bounds {c} {s} {p} (takes {n = n} {k = k} l q r) h =
      let fits = (laws.within (drop p s) n k q).1 in
      let b = bounds r (omega (arith, length-drop p s)) in
      (omega arith, b.1)

  -- a closed one ends where the stream does
  pub closed_end : {s : List ℕ} {p e : ℕ} {rs : List Found} → Reading v true s p rs e → p ≤ length s → e ≡ length s
  closed_end (ends l) h = omega arith
  closed_end (stops l q o) h = absurd cc
  closed_end (cuts l q o r) h = closed_end r (omega arith)
  closed_end (skips l q r) h = closed_end r (omega arith)
  closed_end {s} {p} (takes {n = n} {k = k} l q r) h =
      closed_end r (omega (arith, (laws.within (drop p s) n k q).1, length-drop p s))
