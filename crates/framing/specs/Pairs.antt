-- The laws of a pair of framings. Assumes nothing.
use Rattle.std.specs.Prelude.{◌≡◌, ℕ, ◌≤◌, max, List, [], ◌++◌, length, ◌≢◌, refl}
use Rattle.std.proofs.Common.{sym, ap, ◌∙◌, arith}
use Rattle.framing.specs.declared.verdict.Verdict.{Verdict}
use Rattle.framing.specs.declared.verdict.Verdict.TheVariants.{NoFrame, Short, Frame}
use Rattle.framing.specs.Verdicts.{Laws, or_else}

module _ {v w : List ℕ → Verdict} {r q : ℕ} (first : Laws v r) (second : Laws w q) where
  within : (s : List ℕ) (n k : ℕ) (x : Verdict) → v s ≡ x → or_else x (w s) ≡ Frame n k → (1 ≤ n) × (n ≤ length s) × (n ≤ max r q)
  within s n k NoFrame e h = let f = second.within s n k h in (f.0, f.1, omega arith)
  within s n k Short e h = absurd cc
  within s n k (Frame m j) e h = let f = first.within s n k (e ∙ h) in (f.0, f.1, omega arith)

  stays : (s t : List ℕ) (x : Verdict) → v s ≡ x → (or_else x (w s) ≢ Short) → or_else (v (s ++ t)) (w (s ++ t)) ≡ or_else x (w s)
  stays s t NoFrame e d =
      let same : v (s ++ t) ≡ NoFrame = first.stays s t (λ h. cc) ∙ e in
      ap (λ y. or_else y (w (s ++ t))) same ∙ second.stays s t d
  stays s t Short e d = absurd (d refl)
  stays s t (Frame m j) e d =
      let same : v (s ++ t) ≡ Frame m j = first.stays s t (λ h. d (sym e ∙ h)) ∙ e in
      ap (λ y. or_else y (w (s ++ t))) same

  decided : (s : List ℕ) (x : Verdict) → v s ≡ x → max r q ≤ length s → or_else x (w s) ≢ Short
  decided s NoFrame e l h = second.decided s (omega arith) h
  decided s Short e l h = first.decided s (omega arith) e
  decided s (Frame m j) e l h = first.decided s (omega arith) (e ∙ h)

  pub pair_lawful : Laws (λ s. or_else (v s) (w s)) (max r q)
  pair_lawful = record {
    reach_low = omega (arith, first.reach_low);
    reach_high = omega (arith, first.reach_high, second.reach_high);
    empty = ap (λ x. or_else x (w [])) first.empty;
    within = λ s n k. within s n k (v s) refl;
    stays = λ s t. stays s t (v s) refl;
    decided = λ s. decided s (v s) refl;
  }
