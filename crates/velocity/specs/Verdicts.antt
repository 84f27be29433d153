-- The laws of a format, once each of its answers is accepted, refused by a number at a place, or not claimed. Assumes nothing.
use Rattle.std.specs.Prelude.{◌≡◌, ℕ, ◌<◌, ◌≤◌, true, false, List, length, Ok, Err, ◌≢◌, refl}
use Rattle.std.proofs.Common.{sym, arith}
use Rattle.std.proofs.lemmas.Bool.{true≢false, false≢true}
use Rattle.format.specs.declared.format.Part.{Part}
use Rattle.format.specs.Faults.{not_both, number_right, place_right}
use Rattle.format.specs.Meaning.{Meaning, Laws, Accepted, unclaimed, faulty, accepted, data_place}

-- what is shown of each accepted, each refused and the unclaimed answer holds of the answer to a record
abbrev pub Answers : (ℕ → List ℕ → Meaning) → Type 1
Answers meaning =
    (kind : ℕ) (s : List ℕ) (P : Meaning → Type 0)
    → ((ps : List Part) → data_place ≤ length s → Accepted kind s ps → P (accepted ps))
    → ((number place : ℕ) → number < 65536 → (number ≢ 0) → data_place ≤ length s → place < length s → P (faulty number place))
    → P unclaimed → P (meaning kind s)

pub lawful_by : (meaning : ℕ → List ℕ → Meaning) → Answers meaning → Laws meaning
lawful_by meaning ways = record {
  other = λ k s. ways k s (λ m. m.claims ≡ false → m ≡ unclaimed) (λ _ _ _ e. absurd (true≢false e)) (λ _ _ _ _ _ _ e. absurd (true≢false e)) (λ _. refl);
  header = λ s short. ways 1 s (λ m. m.claims ≡ false) (λ _ l _. absurd (omega arith)) (λ _ _ _ _ l _. absurd (omega arith)) refl;
  number = λ k s f. ways k s (λ m. m.judgement ≡ Err f → (f.number ≢ 0) × (f.number < 65536)) (λ _ _ _ e. not_both e)
      (λ n p few some _ _. number_right n p f some few) (number_right 10 0 f (λ z. omega arith) (omega arith));
  inside = λ k s f. ways k s (λ m. m.judgement ≡ Err f → m.claims ≡ true → f.place < length s) (λ _ _ _ e _. not_both e)
      (λ n p _ _ _ l e _. place_right n p (length s) f l e) (λ _ e. absurd (false≢true e));
  lists = λ k s. ways k s (λ m. m.judgement ≡ Ok tt → Accepted k s m.parts) (λ _ _ a _. a) (λ _ _ _ _ _ _ e. not_both (sym e)) (λ e. not_both (sym e));
}
