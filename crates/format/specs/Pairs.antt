-- The laws of a pair of formats. Assumes nothing.
use Rattle.std.specs.Prelude.{◌≡◌, ℕ, ◌<◌, true, false, List, length, Ok, Err, ◌≢◌}
use Rattle.std.proofs.lemmas.Bool.{cond_both}
use Rattle.format.specs.Meaning.{Meaning, Laws, Accepted, or_else, unclaimed}

-- what holds of the first where it claims the record, and of the second where it does not, holds of the pair
either : (P : Meaning → Type 0) (m n : Meaning) → (m.claims ≡ true → P m) → (m.claims ≡ false → P n) → P (or_else m n)
either P m n one two = cond_both m.claims m n P one two

module _ {v w : ℕ → List ℕ → Meaning} (first : Laws v) (second : Laws w) where
  pub pair_lawful : Laws (λ k s. or_else (v k s) (w k s))
  pair_lawful = record {
    other = λ k s. either (λ m. m.claims ≡ false → m ≡ unclaimed) (v k s) (w k s) (λ _. first.other k s) (λ _. second.other k s);
    header = λ s l. either (λ m. m.claims ≡ false) (v 1 s) (w 1 s) (λ _. first.header s l) (λ _. second.header s l);
    number = λ k s f. either (λ m. m.judgement ≡ Err f → (f.number ≢ 0) × (f.number < 65536)) (v k s) (w k s) (λ _. first.number k s f) (λ _. second.number k s f);
    inside = λ k s f. either (λ m. m.judgement ≡ Err f → m.claims ≡ true → f.place < length s) (v k s) (w k s) (λ _. first.inside k s f) (λ _. second.inside k s f);
    lists = λ k s. either (λ m. m.judgement ≡ Ok tt → Accepted k s m.parts) (v k s) (w k s) (λ _. first.lists k s) (λ _. second.lists k s);
  }
