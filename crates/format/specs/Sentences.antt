-- The laws of sentences: how many fields there are, where they lie, and where a comma too many stands. Assumes nothing.
use Rattle.std.specs.Prelude.{◌≡◌, ℕ, zero, suc, ◌+◌, ◌*◌, ◌<◌, ◌≤◌, Bool, true, false, cond, List, [], ◌∷◌, length, drop, Some, None, Ok, Err, Option, ◌==◌, ◌≢◌, nat_le, refl}
use Rattle.std.proofs.Common.{sym, arith, length-drop}
use Rattle.std.proofs.lemmas.Bool.{cond_both, true≢false, false≢true, and_parts, eqb-true, leb-true}
use Rattle.format.specs.declared.format.Part.{Part}
use Rattle.format.specs.Meaning.{Meaning, Laws, Accepted, InOrder, unclaimed, faulty, accepted}
use Rattle.format.specs.Faults.{not_both, number_right, place_right}
use Rattle.format.specs.Text.{plain}
use Rattle.format.specs.Sentence.{fields, commas, comma_at, sentence_claims, with_comma, sentence_meaning}

-- one field more than there are commas
pub field_count : (code start count : ℕ) (s : List ℕ) → length (fields code start count s) ≡ 1 + commas s
field_count code start count [] = refl
field_count code start count (x ∷ s) = at (x == 42) (x == 44) (field_count (code + 1) (start + count + 1) 0 s) (field_count code start (count + 1) s)
  where
    at : (star comma : Bool) → length (fields (code + 1) (start + count + 1) 0 s) ≡ 1 + commas s → length (fields code start (count + 1) s) ≡ 1 + commas s
        → length (cond star (plain code start count ∷ []) (cond comma (plain code start count ∷ fields (code + 1) (start + count + 1) 0 s) (fields code start (count + 1) s)))
        ≡ 1 + cond star 0 (cond comma (1 + commas s) (commas s))
    at true comma next same = refl
    at false true next same = omega arith
    at false false next same = same

-- the fields lie one behind the other
in_order : (code start count : ℕ) (s : List ℕ) (from n : ℕ) → from ≤ start → start + count + length s ≤ n → InOrder from n (fields code start count s)
in_order code start count [] from n low high = (low, omega arith, tt)
in_order code start count (x ∷ s) from n low high =
    cond_both (x == 42) (plain code start count ∷ []) _ (InOrder from n) (λ _. (low, omega arith, tt))
    (λ _. cond_both (x == 44) (plain code start count ∷ fields (code + 1) (start + count + 1) 0 s) (fields code start (count + 1) s) (InOrder from n)
    (λ _. (low, omega arith, in_order (code + 1) (start + count + 1) 0 s (start + 1 * count) n (omega arith) (omega arith)))
    (λ _. in_order code start (count + 1) s from n low (omega arith)))

-- the comma that is one too many stands in the text
comma_inside : (n p : ℕ) (s : List ℕ) (q : ℕ) → comma_at n p s ≡ Some q → q < p + length s
comma_inside zero p [] q = λ e. absurd (let z : ◌≡◌ {A = ℕ} 0 1 = cc in omega arith)
comma_inside (suc n) p [] q = λ e. absurd (let z : ◌≡◌ {A = ℕ} 0 1 = cc in omega arith)
comma_inside zero p (x ∷ s) q =
    cond_both (x == 42) None _ (λ o. o ≡ Some q → q < p + suc (length s)) (λ _ e. absurd (let z : ◌≡◌ {A = ℕ} 0 1 = cc in omega arith))
    (λ _. cond_both (x == 44) (Some p) (comma_at zero (p + 1) s) (λ o. o ≡ Some q → q < p + suc (length s))
    (λ _ e. let here : p ≡ q = cc in omega arith) (λ _ e. omega (arith, comma_inside zero (p + 1) s q e)))
comma_inside (suc n) p (x ∷ s) q =
    cond_both (x == 42) None _ (λ o. o ≡ Some q → q < p + suc (length s)) (λ _ e. absurd (let z : ◌≡◌ {A = ℕ} 0 1 = cc in omega arith))
    (λ _. cond_both (x == 44) (comma_at n (p + 1) s) (comma_at (suc n) (p + 1) s) (λ o. o ≡ Some q → q < p + suc (length s))
    (λ _ e. omega (arith, comma_inside n (p + 1) s q e)) (λ _ e. omega (arith, comma_inside (suc n) (p + 1) s q e)))

-- where there is none, there are not too many commas
few_commas : (n p : ℕ) (s : List ℕ) → comma_at n p s ≡ None → commas s ≤ n
few_commas n p [] e = omega arith
few_commas zero p (x ∷ s) e = at (x == 42) (x == 44) (few_commas zero (p + 1) s) e
  where
    at : (star comma : Bool) → (comma_at zero (p + 1) s ≡ None → commas s ≤ zero)
        → cond star None (cond comma (Some p) (comma_at zero (p + 1) s)) ≡ None → cond star 0 (cond comma (1 + commas s) (commas s)) ≤ zero
    at true comma more h = omega arith
    at false true more h = absurd (let z : ◌≡◌ {A = ℕ} 0 1 = cc in omega arith)
    at false false more h = more h
few_commas (suc n) p (x ∷ s) e = at (x == 42) (x == 44) (few_commas n (p + 1) s) (few_commas (suc n) (p + 1) s) e
  where
    at : (star comma : Bool) → (comma_at n (p + 1) s ≡ None → commas s ≤ n) → (comma_at (suc n) (p + 1) s ≡ None → commas s ≤ suc n)
        → cond star None (cond comma (comma_at n (p + 1) s) (comma_at (suc n) (p + 1) s)) ≡ None → cond star 0 (cond comma (1 + commas s) (commas s)) ≤ suc n
    at true comma fewer more h = omega arith
    at false true fewer more h = omega (arith, fewer h)
    at false false fewer more h = more h

module _ (kind : ℕ) (s : List ℕ) where
  abbrev found : List Part
  found = fields 1 1 0 (drop 1 s)

  -- the three ways of a record
  ways : (P : Meaning → Type 0)
      → (kind ≡ 2 → 1 ≤ length s → commas (drop 1 s) ≤ 63 → P (accepted found))
      → (kind ≡ 2 → (q : ℕ) → q < length s → P (faulty 19 q))
      → P unclaimed → P (sentence_meaning kind s)
  ways P good bad other = cond_both (sentence_claims kind s) _ unclaimed P claimed (λ _. other)
    where
      by_comma : (o : Option ℕ) → comma_at 63 1 (drop 1 s) ≡ o → kind ≡ 2 → 1 ≤ length s → P (with_comma s o)
      by_comma None e two long = good two long (few_commas 63 1 (drop 1 s) e)
      by_comma (Some q) e two long = bad two q (omega (arith, comma_inside 63 1 (drop 1 s) q e, length-drop 1 s))

      claimed : sentence_claims kind s ≡ true → P (with_comma s (comma_at 63 1 (drop 1 s)))
      claimed e =
          let tests = and_parts (kind == 2) _ e in
          by_comma (comma_at 63 1 (drop 1 s)) refl (eqb-true kind 2 tests.0) (leb-true 1 (length s) (and_parts (nat_le 1 (length s)) _ tests.1).0)

  pub sentence_accepted : (sentence_meaning kind s).judgement ≡ Ok tt → (sentence_meaning kind s ≡ accepted found) × (commas (drop 1 s) ≤ 63)
  sentence_accepted =
      ways (λ m. m.judgement ≡ Ok tt → (m ≡ accepted found) × (commas (drop 1 s) ≤ 63))
      (λ _ _ few _. (refl, few)) (λ _ _ _ e. not_both (sym e)) (λ e. not_both (sym e))

  sentence_lists : kind ≡ 2 → 1 ≤ length s → commas (drop 1 s) ≤ 63 → Accepted kind s found
  sentence_lists two long few = record {
    some = omega (arith, field_count 1 1 0 (drop 1 s));
    few = omega (arith, field_count 1 1 0 (drop 1 s));
    order = in_order 1 1 0 (drop 1 s) 0 (length s) (omega arith) (omega (arith, length-drop 1 s));
    whole = λ one. absurd (omega arith);
  }

pub sentence_lawful : Laws sentence_meaning
sentence_lawful = record {
  other = λ k s. ways k s (λ m. m.claims ≡ false → m ≡ unclaimed) (λ _ _ _ e. absurd (true≢false e)) (λ _ _ _ e. absurd (true≢false e)) (λ _. refl);
  header = λ s short. ways 1 s (λ m. m.claims ≡ false) (λ two _ _. absurd (omega arith)) (λ two _ _. absurd (omega arith)) refl;
  number = λ k s f. ways k s (λ m. m.judgement ≡ Err f → (f.number ≢ 0) × (f.number < 65536)) (λ _ _ _ e. not_both e)
      (λ _ q _. number_right 19 q f (λ z. omega arith) (omega arith)) (number_right 10 0 f (λ z. omega arith) (omega arith));
  inside = λ k s f. ways k s (λ m. m.judgement ≡ Err f → m.claims ≡ true → f.place < length s) (λ _ _ _ e _. not_both e)
      (λ _ q l e _. place_right 19 q (length s) f l e) (λ _ e. absurd (false≢true e));
  lists = λ k s. ways k s (λ m. m.judgement ≡ Ok tt → Accepted k s m.parts) (λ two long few _. sentence_lists k s two long few)
      (λ _ _ _ e. not_both (sym e)) (λ e. not_both (sym e));
}
