-- What the text from a byte on has, by that byte: its commas, the comma that is one too many, and its fields. Assumes nothing.
use Rattle.std.proofs.Common.{◌≡◌, ℕ, zero, suc, ◌+◌, ◌-◌, ◌<◌, ◌≤◌, cond, eqb, List, [], ◌∷◌, length, get_or, drop, Some, None, refl, ap, ◌∙◌, arith}
use Rattle.std.proofs.lemmas.List.{at_drop_more, at_drop_all}
use Rattle.std.proofs.lemmas.Bool.{cond-false, ne_eqb}
use Rattle.format.specs.Text.{plain}
use Rattle.format.specs.Sentence.{fields, commas, comma_at}

-- neither `*` nor a comma
other_byte : {Y : Type 0} (x : ℕ) (a b c : Y) → (x ≡ 42 → ⊥) → (x ≡ 44 → ⊥) → cond (eqb x 42) a (cond (eqb x 44) b c) ≡ c
other_byte x a b c no-star no-comma = cond-false (eqb x 42) a _ (ne_eqb x 42 no-star) ∙ cond-false (eqb x 44) b c (ne_eqb x 44 no-comma)

module _ (s : List ℕ) (i : ℕ) where
  -- at the end of the text
  pub commas_end : length s ≤ i → commas (drop i s) ≡ 0
  commas_end = at_drop_all commas s i

  pub comma_at_end : (n p : ℕ) → length s ≤ i → comma_at n p (drop i s) ≡ None
  comma_at_end n p l = at_drop_all (comma_at n p) s i l ∙ none n
    where
      none : (m : ℕ) → comma_at m p [] ≡ None
      none zero = refl
      none (suc m) = refl

  pub fields_end : (c p k : ℕ) → length s ≤ i → fields c p k (drop i s) ≡ plain c p k ∷ []
  fields_end c p k = at_drop_all (fields c p k) s i

  module _ (l : i < length s) where
    at_byte : {Y : Type 0} (F : List ℕ → Y) (x : ℕ) → get_or s i 0 ≡ x → F (drop i s) ≡ F (x ∷ drop (i + 1) s)
    at_byte F x e = at_drop_more F s i 0 l ∙ ap (λ y. F (y ∷ drop (i + 1) s)) e

    -- at `*`
    pub commas-star : get_or s i 0 ≡ 42 → commas (drop i s) ≡ 0
    commas-star e = at_byte commas 42 e

    pub comma_at-star : (n p : ℕ) → get_or s i 0 ≡ 42 → comma_at n p (drop i s) ≡ None
    comma_at-star n p e = at_byte (comma_at n p) 42 e ∙ none n
      where
        none : (m : ℕ) → comma_at m p (42 ∷ drop (i + 1) s) ≡ None
        none zero = refl
        none (suc m) = refl

    pub fields-star : (c p k : ℕ) → get_or s i 0 ≡ 42 → fields c p k (drop i s) ≡ plain c p k ∷ []
    fields-star c p k e = at_byte (fields c p k) 42 e

    -- at a comma
    pub commas-comma : get_or s i 0 ≡ 44 → commas (drop i s) ≡ 1 + commas (drop (i + 1) s)
    commas-comma e = at_byte commas 44 e

    pub comma_at-last : (p : ℕ) → get_or s i 0 ≡ 44 → comma_at 0 p (drop i s) ≡ Some p
    comma_at-last p e = at_byte (comma_at 0 p) 44 e

    pub comma_at-comma : (n p : ℕ) → 0 < n → get_or s i 0 ≡ 44 → comma_at n p (drop i s) ≡ comma_at (n - 1) (p + 1) (drop (i + 1) s)
    comma_at-comma zero p h e = absurd (omega arith)
    comma_at-comma (suc n) p h e =
        let less : n ≡ suc n - 1 = omega arith in
        at_byte (comma_at (suc n) p) 44 e ∙ ap (λ m. comma_at m (p + 1) (drop (i + 1) s)) less

    pub fields-comma : (c p k : ℕ) → get_or s i 0 ≡ 44 → fields c p k (drop i s) ≡ plain c p k ∷ fields (c + 1) (p + k + 1) 0 (drop (i + 1) s)
    fields-comma c p k e = at_byte (fields c p k) 44 e

    -- at another byte
    module _ (no-star : get_or s i 0 ≡ 42 → ⊥) (no-comma : get_or s i 0 ≡ 44 → ⊥) where
      pub commas-other : commas (drop i s) ≡ commas (drop (i + 1) s)
      commas-other = at_byte commas (get_or s i 0) refl ∙ other_byte (get_or s i 0) _ _ _ no-star no-comma

      pub comma_at-other : (n p : ℕ) → comma_at n p (drop i s) ≡ comma_at n (p + 1) (drop (i + 1) s)
      comma_at-other zero p = at_byte (comma_at 0 p) (get_or s i 0) refl ∙ other_byte (get_or s i 0) _ _ _ no-star no-comma
      comma_at-other (suc n) p = at_byte (comma_at (suc n) p) (get_or s i 0) refl ∙ other_byte (get_or s i 0) _ _ _ no-star no-comma

      pub fields-other : (c p k : ℕ) → fields c p k (drop i s) ≡ fields c p (k + 1) (drop (i + 1) s)
      fields-other c p k = at_byte (fields c p k) (get_or s i 0) refl ∙ other_byte (get_or s i 0) _ _ _ no-star no-comma
