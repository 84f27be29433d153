-- The laws of string records. Assumes nothing.
use Rattle.std.specs.Prelude.{◌≡◌, ℕ, ◌+◌, ◌-◌, ◌*◌, ◌<◌, ◌≤◌, true, false, List, [], ◌∷◌, ◌++◌, length, take, drop, Ok, Err, ◌==◌, ◌≢◌, nat_le, nat_lt, refl}
use Rattle.std.proofs.Common.{sym, ap, ◌∙◌, arith, take-append-drop}
use Rattle.std.proofs.lemmas.List.{drop-drop, drop_all}
use Rattle.std.proofs.lemmas.Bool.{cond_both, true≢false, false≢true, and_parts, leb-true, ltb-true}
use Rattle.format.specs.Meaning.{Meaning, Laws, Accepted, unclaimed, faulty, accepted}
use Rattle.format.specs.Faults.{not_both, number_right, place_right}
use Rattle.format.specs.Text.{plain, ends_zero, text_parts, text_claims, text_meaning}

module _ (kind : ℕ) (s : List ℕ) where
  -- the three ways of a record
  ways : (P : Meaning → Type 0)
      → (10 < length s → P (accepted (text_parts s)))
      → (10 ≤ length s → P (faulty 18 4))
      → P unclaimed → P (text_meaning kind s)
  ways P good bad other =
      cond_both (text_claims kind s) _ unclaimed P
      (λ e. cond_both (nat_lt 10 (length s)) (accepted (text_parts s)) (faulty 18 4) P (λ l. good (ltb-true 10 (length s) l))
      (λ _. bad (leb-true 10 (length s) (and_parts (nat_le 10 (length s)) _ (and_parts (kind == 1) _ e).1).0)))
      (λ _. other)

  pub text_accepted : (text_meaning kind s).judgement ≡ Ok tt → text_meaning kind s ≡ accepted (text_parts s)
  text_accepted = ways (λ m. m.judgement ≡ Ok tt → m ≡ accepted (text_parts s)) (λ _ _. refl) (λ _ e. not_both (sym e)) (λ e. not_both (sym e))

  -- a piece in front of what follows it
  piece : (from size to : ℕ) (t : List ℕ) → from + size ≡ to → t ≡ drop to s → take size (drop from s) ++ t ≡ drop from s
  piece from size to t e h =
      ap (λ x. take size (drop from s) ++ x) (h ∙ ap (λ i. drop i s) (sym e) ∙ sym (drop-drop size from s)) ∙ take-append-drop size (drop from s)

  none_left : [] ≡ drop (length s) s
  none_left = sym (drop_all (length s) s (omega arith))

  text_lists : 10 < length s → Accepted kind s (text_parts s)
  text_lists long =
      cond_both (ends_zero s) (plain 2 11 (length s - 12) ∷ (plain 3 (length s - 1) 1 ∷ [])) (plain 2 11 (length s - 11) ∷ [])
      (λ ps. Accepted kind s (plain 1 10 1 ∷ ps))
      (λ e. let more : 11 < length s = ltb-true 11 (length s) (and_parts (nat_lt 11 (length s)) _ e).0 in record {
        some = omega arith;
        few = omega arith;
        order = (omega arith, omega arith, (omega arith, omega arith, (omega arith, omega arith, tt)));
        whole = λ _. piece 10 1 11 _ refl (piece 11 (1 * (length s - 12)) (length s - 1) _ (omega arith) (piece (length s - 1) 1 (length s) [] (omega arith) none_left));
      })
      (λ _. record {
        some = omega arith;
        few = omega arith;
        order = (omega arith, omega arith, (omega arith, omega arith, tt));
        whole = λ _. piece 10 1 11 _ refl (piece 11 (1 * (length s - 11)) (length s) [] (omega arith) none_left);
      })

pub text_lawful : Laws text_meaning
text_lawful = record {
  other = λ k s. ways k s (λ m. m.claims ≡ false → m ≡ unclaimed) (λ _ e. absurd (true≢false e)) (λ _ e. absurd (true≢false e)) (λ _. refl);
  header = λ s short. ways 1 s (λ m. m.claims ≡ false) (λ l. absurd (omega arith)) (λ l. absurd (omega arith)) refl;
  number = λ k s f. ways k s (λ m. m.judgement ≡ Err f → (f.number ≢ 0) × (f.number < 65536)) (λ _ e. not_both e)
      (λ _. number_right 18 4 f (λ z. omega arith) (omega arith)) (number_right 10 0 f (λ z. omega arith) (omega arith));
  inside = λ k s f. ways k s (λ m. m.judgement ≡ Err f → m.claims ≡ true → f.place < length s) (λ _ e _. not_both e)
      (λ l e _. place_right 18 4 (length s) f (omega arith) e) (λ _ e. absurd (false≢true e));
  lists = λ k s. ways k s (λ m. m.judgement ≡ Ok tt → Accepted k s m.parts) (λ l _. text_lists k s l) (λ _ e. not_both (sym e)) (λ e. not_both (sym e));
}
