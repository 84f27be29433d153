-- The laws of DF3 records. Assumes nothing.
use Rattle.std.specs.Prelude.{◌≡◌, ℕ, ◌+◌, ◌-◌, ◌*◌, ◌<◌, ◌≤◌, true, false, ◌&&◌, List, [], ◌∷◌, ◌++◌, length, take, drop, Some, None, Option, Ok, ◌==◌, ◌≢◌, nat_le, nat_lt, slice_index, refl}
use Rattle.std.proofs.Common.{sym, ap, subst, ◌∙◌, arith, length-take}
use Rattle.std.proofs.lemmas.Bool.{cond_both, and_parts, leb-true, ltb-false}
use Rattle.format.specs.Faults.{not_both}
use Rattle.format.specs.Meaning.{Meaning, Laws, Accepted, unclaimed, faulty, accepted, data_place}
use Rattle.velocity.specs.Layout.{data_size, Shape, shape, shapes, total, layout, field_part, field_parts, field_at}
use Rattle.velocity.specs.Df3.{df3_fields, df3_offset, beams, cells, velocities, amplitudes, correlations, correlation_position, arrays_end, df3_parts, df3_claims, first_above, high_correlation, df3_correlated, df3_arrayed, df3_clocked, df3_judged, df3_meaning}
use Rattle.velocity.specs.Layouts.{layout_accepted}
use Rattle.velocity.specs.Clocks.{clock_at_ways}
use Rattle.velocity.specs.Verdicts.{lawful_by}

-- each fixed field lies where the one before it ends
laid : field_parts 1 df3_fields ≡ layout data_place 1 (shapes df3_fields)
laid = refl

-- what is known of an accepted record
pub record Good (s : List ℕ) : Type 0 where
  pub long : 86 ≤ length s
  pub least : 76 ≤ df3_offset s
  pub most : arrays_end s ≤ data_size s
  pub low : high_correlation s ≡ None

-- the first number above 100 is one of the numbers
above_ways : (place : ℕ) (s : List ℕ) (P : Option ℕ → Type 0) → ((p : ℕ) → p < place + length s → P (Some p)) → P None → P (first_above place s)
above_ways place [] P some none = none
above_ways place (x ∷ s) P some none =
    cond_both (nat_lt 100 x) _ _ P (λ _. some place (omega arith)) (λ _. above_ways (place + 1) s P (λ p l. some p (omega arith)) none)

module _ (s : List ℕ) (long : 86 ≤ length s) where
  high_ways : arrays_end s ≤ data_size s → (P : Option ℕ → Type 0) → ((p : ℕ) → p < length s → P (Some p)) → P None → P (high_correlation s)
  high_ways most P some none =
      cond_both (nat_lt 100 (slice_index s 46)) _ _ P (λ _. some 46 (omega arith))
      (λ _. let n : ℕ = correlations s in
      let from : ℕ = correlation_position s + data_place in
      let size : length (take n (drop from s)) ≤ n = simp length-take (omega arith) in
      above_ways from (take n (drop from s)) P (λ p l. some p (omega arith)) none)

  arrayed_ways : 76 ≤ df3_offset s → (P : Meaning → Type 0) → (Good s → P (accepted (df3_parts s)))
      → ((number place : ℕ) → number < 65536 → (number ≢ 0) → data_place ≤ length s → place < length s → P (faulty number place))
      → P (df3_arrayed s)
  arrayed_ways least P good bad =
      cond_both (nat_le 1 (beams s) && (nat_le (beams s) 5 && nat_le 1 (cells s))) _ _ P
      (λ _. cond_both (nat_le (arrays_end s) (data_size s)) _ _ P
      (λ e. let most : arrays_end s ≤ data_size s = leb-true (arrays_end s) (data_size s) e in
      high_ways most (λ f. high_correlation s ≡ f → P (df3_correlated s f)) (λ p l _. bad 17 p (omega arith) (λ z. omega arith) (omega arith) l)
      (λ low. good (record { long = long; least = least; most = most; low = low })) refl)
      (λ _. bad 16 12 (omega arith) (λ z. omega arith) (omega arith) (omega arith)))
      (λ _. bad 15 40 (omega arith) (λ z. omega arith) (omega arith) (omega arith))

module _ (kind : ℕ) (s : List ℕ) where
  -- the ways of a record
  ways : (P : Meaning → Type 0) → (Good s → P (accepted (df3_parts s)))
      → ((number place : ℕ) → number < 65536 → (number ≢ 0) → data_place ≤ length s → place < length s → P (faulty number place))
      → P unclaimed → P (df3_meaning kind s)
  ways P good bad other =
      cond_both (df3_claims kind s) (df3_judged s) unclaimed P
      (λ e. let head : data_place ≤ length s = leb-true data_place (length s) (and_parts (nat_le data_place (length s)) _ (and_parts (kind == 1) _ e).1).0 in
      cond_both (nat_lt (length s) 86) _ _ P (λ _. bad 11 4 (omega arith) (λ z. omega arith) head (omega arith))
      (λ short. let long : 86 ≤ length s = ltb-false (length s) 86 short in
      cond_both (slice_index s 10 == 3) _ _ P
      (λ _. cond_both (nat_le 76 (df3_offset s) && nat_le (df3_offset s) (data_size s)) _ _ P
      (λ o. let least : 76 ≤ df3_offset s = leb-true 76 (df3_offset s) (and_parts (nat_le 76 (df3_offset s)) _ o).0 in
      clock_at_ways 18 s (λ f. P (df3_clocked s f)) (λ place _ l. bad 14 place (omega arith) (λ z. omega arith) head (omega arith))
      (arrayed_ways s long least P good bad))
      (λ _. bad 13 11 (omega arith) (λ z. omega arith) head (omega arith)))
      (λ _. bad 12 10 (omega arith) (λ z. omega arith) head (omega arith))))
      (λ _. other)

  pub df3_accepted : (df3_meaning kind s).judgement ≡ Ok tt → (df3_meaning kind s ≡ accepted (df3_parts s)) × Good s
  df3_accepted = ways (λ m. m.judgement ≡ Ok tt → (m ≡ accepted (df3_parts s)) × Good s) (λ g _. (refl, g)) (λ _ _ _ _ _ _ e. not_both (sym e)) (λ e. not_both (sym e))

  -- no correlation of an accepted record is above 100
  pub none_high : (df3_meaning kind s).judgement ≡ Ok tt → high_correlation s ≡ None
  none_high e = (df3_accepted e).1.low

-- the spare bytes up to an offset, arrays of v, a and n items, and the tail of some data
abbrev others : ℕ → ℕ → ℕ → ℕ → ℕ → List Shape
others o v a n size =
    shape 1 (o - 76) false ∷ (shape 2 v true ∷ (shape 1 a false ∷ (shape 1 n false ∷ (shape 1 (size - (o + 2 * v + a + n)) false ∷ []))))

-- laid out, each lies where it is said to lie
others_laid : (o v a n size : ℕ) → 76 ≤ o → layout 86 37 (others o v a n size)
    ≡ field_part 37 (field_at 76 1 (o - 76) false) ∷ (field_part 38 (field_at o 2 v true) ∷ (field_part 39 (field_at (o + 2 * v) 1 a false)
    ∷ (field_part 40 (field_at (o + 2 * v + a) 1 n false) ∷ (field_part 41 (field_at (o + 2 * v + a + n) 1 (size - (o + 2 * v + a + n)) false) ∷ []))))
others_laid o v a n size h =
    let p : 86 + 1 * (o - 76) ≡ o + data_place = omega arith in
    let q : 86 + 1 * (o - 76) + 2 * v ≡ o + 2 * v + data_place = omega arith in
    let r : 86 + 1 * (o - 76) + 2 * v + 1 * a ≡ o + 2 * v + a + data_place = omega arith in
    let t : 86 + 1 * (o - 76) + 2 * v + 1 * a + 1 * n ≡ o + 2 * v + a + n + data_place = omega arith in
    cc

-- and they fill the data
others_fill : (o v a n size : ℕ) → 76 ≤ o → o + 2 * v + a + n ≤ size → total (shapes df3_fields ++ others o v a n size) ≡ size
others_fill o v a n size h l = omega arith

module _ (kind : ℕ) (s : List ℕ) where
  df3_lists : Good s → Accepted kind s (df3_parts s)
  df3_lists g =
      let shaped : List Shape = shapes df3_fields ++ others (df3_offset s) (velocities s) (amplitudes s) (correlations s) (data_size s) in
      let same : layout data_place 1 shaped ≡ df3_parts s =
      ap (λ ps. field_parts 1 df3_fields ++ ps) (others_laid (df3_offset s) (velocities s) (amplitudes s) (correlations s) (data_size s) g.least) in
      let full : total shaped ≡ data_size s = others_fill (df3_offset s) (velocities s) (amplitudes s) (correlations s) (data_size s) g.least g.most in
      subst (Accepted kind s) same (layout_accepted kind s shaped (omega arith) (omega arith) (ap (λ n. data_place + n) full ∙ omega (arith, g.long)))

pub df3_lawful : Laws df3_meaning
df3_lawful = lawful_by df3_meaning (λ k s P good. ways k s P (λ g. good (df3_parts s) (omega (arith, g.long)) (df3_lists k s g)))
