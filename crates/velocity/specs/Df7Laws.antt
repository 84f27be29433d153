-- The laws of DF7 records. Assumes nothing.
use Rattle.std.specs.Prelude.{◌≡◌, ℕ, ◌+◌, ◌-◌, ◌*◌, ◌<◌, ◌≤◌, false, ◌&&◌, ◌||◌, List, [], ◌∷◌, ◌++◌, length, Ok, ◌==◌, ◌≢◌, nat_le, nat_lt, slice_index, refl}
use Rattle.std.proofs.Math.Path.{sym, ap, subst}
use Rattle.std.proofs.Common.{arith}
use Rattle.std.proofs.lemmas.Bool.{cond_both, and_parts, leb-true, ltb-false}
use Rattle.format.specs.Faults.{not_both}
use Rattle.format.specs.Meaning.{Meaning, Laws, Accepted, unclaimed, faulty, accepted, data_place}
use Rattle.velocity.specs.Layout.{data_size, Shape, shape, shapes, layout, field_part, field_parts, field_at}
use Rattle.velocity.specs.Df7.{df7_fields, df7_offset, df7_parts, df7_claims, df7_clocked, df7_judged, df7_meaning}
use Rattle.velocity.specs.Layouts.{layout_accepted}
use Rattle.velocity.specs.Clocks.{clock_at_ways}
use Rattle.velocity.specs.Verdicts.{lawful_by}

-- each fixed field lies where the one before it ends
laid : field_parts 1 df7_fields ≡ layout data_place 1 (shapes df7_fields)
laid = refl

-- what is known of an accepted record
pub record Good (s : List ℕ) : Type 0 where
  pub long : 70 ≤ length s
  pub least : 60 ≤ df7_offset s
  pub most : df7_offset s ≤ data_size s

module _ (kind : ℕ) (s : List ℕ) where
  -- the ways of a record
  ways : (P : Meaning → Type 0) → (Good s → P (accepted (df7_parts s)))
      → ((number place : ℕ) → number < 65536 → (number ≢ 0) → data_place ≤ length s → place < length s → P (faulty number place))
      → P unclaimed → P (df7_meaning kind s)
  ways P good bad other =
      cond_both (df7_claims kind s) (df7_judged s) unclaimed P
      (λ e. let head : data_place ≤ length s = leb-true data_place (length s) (and_parts (nat_le data_place (length s)) _ (and_parts (kind == 1) _ e).1).0 in
      cond_both (nat_lt (length s) 70) _ _ P (λ _. bad 11 4 (omega arith) (λ z. omega arith) head (omega arith))
      (λ short. let long : 70 ≤ length s = ltb-false (length s) 70 short in
      cond_both (slice_index s 11 == 0x30 || slice_index s 11 == 0x40) _ _ P
      (λ _. cond_both (nat_le 60 (df7_offset s) && nat_le (df7_offset s) (data_size s)) _ _ P
      (λ o. let both = and_parts (nat_le 60 (df7_offset s)) _ o in
      clock_at_ways 34 s (λ f. P (df7_clocked s f)) (λ place _ l. bad 14 place (omega arith) (λ z. omega arith) head (omega arith))
      (good (record { long = long; least = leb-true 60 (df7_offset s) both.0; most = leb-true (df7_offset s) (data_size s) both.1 })))
      (λ _. bad 13 12 (omega arith) (λ z. omega arith) head (omega arith)))
      (λ _. bad 12 11 (omega arith) (λ z. omega arith) head (omega arith))))
      (λ _. other)

  pub df7_accepted : (df7_meaning kind s).judgement ≡ Ok tt → (df7_meaning kind s ≡ accepted (df7_parts s)) × Good s
  df7_accepted = ways (λ m. m.judgement ≡ Ok tt → (m ≡ accepted (df7_parts s)) × Good s) (λ g _. (refl, g)) (λ _ _ _ _ _ _ e. not_both (sym e)) (λ e. not_both (sym e))

  -- the fixed fields, the spare bytes and the tail fill the data
  all_shapes : List Shape
  all_shapes = shapes df7_fields ++ (shape 1 (df7_offset s - 60) false ∷ (shape 1 (data_size s - df7_offset s) false ∷ []))

  df7_lists : Good s → Accepted kind s (df7_parts s)
  unfolding all_shapes
  df7_lists g =
      let tail : (60 + data_place) + 1 * (df7_offset s - 60) ≡ df7_offset s + data_place = omega (arith, g.least) in
      let same : layout data_place 1 all_shapes ≡ df7_parts s =
      ap (λ p. field_parts 1 df7_fields ++ (field_part 22 (field_at 60 1 (df7_offset s - 60) false) ∷ (record { code = 23; place = p; width = 1; count = data_size s - df7_offset s; signed = false } ∷ []))) tail in
      subst (Accepted kind s) same (layout_accepted kind s all_shapes (omega arith) (omega arith) (omega (arith, g.long, g.least, g.most)))

pub df7_lawful : Laws df7_meaning
df7_lawful = lawful_by df7_meaning (λ k s P good. ways k s P (λ g. good (df7_parts s) (omega (arith, g.long)) (df7_lists k s g)))
