-- Shapes laid out one behind the other: their order, their number and their bytes. Assumes nothing.
use Rattle.std.specs.Prelude.{◌≡◌, ℕ, zero, suc, ◌+◌, ◌*◌, ◌<◌, ◌≤◌, true, false, List, [], ◌∷◌, ◌++◌, length, take, drop, nat_lt, slice_index_or, refl}
use Rattle.std.proofs.Common.{sym, ap, ◌∙◌, arith, length-drop, take-add}
use Rattle.std.proofs.lemmas.List.{drop-drop, take_all}
use Rattle.std.proofs.lemmas.Bool.{and_parts, ltb-true}
use Rattle.format.specs.declared.format.Part.{Part}
use Rattle.format.specs.Meaning.{InOrder, Accepted, joined_parts, data_place}
use Rattle.velocity.specs.declared.layout.Field.{Field}
use Rattle.velocity.specs.Layout.{field_at, near, field_part, field_parts, Shape, total, layout}

-- the parts of fields with one field more
pub field_parts_push : (code : ℕ) (fs : List Field) (f : Field)
    → field_parts code (fs ++ (f ∷ [])) ≡ field_parts code fs ++ (field_part (code + length fs) f ∷ [])
field_parts_push code [] f = ap (λ n. field_part n f ∷ []) (omega arith)
field_parts_push code (x ∷ fs) f =
    ap (λ ps. field_part code x ∷ ps)
    (field_parts_push (code + 1) fs f ∙ ap (λ n. field_parts (code + 1) fs ++ (field_part n f ∷ [])) (omega arith))

pub field_parts_count : (code : ℕ) (fs : List Field) → length (field_parts code fs) ≡ length fs
field_parts_count code [] = refl
field_parts_count code (f ∷ fs) = ap suc (field_parts_count (code + 1) fs)

-- the default of a read
abbrev pub no_field : Field
no_field = field_at 0 0 0 false

pub near_at : (fs : List Field) → near fs ≡ true → (k : ℕ) → k < length fs → (slice_index_or fs k no_field).position < 1000
near_at [] h k l = absurd (omega arith)
near_at (f ∷ fs) h zero l = ltb-true f.position 1000 (and_parts (nat_lt f.position 1000) (near fs) h).0
near_at (f ∷ fs) h (suc k) l = near_at fs (and_parts (nat_lt f.position 1000) (near fs) h).1 k (omega arith)

-- the parts of a layout are in order, inside any record in which they end
pub layout_order : (n place code : ℕ) (xs : List Shape) → place + total xs ≤ n → InOrder place n (layout place code xs)
layout_order n place code [] h = tt
layout_order n place code (x ∷ xs) h = (omega arith, omega arith, layout_order n (place + x.width * x.count) (code + 1) xs (omega arith))

-- there are as many as shapes
pub layout_count : (place code : ℕ) (xs : List Shape) → length (layout place code xs) ≡ length xs
layout_count place code [] = refl
layout_count place code (x ∷ xs) = ap suc (layout_count (place + x.width * x.count) (code + 1) xs)

-- joined, they are the bytes from the place on, as many as the shapes have
pub layout_joined : (s : List ℕ) (place code : ℕ) (xs : List Shape) → joined_parts s (layout place code xs) ≡ take (total xs) (drop place s)
layout_joined s place code [] = refl
layout_joined s place code (x ∷ xs) =
    let n : ℕ = x.width * x.count in
    ap (λ t. take n (drop place s) ++ t) (layout_joined s (place + n) (code + 1) xs ∙ ap (take (total xs)) (sym (drop-drop n place s)))
    ∙ sym (take-add n (total xs) (drop place s))

in_order_from : (a b n : ℕ) (ps : List Part) → a ≤ b → InOrder b n ps → InOrder a n ps
in_order_from a b n [] h o = tt
in_order_from a b n (p ∷ ps) h o = (omega (arith, o.0), o.1, o.2)

-- shapes that fill the data are the parts of an accepted record
pub layout_accepted : (kind : ℕ) (s : List ℕ) (xs : List Shape) → 1 ≤ length xs → length xs ≤ 128 → data_place + total xs ≡ length s
    → Accepted kind s (layout data_place 1 xs)
layout_accepted kind s xs some few full = record {
  some = omega (arith, layout_count data_place 1 xs);
  few = omega (arith, layout_count data_place 1 xs);
  order = in_order_from 0 data_place (length s) (layout data_place 1 xs) (omega arith) (layout_order (length s) data_place 1 xs (omega arith));
  whole = λ _. layout_joined s data_place 1 xs ∙ take_all (total xs) (drop data_place s) (simp length-drop (omega arith));
}
