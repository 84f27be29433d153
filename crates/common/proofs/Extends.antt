-- Items copied behind those of a list, all at once. Assumes nothing.
use Rattle.std.proofs.Common.{◌≡◌, ℕ, ◌+◌, ◌≤◌, true, cond, List as Sequence, [], ◌++◌, length, take, drop, sym, ap, ◌∙◌, arith, length-append, length-drop}
use Rattle.std.proofs.lemmas.Bool.{cond-true, le-leb}
use Rattle.std.proofs.lemmas.List.{length-take-le}
use Rattle.std.proofs.lemmas.Slice.{take-put_mid, drop-put_mid}
use borrow.Rule.Slice.PartMut.{put_mid}
use Rattle.common.specs.declared.list.List.{List}
use Rattle.common.specs.Lists.{items, has_room_for}
use Rattle.common.specs.Added.{Added}

module _ {X : Type 0} where
  pub extended : (a b : List X) (xs ys : Sequence X) (k : ℕ) → a.len + length xs ≤ length a.table.now → k ≡ length xs → ys ≡ xs
      → b.table.now ≡ put_mid a.len k a.table.now ys → b.len ≡ a.len + length xs → b.table.ghost_name ≡ a.table.ghost_name
      → Added a (cond (has_room_for (length xs) a) xs []) b
  extended a b xs ys k fits size copied written more lends =
      let s : Sequence X = a.table.now in
      let front : length (take a.len s) ≡ a.len = length-take-le a.len s (omega arith) in
      let free : has_room_for (length xs) a ≡ true = le-leb _ _ (omega arith) in
      let long : length ys ≡ k = ap length copied ∙ sym size in
      let holds : items b ≡ items a ++ xs =
      ap (λ n. take n b.table.now) more ∙ ap (take (a.len + length xs)) written
      ∙ take-put_mid a.len k s ys (a.len + length xs) (omega arith) (omega arith) ∙ ap (λ t. items a ++ t) copied in
      let count : length (items b) ≡ a.len + length xs = omega (arith, ap length holds ∙ length-append (items a) xs) in
      record {
        holds = holds ∙ ap (λ t. items a ++ t) (sym (cond-true _ _ _ free));
        same_room =
            omega (arith, ap length written, length-append (take a.len s) (ys ++ drop k (drop a.len s)), length-append ys (drop k (drop a.len s)), length-drop k (drop a.len s), length-drop a.len s);
        rest = ap (drop (length (items b))) written ∙ drop-put_mid a.len k s ys (length (items b)) (omega arith) (omega arith) long;
        lends = lends;
      }
