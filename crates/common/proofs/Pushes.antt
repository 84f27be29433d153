-- One item more in the front of a table. Assumes nothing.
use Rattle.std.proofs.Common.{◌≡◌, ℕ, ◌+◌, ◌<◌, true, cond, ltb, List, [], ◌∷◌, ◌++◌, length, take, drop, set, sym, ap, ◌∙◌, arith, length-set, length-take}
use Rattle.std.proofs.lemmas.List.{length-take-le, take_more_set, drop-set-lt}
use Rattle.std.proofs.lemmas.Bool.{cond-true, lt-ltb}

module _ {X : Type 0} (table : List X) (len : ℕ) (x : X) (less : len < length table) where
  abbrev front : List X
  front = take len table

  long : length front ≡ len
  long = length-take-le len table (omega arith)

  pub room_for : ltb (length front) (length table) ≡ true
  room_for = lt-ltb (length front) (length table) (omega (arith, long))

  pub push_items : take (len + 1) (set table len x) ≡ cond (ltb (length front) (length table)) (front ++ (x ∷ [])) front
  push_items = take_more_set table len x less ∙ sym (cond-true _ _ _ room_for)

  pub push_table : set table len x ≡ cond (ltb (length front) (length table)) (set table (length front) x) table
  push_table = ap (λ i. set table i x) (sym long) ∙ sym (cond-true _ _ _ room_for)

  pub push_rest : drop (length (take (len + 1) (set table len x))) (set table len x) ≡ drop (length (take (len + 1) (set table len x))) table
  push_rest = drop-set-lt (length (take (len + 1) (set table len x))) table len x (simp (length-take, length-set) (omega arith))
