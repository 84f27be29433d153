-- Items put behind those of a list, one by one. Assumes nothing.
use Rattle.std.proofs.Common.{◌≡◌, ℕ, ◌+◌, ◌-◌, ◌<◌, ◌≤◌, true, cond, List as Sequence, [], ◌∷◌, ◌++◌, length, take, drop, set, sym, refl, ap, ◌∙◌, inl, inr, append_assoc, append-nil, arith, length-append, length-set, take-append-drop, length-take}
use Rattle.std.proofs.lemmas.List.{drop-set-lt, drop-drop, length_push, length-take-le, take_all}
use Rattle.std.proofs.lemmas.Bool.{cond-true, lt-ltb, cases_lt}
use Rattle.common.specs.declared.list.List.{List}
use Rattle.common.specs.Lists.{items, room, has_room}
use Rattle.common.specs.Added.{Added}

module _ {X : Type 0} where
  -- a push where there is room
  pub added_one : (a b : List X) (x : X) → length (items a) < room a
      → items b ≡ cond (has_room a) (items a ++ (x ∷ [])) (items a)
      → b.table.now ≡ cond (has_room a) (set a.table.now (length (items a)) x) a.table.now
      → b.table.ghost_name ≡ a.table.ghost_name → Added a (x ∷ []) b
  added_one a b x less is-items is-table lends =
      let free : has_room a ≡ true = lt-ltb _ _ less in
      let pushed : items b ≡ items a ++ (x ∷ []) = is-items ∙ cond-true _ _ _ free in
      let written : b.table.now ≡ set a.table.now (length (items a)) x = is-table ∙ cond-true _ _ _ free in
      let more : length (items b) ≡ length (items a) + 1 = ap length pushed ∙ length_push (items a) x in
      record {
        holds = pushed;
        same_room = ap length written ∙ length-set a.table.now (length (items a)) x;
        rest = ap (drop (length (items b))) written ∙ drop-set-lt (length (items b)) a.table.now (length (items a)) x (omega arith);
        lends = lends;
      }

  take-least : (n : ℕ) (s : Sequence X) → take (length (take n s)) s ≡ take n s
  take-least n s =
      elim (cases_lt n (length s)) [
        | inl less ↦ ap (λ m. take m s) (length-take-le n s (omega arith))
        | inr more ↦ ap (λ t. take (length t) s) (take_all n s more) ∙ take_all (length s) s (omega arith) ∙ sym (take_all n s more)
      ]

  pub added_none : (a : List X) → Added a [] a
  added_none a = record { holds = sym (append-nil (items a)); same_room = refl; rest = refl; lends = refl }

  pub added_more : (a b c : List X) (xs ys : Sequence X) → Added a xs b → Added b ys c → Added a (xs ++ ys) c
  added_more a b c xs ys h k =
      let joined : items c ≡ (items a ++ xs) ++ ys = k.holds ∙ ap (λ l. l ++ ys) h.holds in
      let m : ℕ = length (items b) in
      let n : ℕ = length (items c) in
      let longer : n ≡ m + (n - m) = omega (arith, ap length k.holds ∙ length-append (items b) ys) in
      let later : drop n b.table.now ≡ drop n a.table.now =
      ap (λ i. drop i b.table.now) longer ∙ sym (drop-drop (n - m) m b.table.now)
      ∙ ap (drop (n - m)) h.rest ∙ drop-drop (n - m) m a.table.now ∙ ap (λ i. drop i a.table.now) (sym longer) in
      record {
        holds = joined ∙ append_assoc (items a) xs ys;
        same_room = k.same_room ∙ h.same_room;
        rest = k.rest ∙ later;
        lends = k.lends ∙ h.lends;
      }

  pub items_fit : (a : List X) → length (items a) ≤ room a
  items_fit a = simp length-take (omega arith)

  -- there is room for another item while fewer were added than fit
  pub room_for_more : (a b : List X) (xs : Sequence X) → Added a xs b → length (items a) + length xs < room a → length (items b) < room b
  room_for_more a b xs h fits = omega (arith, ap length h.holds ∙ length-append (items a) xs, h.same_room)

  -- the table then: the items, and behind them what it held before
  pub added_table : (a b : List X) (xs : Sequence X) → Added a xs b → b.table.now ≡ items b ++ drop (length (items b)) a.table.now
  added_table a b xs h =
      let t = b.table.now in
      sym (take-append-drop (length (items b)) t) ∙ ap (λ s. s ++ drop (length (items b)) t) (take-least b.len t) ∙ ap (λ s. items b ++ s) h.rest
