-- Lists cut into parts of one length, and lists joined from parts. Assumes nothing.
use Rattle.std.proofs.Common.{◌≡◌, ℕ, zero, suc, ◌+◌, ◌*◌, ◌<◌, ◌≤◌, List, [], ◌∷◌, ◌++◌, length, map, get_or, take, drop, sym, refl, ap, ◌∙◌, inl, inr, mul-le-mul_left, mul-zero, mul-suc, arith, length-append, length-drop, length-take, take-add}
use Rattle.std.specs.List.{flat_map, AllByRecursion}
use Rattle.std.proofs.ByRecursion.{All-append}
use Rattle.std.proofs.lemmas.List.{take-append-le, drop-append-le, drop_at, take_all, take_more, flat_map_more, drop-drop}
use Rattle.std.proofs.lemmas.List.Concat.{flat_map_single}
use Rattle.std.specs.Simd.{first_chunks}
use Rattle.std.proofs.lemmas.Bool.{cases_order}
use Rattle.block.specs.Parts.{part, each}

module _ {X : Type 0} where
  pub each_same : (f g : ℕ → List X) (n : ℕ) → ((k : ℕ) → k < n → f k ≡ g k) → each f n ≡ each g n
  each_same f g zero same = refl
  each_same f g (suc n) same =
      ap (λ s. s ++ f n) (each_same f g n (λ k less. same k (omega arith))) ∙ ap (λ s. each g n ++ s) (same n (omega arith))

  -- the parts of a list, joined, are the list
  pub each_part : (w n : ℕ) (s : List X) → each (λ k. part w k s) n ≡ take (w * n) s
  each_part w zero s = ap (λ m. take m s) (sym (mul-zero w))
  each_part w (suc n) s =
      ap (λ t. t ++ part w n s) (each_part w n s) ∙ sym (take-add (w * n) w s) ∙ ap (λ m. take m s) (sym (mul-suc w n))

  pub length-each : (w : ℕ) (f : ℕ → List X) (n : ℕ) → ((k : ℕ) → k < n → length (f k) ≡ w) → length (each f n) ≡ w * n
  length-each w f zero long = omega (arith, mul-zero w)
  length-each w f (suc n) long =
      let before = length-each w f n (λ k less. long k (omega arith)) in
      omega (arith, length-append (each f n) (f n), before, long n (omega arith), mul-suc w n)

  -- what was joined up to a place is no longer than what is joined further on
  pub each_grows : (f : ℕ → List X) (n k : ℕ) → k < n → length (each f k) + length (f k) ≤ length (each f n)
  each_grows f zero k less = absurd (omega arith)
  each_grows f (suc n) k less =
      elim (cases_order k n) [
        | inl same ↦ rw (same, length-append (each f n) (f n)) (omega arith)
        | inr other ↦ elim other [
          | inl below ↦ omega (arith, each_grows f n k below, length-append (each f n) (f n))
          | inr above ↦ absurd (omega arith)
        ]
      ]

  -- a part that lies in the front of a list
  pub part-front : (w k : ℕ) (s t : List X) → w * k + w ≤ length s → part w k (s ++ t) ≡ part w k s
  part-front w k s t fits =
      ap (take w) (drop-append-le (w * k) s t (omega arith)) ∙ take-append-le w (drop (w * k) s) t (omega (arith, length-drop (w * k) s))

  -- a part of what was joined, where all that was joined has the length of a part, but for the last, which may be shorter
  pub part-each : (w : ℕ) (f : ℕ → List X) (n : ℕ) → ((k : ℕ) → k + 1 < n → length (f k) ≡ w) → ((k : ℕ) → k < n → length (f k) ≤ w)
      → (k : ℕ) → k < n → part w k (each f n) ≡ f k
  part-each w f zero full short k less = absurd (omega arith)
  part-each w f (suc n) full short k less =
      let before : length (each f n) ≡ w * n = length-each w f n (λ j l. full j (omega arith)) in
      elim (cases_order k n) [
        | inl same ↦
            let past : drop (w * k) (each f n ++ f n) ≡ f n = drop_at (each f n) (f n) (w * k) (before ∙ ap (λ m. w * m) (sym same)) in
            ap (take w) past ∙ take_all w (f n) (short n (omega arith)) ∙ ap f (sym same)
        | inr other ↦ elim other [
          | inl below ↦
              let steps : w * suc k ≤ w * n = mul-le-mul_left w below in
              let end : w * k + w ≤ length (each f n) = omega (arith, mul-suc w k, before, steps) in
              part-front w k (each f n) (f n) end
              ∙ part-each w f n (λ j l. full j (omega arith)) (λ j l. short j (omega arith)) k below
          | inr above ↦ absurd (omega arith)
        ]
      ]

  -- a part that lies inside the list is whole
  pub length_part : (w k : ℕ) (s : List X) → w * k + w ≤ length s → length (part w k s) ≡ w
  length_part w k s fits = simp (length-take, length-drop) (omega arith)

  -- the pieces that a list is cut into are its parts
  part_next : (w k : ℕ) (s : List X) → part w k (drop w s) ≡ part w (suc k) s
  part_next w k s = ap (take w) (drop-drop (w * k) w s ∙ ap (λ m. drop m s) (omega (arith, mul-suc w k)))

  pub length_pieces : (w n : ℕ) (s : List X) → length (first_chunks w n s) ≡ n
  length_pieces w zero s = refl
  length_pieces w (suc n) s = ap suc (length_pieces w n (drop w s))

  pub piece_at : (w n : ℕ) (s : List X) (k : ℕ) (d : List X) → k < n → get_or (first_chunks w n s) k d ≡ part w k s
  piece_at w zero s k d less = absurd (omega arith)
  piece_at w (suc n) s zero d less = ap (λ m. take w (drop m s)) (sym (mul-zero w))
  piece_at w (suc n) s (suc k) d less = piece_at w n (drop w s) k d (omega arith) ∙ part_next w k s

  pub take-pieces : (w n : ℕ) (s : List X) (k : ℕ) → k ≤ n → take k (first_chunks w n s) ≡ first_chunks w k s
  take-pieces w n s zero fits = refl
  take-pieces w zero s (suc k) fits = absurd (omega arith)
  take-pieces w (suc n) s (suc k) fits = ap (λ t. take w s ∷ t) (take-pieces w n (drop w s) k (omega arith))

  piece_more : (w n : ℕ) (s : List X) → first_chunks w (suc n) s ≡ first_chunks w n s ++ (part w n s ∷ [])
  piece_more w zero s = ap (λ m. take w (drop m s) ∷ []) (sym (mul-zero w))
  piece_more w (suc n) s =
      ap (λ t. take w s ∷ t) (piece_more w n (drop w s)) ∙ ap (λ t. take w s ∷ (first_chunks w n (drop w s) ++ (t ∷ []))) (part_next w n s)

  -- the items of a list, joined one by one
  pub each_item : (s : List X) (d : X) (n : ℕ) → n ≤ length s → each (λ k. get_or s k d ∷ []) n ≡ take n s
  each_item s d zero fits = refl
  each_item s d (suc n) fits =
      let on : n + 1 ≡ suc n = omega arith in
      ap (λ t. t ++ (get_or s n d ∷ [])) (each_item s d n (omega arith)) ∙ sym (take_more s n d fits) ∙ ap (λ m. take m s) on

  pub all-each : (P : X → Type 0) (f : ℕ → List X) (n : ℕ) → ((k : ℕ) → k < n → AllByRecursion P (f k)) → AllByRecursion P (each f n)
  all-each P f zero each-one = tt
  all-each P f (suc n) each-one = All-append P (each f n) (f n) (all-each P f n (λ k less. each-one k (omega arith))) (each-one n (omega arith))

module _ {X Y : Type 0} (f : X → List Y) where
  pub joined_push : (xs : List X) (x : X) → flat_map f (xs ++ (x ∷ [])) ≡ flat_map f xs ++ f x
  joined_push xs x = sym (flat_map_more f [] xs x)
  -- what is joined of a list's pieces

module _ {X Y : Type 0} (w : ℕ) where
  pub pieces_joined : (f : List X → List Y) (n : ℕ) (s : List X) → flat_map f (first_chunks w n s) ≡ each (λ k. f (part w k s)) n
  pieces_joined f zero s = refl
  pieces_joined f (suc n) s =
      ap (flat_map f) (piece_more w n s) ∙ joined_push f (first_chunks w n s) (part w n s) ∙ ap (λ t. t ++ f (part w n s)) (pieces_joined f n s)

  pub pieces_mapped : (f : List X → Y) (n : ℕ) (s : List X) → map f (first_chunks w n s) ≡ each (λ k. f (part w k s) ∷ []) n
  pieces_mapped f n s = sym (flat_map_single f (first_chunks w n s)) ∙ pieces_joined (λ t. f t ∷ []) n s

module _ {X Y : Type 0} (f : X → List Y) where
  -- where each item gives w items, a part of what is joined is what an item gives
  module _ (w : ℕ) (wide : (x : X) → length (f x) ≡ w) where
    pub length_joined : (xs : List X) → length (flat_map f xs) ≡ w * length xs
    length_joined [] = sym (mul-zero w)
    length_joined (x ∷ xs) = omega (arith, length-append (f x) (flat_map f xs), wide x, length_joined xs, mul-suc w (length xs))

    joined_each : (d : X) (xs : List X) (n : ℕ) → n ≤ length xs → flat_map f (take n xs) ≡ each (λ k. f (get_or xs k d)) n
    joined_each d xs zero fits = refl
    joined_each d xs (suc n) fits =
        let on : suc n ≡ n + 1 = omega arith in
        ap (λ m. flat_map f (take m xs)) on ∙ ap (flat_map f) (take_more xs n d fits) ∙ joined_push f (take n xs) (get_or xs n d)
        ∙ ap (λ t. t ++ f (get_or xs n d)) (joined_each d xs n (omega arith))

    pub part_joined : (d : X) (xs : List X) (k : ℕ) → k < length xs → part w k (flat_map f xs) ≡ f (get_or xs k d)
    part_joined d xs k less =
        let all : flat_map f xs ≡ each (λ j. f (get_or xs j d)) (length xs) =
        ap (flat_map f) (sym (take_all (length xs) xs (omega arith))) ∙ joined_each d xs (length xs) (omega arith) in
        ap (part w k) all ∙ part-each w (λ j. f (get_or xs j d)) (length xs) (λ j _. wide (get_or xs j d)) (λ j _. omega (arith, wide (get_or xs j d))) k less
