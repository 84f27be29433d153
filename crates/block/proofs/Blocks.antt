-- A block that was written is right and gives its entries; a block that is right is the one that is written of its entries. Assumes nothing.
use Rattle.std.proofs.Common.{◌≡◌, ℕ, zero, suc, ◌+◌, ◌-◌, ◌*◌, ◌^◌, ◌<◌, ◌≤◌, true, ◌&&◌, eqb, List, [], ◌∷◌, ◌++◌, length, get_or, take, drop, replicate, sym, refl, ap, ◌∙◌, subst, append_assoc, append-nil, mul-suc, arith, length-append, length-drop, take-append-drop, length-take, take-add}
use lib.ListN.{length-replicate}
use borrow.Rule.Slice.PartMut.{put_mid}
use Rattle.std.specs.List.{flat_map, sum_by, AllByRecursion}
use Rattle.std.specs.Simd.{first_chunks}
use Rattle.std.proofs.ByRecursion.{All-get_or}
use Rattle.std.proofs.lemmas.List.{take_at, drop_at, drop-drop, take-take, length-map, take_all, drop-replicate, replicate-append-replicate}
use Rattle.std.proofs.lemmas.List.Sums.{sum_by-cons}
use Rattle.std.proofs.lemmas.Bool.{and_parts, and_from, eqb-true, eq-eqb}
use Rattle.common.specs.Numbers.{number, le}
use Rattle.common.proofs.Numbers.{number-le, typed_take, typed_drop}
use Rattle.framing.specs.Checksum.{checksum}
use Rattle.register.specs.declared.entry.Entry.{Entry}
use Rattle.block.specs.Parts.{part, each, all_zero}
use Rattle.block.specs.Entries.{entry_size, entry_bytes, entry_of, Fits}
use Rattle.block.specs.Blocks.{block_size, entries_end, number_place, per_block, sum_place, zeros_place, front, block, count_of, number_of, sum_of, entries_of, sum_right, count_right, free_right, form_right}
use Rattle.block.proofs.Parts.{each_same, each_item, part-front, part_joined, length_joined, length_part, joined_push, all-each, pieces_mapped, length_pieces}
use Rattle.block.proofs.Questions.{zeros_zero, zero_is}
use Rattle.block.proofs.Cuts.{cut_take, put_at, le-take}
use Rattle.block.proofs.Codec.{entry_long, entry_back, bytes_back, fits-back}

pub checksum_below : (s : List ℕ) → checksum s < 65536
unfolding checksum
checksum_below s = omega arith

-- the entries of a block, one by one
pub entries_are : (b : List ℕ) → entries_of b ≡ each (λ k. entry_of (part entry_size k b) ∷ []) (count_of b)
entries_are b = pieces_mapped entry_size entry_of (count_of b) b

pub count_long : (b : List ℕ) → length (entries_of b) ≡ count_of b
count_long b = length-map (first_chunks entry_size (count_of b) b) entry_of ∙ length_pieces entry_size (count_of b) b

pub entries_count : (bs : List (List ℕ)) → length (flat_map entries_of bs) ≡ sum_by count_of bs
entries_count [] = refl
entries_count (b ∷ bs) = omega (arith, length-append (entries_of b) (flat_map entries_of bs), count_long b, entries_count bs, sum_by-cons count_of b bs)

-- a block that was written
module _ (n : ℕ) (es : List Entry) (few : length es ≤ per_block) where
  abbrev written : List ℕ
  written = flat_map entry_bytes es

  abbrev free : List ℕ
  free = replicate (entry_size * (per_block - length es)) 0

  abbrev tail : List ℕ
  tail = le 2 (length es) ++ (le 4 n ++ replicate 8 0)

  written_long : length written ≡ entry_size * length es
  written_long = length_joined entry_bytes entry_size entry_long es

  area_long : length (written ++ free) ≡ entries_end
  area_long = omega (arith, length-append written free, written_long, length-replicate {A = ℕ} (entry_size * (per_block - length es)) 0)

  front_is : front n es ≡ (written ++ free) ++ tail
  unfolding front
  front_is = sym (append_assoc written free tail)

  front_long : length (front n es) ≡ sum_place
  front_long = ap length front_is ∙ length-append (written ++ free) tail ∙ ap (λ m. m + 14) area_long

  abbrev sum : ℕ
  sum = checksum (front n es)

  block_is : block n es ≡ (written ++ free) ++ (tail ++ le 2 sum)
  unfolding block
  block_is = ap (λ t. t ++ le 2 sum) front_is ∙ append_assoc (written ++ free) tail (le 2 sum)

  -- a space of zeros, the entries written to its front, then the count and the number
  pub before-sum : (space count named : List ℕ) → space ≡ written ++ drop (entry_size * length es) (replicate block_size 0) → count ≡ le 2 (length es) → named ≡ le 4 n
      → put_mid number_place 4 (put_mid entries_end 2 space count) named ≡ front n es ++ replicate 2 0
  before-sum space count named is-space is-count is-named =
      let area : List ℕ = written ++ free in
      let left : block_size - entry_size * length es ≡ entry_size * (per_block - length es) + 16 = omega arith in
      let zeros : drop (entry_size * length es) (replicate block_size 0) ≡ free ++ replicate 16 0 =
      drop-replicate (entry_size * length es) block_size 0 ∙ ap (λ m. replicate m 0) left ∙ sym (replicate-append-replicate (entry_size * (per_block - length es)) 16 0) in
      let first : space ≡ area ++ replicate 16 0 = is-space ∙ ap (λ t. written ++ t) zeros ∙ sym (append_assoc written free (replicate 16 0)) in
      let counted : put_mid entries_end 2 space count ≡ (area ++ le 2 (length es)) ++ replicate 14 0 =
      ap (λ t. put_mid entries_end 2 t count) first ∙ put_at entries_end 2 area (replicate 2 0) (replicate 14 0) count area_long refl
      ∙ ap (λ t. area ++ (t ++ replicate 14 0)) is-count ∙ sym (append_assoc area (le 2 (length es)) (replicate 14 0)) in
      let far : length (area ++ le 2 (length es)) ≡ number_place = length-append area (le 2 (length es)) ∙ ap (λ m. m + 2) area_long in
      ap (λ t. put_mid number_place 4 t named) counted
      ∙ put_at number_place 4 (area ++ le 2 (length es)) (replicate 4 0) (replicate 10 0) named far refl
      ∙ ap (λ t. (area ++ le 2 (length es)) ++ (t ++ replicate 10 0)) is-named
      ∙ append_assoc area (le 2 (length es)) (le 4 n ++ replicate 10 0)
      ∙ sym (append_assoc area tail (replicate 2 0)) ∙ ap (λ t. t ++ replicate 2 0) (sym front_is)

  -- and the checksum
  pub with_sum : (space sum-bytes : List ℕ) → space ≡ front n es ++ replicate 2 0 → sum-bytes ≡ le 2 (checksum (take sum_place space))
      → put_mid sum_place 2 space sum-bytes ≡ block n es
  unfolding block
  with_sum space sum-bytes is-space is_sum =
      let same : take sum_place space ≡ front n es = ap (take sum_place) is-space ∙ take_at (front n es) (replicate 2 0) sum_place front_long in
      ap (λ t. put_mid sum_place 2 t sum-bytes) is-space ∙ put_at sum_place 2 (front n es) (replicate 2 0) [] sum-bytes front_long refl
      ∙ ap (λ t. front n es ++ t) (append-nil sum-bytes ∙ is_sum ∙ ap (λ t. le 2 (checksum t)) same)

  pub block-long : length (block n es) ≡ block_size
  block-long = ap length block_is ∙ length-append (written ++ free) (tail ++ le 2 sum) ∙ ap (λ m. m + 16) area_long

  -- what stands behind the entries
  behind : drop entries_end (block n es) ≡ tail ++ le 2 sum
  behind = ap (drop entries_end) block_is ∙ drop_at (written ++ free) (tail ++ le 2 sum) entries_end area_long

  behind-at : (k : ℕ) → drop (entries_end + k) (block n es) ≡ drop k (tail ++ le 2 sum)
  behind-at k = sym (drop-drop k entries_end (block n es)) ∙ ap (drop k) behind

  pub count_is : count_of (block n es) ≡ length es
  count_is = ap (λ t. number (take 2 t)) behind ∙ number-le 2 (length es) (omega arith)

  number_is : n < 2 ^ 32 → number_of (block n es) ≡ n
  number_is small = ap (λ t. number (take 4 t)) (behind-at 2) ∙ number-le 4 n small

  sum_is : sum_of (block n es) ≡ sum
  sum_is = ap (λ t. number (take 2 t)) (behind-at 14) ∙ number-le 2 sum (checksum_below (front n es))

  zeros_are : take 8 (drop zeros_place (block n es)) ≡ replicate 8 0
  zeros_are = ap (take 8) (behind-at 6)

  pub sum-stands : sum_right (block n es) ≡ true
  unfolding block
  sum-stands = eq-eqb _ _ (sum_is ∙ ap checksum (sym (take_at (front n es) (le 2 sum) sum_place front_long)))

  area_is : take entries_end (block n es) ≡ written ++ free
  area_is = ap (take entries_end) block_is ∙ take_at (written ++ free) (tail ++ le 2 sum) entries_end area_long

  free-stands : free_right (block n es) ≡ true
  free-stands =
      ap (λ c. all_zero (drop (entry_size * c) (take entries_end (block n es)))) count_is
      ∙ ap (λ t. all_zero (drop (entry_size * length es) t)) area_is
      ∙ ap all_zero (drop_at written free (entry_size * length es) written_long) ∙ zeros_zero (entry_size * (per_block - length es))

  pub form_stands : (m : ℕ) → n < 2 ^ 32 → count_right (eqb (n + 1) m) (length es) ≡ true → form_right m n (block n es) ≡ true
  form_stands m small count =
      and_from _ _ (ap (count_right (eqb (n + 1) m)) count_is ∙ count)
      (and_from _ _ (eq-eqb _ _ (number_is small)) (and_from _ _ (ap all_zero zeros_are) free-stands))

  entry_at : (k : ℕ) → k < length es → part entry_size k (block n es) ≡ entry_bytes (get_or es k (entry_of []))
  entry_at k less =
      let all : block n es ≡ written ++ (free ++ (tail ++ le 2 sum)) = block_is ∙ append_assoc written free (tail ++ le 2 sum) in
      ap (part entry_size k) all ∙ part-front entry_size k written (free ++ (tail ++ le 2 sum)) (omega (arith, written_long))
      ∙ part_joined entry_bytes entry_size entry_long (entry_of []) es k less

  pub entries_stand : AllByRecursion Fits es → entries_of (block n es) ≡ es
  entries_stand fit =
      let d : Entry = entry_of [] in
      entries_are (block n es) ∙ ap (λ c. each (λ k. entry_of (part entry_size k (block n es)) ∷ []) c) count_is
      ∙ each_same (λ k. entry_of (part entry_size k (block n es)) ∷ []) (λ k. get_or es k d ∷ []) (length es)
      (λ k less. ap (λ s. entry_of s ∷ []) (entry_at k less) ∙ ap (λ e. e ∷ []) (entry_back (get_or es k d) (All-get_or Fits es k d less fit)))
      ∙ each_item es d (length es) (omega arith) ∙ take_all (length es) es (omega arith)

-- what a right form says
pub form_parts : (m i : ℕ) (b : List ℕ) → form_right m i b ≡ true
    → (count_right (eqb (i + 1) m) (count_of b) ≡ true) × (number_of b ≡ i) × (all_zero (take 8 (drop zeros_place b)) ≡ true) × (free_right b ≡ true)
form_parts m i b form =
    let a = and_parts (count_right (eqb (i + 1) m) (count_of b)) (eqb (number_of b) i && (all_zero (take 8 (drop zeros_place b)) && free_right b)) form in
    let c = and_parts (eqb (number_of b) i) (all_zero (take 8 (drop zeros_place b)) && free_right b) a.1 in
    let d = and_parts (all_zero (take 8 (drop zeros_place b))) (free_right b) c.1 in
    (a.0, eqb-true (number_of b) i c.0, d.0, d.1)

-- where the other questions said yes, the free entries decide
pub form_free : (m i : ℕ) (b : List ℕ) → count_right (eqb (i + 1) m) (count_of b) ≡ true → number_of b ≡ i → all_zero (take 8 (drop zeros_place b)) ≡ true
    → form_right m i b ≡ free_right b
form_free m i b count is_number zeros =
    ap (λ x. x && (eqb (number_of b) i && (all_zero (take 8 (drop zeros_place b)) && free_right b))) count
    ∙ ap (λ x. x && (all_zero (take 8 (drop zeros_place b)) && free_right b)) (eq-eqb (number_of b) i is_number) ∙ ap (λ x. x && free_right b) zeros

-- bytes as they come, of which a block's tests say yes
module _ (b : List ℕ) (typed : (i : ℕ) → get_or b i 0 < 256) (long : length b ≡ block_size) where
  -- the bytes of the first n entries
  front-back : (n : ℕ) → entry_size * n ≤ block_size → flat_map entry_bytes (each (λ k. entry_of (part entry_size k b) ∷ []) n) ≡ take (entry_size * n) b
  front-back zero fits = refl
  front-back (suc n) fits =
      let es = each (λ k. entry_of (part entry_size k b) ∷ []) n in
      let there : length (part entry_size n b) ≡ entry_size = length_part entry_size n b (omega arith) in
      joined_push entry_bytes es (entry_of (part entry_size n b))
      ∙ ap (λ t. t ++ entry_bytes (entry_of (part entry_size n b))) (front-back n (omega arith))
      ∙ ap (λ t. take (entry_size * n) b ++ t) (bytes_back (part entry_size n b) (typed_take entry_size (drop (entry_size * n) b) (typed_drop b typed (entry_size * n))) there)
      ∙ sym (take-add (entry_size * n) entry_size b) ∙ ap (λ m. take m b) (sym (mul-suc entry_size n))

  module _ (m i : ℕ) (form : form_right m i b ≡ true) (few : count_of b ≤ per_block) where
    abbrev es : List Entry
    es = entries_of b

    abbrev space : List ℕ
    space = drop (entry_size * count_of b) (take entries_end b)

    numbered : number_of b ≡ i
    numbered = (form_parts m i b form).1

    zeros_in : replicate 8 0 ≡ take 8 (drop zeros_place b)
    zeros_in =
        let eight : length (take 8 (drop zeros_place b)) ≡ 8 = simp (length-take, length-drop) (omega arith) in
        sym (zero_is (take 8 (drop zeros_place b)) (form_parts m i b form).2 ∙ ap (λ n. replicate n 0) eight)

    free_in : replicate (entry_size * (per_block - length es)) 0 ≡ space
    free_in =
        let size : length space ≡ entry_size * (per_block - length es) = simp (length-drop, length-take) (omega (arith, count_long b)) in
        sym (zero_is space (form_parts m i b form).3 ∙ ap (λ n. replicate n 0) size)

    area_in : flat_map entry_bytes es ++ replicate (entry_size * (per_block - length es)) 0 ≡ take entries_end b
    area_in =
        ap (λ t. flat_map entry_bytes es ++ t) free_in ∙ ap (λ t. t ++ space) (ap (flat_map entry_bytes) (entries_are b) ∙ front-back (count_of b) (omega arith))
        ∙ ap (λ t. t ++ space) (sym (take-take (entry_size * count_of b) entries_end b (omega arith))) ∙ take-append-drop (entry_size * count_of b) (take entries_end b)

    pub front_in : front i es ≡ take sum_place b
    unfolding front
    front_in =
        let count : le 2 (length es) ≡ take 2 (drop entries_end b) = ap (le 2) (count_long b) ∙ le-take entries_end 2 b typed (omega arith) in
        let named : le 4 i ≡ take 4 (drop number_place b) = ap (le 4) (sym numbered) ∙ le-take number_place 4 b typed (omega arith) in
        sym (append_assoc (flat_map entry_bytes es) (replicate (entry_size * (per_block - length es)) 0) (le 2 (length es) ++ (le 4 i ++ replicate 8 0)))
        ∙ ap (λ t. t ++ (le 2 (length es) ++ (le 4 i ++ replicate 8 0))) area_in
        ∙ ap (λ t. take entries_end b ++ (t ++ (le 4 i ++ replicate 8 0))) count
        ∙ ap (λ t. take entries_end b ++ (take 2 (drop entries_end b) ++ (t ++ replicate 8 0))) named
        ∙ ap (λ t. take entries_end b ++ (take 2 (drop entries_end b) ++ (take 4 (drop number_place b) ++ t))) zeros_in
        ∙ sym (take-add entries_end 14 b ∙ ap (λ t. take entries_end b ++ t) (cut_take entries_end 2 12 b ∙ ap (λ t. take 2 (drop entries_end b) ++ t) (cut_take number_place 4 8 b)))

    pub block_in : sum_right b ≡ true → b ≡ block i es
    unfolding block
    block_in right =
        let sum : sum_of b ≡ checksum (take sum_place b) = eqb-true _ _ right in
        let last : drop sum_place b ≡ le 2 (checksum (front i es)) =
        sym (take_all 2 (drop sum_place b) (omega (arith, length-drop sum_place b))) ∙ sym (le-take sum_place 2 b typed (omega arith)) ∙ ap (le 2) (sum ∙ ap checksum (sym front_in)) in
        sym (take-append-drop sum_place b) ∙ ap (λ t. t ++ drop sum_place b) (sym front_in) ∙ ap (λ t. front i es ++ t) last

  pub entries_fit : count_of b ≤ per_block → AllByRecursion Fits (entries_of b)
  entries_fit few =
      subst (AllByRecursion Fits) (sym (entries_are b)) (all-each Fits (λ k. entry_of (part entry_size k b) ∷ []) (count_of b)
      (λ k less. (fits-back (part entry_size k b) (typed_take entry_size (drop (entry_size * k) b) (typed_drop b typed (entry_size * k))) (length_part entry_size k b (omega arith)), tt)))
