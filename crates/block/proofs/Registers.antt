-- The blocks of a register give its entries; blocks that are not refused are those of the entries that they give. Assumes nothing.
use Rattle.std.proofs.Common.{◌≡◌, ℕ, zero, suc, ◌+◌, ◌*◌, ◌%◌, ◌<◌, ◌≤◌, Bool, true, false, not, eqb, leb, ◌⊎◌, List, [], length, get_or, drop, Some, None, Ok, Err, Option, sym, refl, ap, ◌∙◌, subst, inl, inr, zero-add, arith, length-append, length-drop, length-take}
use Rattle.std.specs.List.{All, AllByRecursion, flat_map, enumerate_from}
use Rattle.std.proofs.ByRecursion.{All-take, All-drop}
use Rattle.std.proofs.lemmas.List.{take_all}
use Rattle.std.proofs.lemmas.Bool.{and_parts, and_from, eqb-true, eqb-false, eq-eqb, ne_eqb, le-leb, leb-true, cases_Bool, not-false, not_from_true}
use Rattle.std.proofs.lemmas.List.Sums.{sum_by-le}
use Rattle.std.proofs.lemmas.List.FromFn.{length-enumerate_from, get_or-enumerate_from}
use Rattle.register.specs.declared.entry.Entry.{Entry}
use Rattle.block.specs.declared.unpacking.UnpackFault.TheVariants.{NotBlocks, WrongSum, WrongForm}
use Rattle.block.specs.Parts.{part, each}
use Rattle.block.specs.Entries.{Fits}
use Rattle.block.specs.Blocks.{block_size, per_block, block, count_of, entries_of, sum_right, count_right, form_right}
use Rattle.block.specs.Packing.{most_blocks, needed, blocks, packed}
use Rattle.block.specs.Unpacking.{block_count, whole, blocks_in, wrong_sum, wrong_form, unpacked, Judged}
use Rattle.block.specs.Theorems.{Register, OneForm}
use Rattle.block.proofs.Parts.{each_same, each_part, length-each, part-each, length_part, length_pieces, piece_at, pieces_joined, all-each}
use Rattle.block.proofs.Questions.{none_found, none_there}
use Rattle.block.proofs.Blocks.{block-long, sum-stands, form_stands, entries_stand, form_parts, count_long, block_in, entries_fit}
use Rattle.common.proofs.Numbers.{typed_take, typed_drop}

-- the entries of the first n blocks
abbrev entries_in : List ℕ → ℕ → List Entry
entries_in bytes n = each (λ i. entries_of (part block_size i bytes)) n

-- n whole blocks, of which every question says yes
record Right (bytes : List ℕ) (n : ℕ) : Type 0 where
  pub long : block_size * n ≡ length bytes
  pub sums : (i : ℕ) → i < n → sum_right (part block_size i bytes) ≡ true
  pub forms : (i : ℕ) → i < n → form_right n i (part block_size i bytes) ≡ true

-- the questions of a whole list of blocks, block by block
module _ (bytes : List ℕ) where
  abbrev count : ℕ
  count = block_count bytes

  many : length (blocks_in bytes) ≡ count
  many = length_pieces block_size count bytes

  here : (i : ℕ) → i < count → get_or (blocks_in bytes) i [] ≡ part block_size i bytes
  here i less = piece_at block_size count bytes i [] less

  wrong-sum_at : List ℕ → Bool
  wrong-sum_at b = not (sum_right b)

  wrong-form_at : ℕ × List ℕ → Bool
  wrong-form_at p = not (form_right (length (blocks_in bytes)) p.0 p.1)

  form_here : (i : ℕ) → i < count → wrong-form_at (get_or (enumerate_from 0 (blocks_in bytes)) i (0, [])) ≡ not (form_right count i (part block_size i bytes))
  unfolding wrong-form_at
  form_here i less =
      ap wrong-form_at (get_or-enumerate_from 0 (blocks_in bytes) i (0, []) (omega (arith, many)))
      ∙ ap (λ j. wrong-form_at (j, get_or (blocks_in bytes) i [])) (zero-add i) ∙ ap (λ b. wrong-form_at (i, b)) (here i less) ∙ ap (λ n. not (form_right n i (part block_size i bytes))) many

  sums_right : wrong_sum (blocks_in bytes) ≡ None → (i : ℕ) → i < count → sum_right (part block_size i bytes) ≡ true
  unfolding wrong-sum_at
  sums_right none i less =
      not-false _ (ap wrong-sum_at (sym (here i less)) ∙ none_there wrong-sum_at [] (blocks_in bytes) none i (omega (arith, many)))

  sums_none : ((i : ℕ) → i < count → sum_right (part block_size i bytes) ≡ true) → wrong_sum (blocks_in bytes) ≡ None
  unfolding wrong-sum_at
  sums_none right =
      none_found wrong-sum_at [] (blocks_in bytes) (λ i less. ap wrong-sum_at (here i (omega (arith, many))) ∙ not_from_true _ (right i (omega (arith, many))))

  forms_right : wrong_form (blocks_in bytes) ≡ None → (i : ℕ) → i < count → form_right count i (part block_size i bytes) ≡ true
  unfolding wrong-form_at
  forms_right none i less =
      not-false _ (sym (form_here i less)
      ∙ none_there wrong-form_at (0, []) (enumerate_from 0 (blocks_in bytes)) none i (omega (arith, many, length-enumerate_from 0 (blocks_in bytes))))

  forms_none : ((i : ℕ) → i < count → form_right count i (part block_size i bytes) ≡ true) → wrong_form (blocks_in bytes) ≡ None
  unfolding wrong-form_at
  forms_none right =
      none_found wrong-form_at (0, []) (enumerate_from 0 (blocks_in bytes)) (λ i less.
      let below : i < count = omega (arith, many, length-enumerate_from 0 (blocks_in bytes)) in
      form_here i below ∙ not_from_true _ (right i below))

-- the answers, question by question
module _ (bytes : List ℕ) where
  pub not_blocks : whole bytes ≡ false → unpacked bytes ≡ Err NotBlocks
  unfolding unpacked
  not_blocks bad = rw bad

  module _ (yes-whole : whole bytes ≡ true) where
    pub bad_sum : (i : ℕ) → wrong_sum (blocks_in bytes) ≡ Some i → unpacked bytes ≡ Err (WrongSum i)
    unfolding unpacked
    bad_sum i bad = rw (yes-whole, bad)

    module _ (sums : wrong_sum (blocks_in bytes) ≡ None) where
      pub bad_form : (i : ℕ) → wrong_form (blocks_in bytes) ≡ Some i → unpacked bytes ≡ Err (WrongForm i)
      unfolding unpacked
      bad_form i bad = rw (yes-whole, sums, bad)

      pub accepted : wrong_form (blocks_in bytes) ≡ None → unpacked bytes ≡ Ok (flat_map entries_of (blocks_in bytes))
      unfolding unpacked
      accepted forms = rw (yes-whole, sums, forms)

none_or_some : (o : Option ℕ) → (o ≡ None) ⊎ ((i : ℕ) × (o ≡ Some i))
none_or_some None = inl refl
none_or_some (Some i) = inr (i, refl)

-- where bytes are not refused, every question said yes
asked : (bytes : List ℕ) (es : List Entry) → unpacked bytes ≡ Ok es
    → (whole bytes ≡ true) × (wrong_sum (blocks_in bytes) ≡ None) × (wrong_form (blocks_in bytes) ≡ None) × (es ≡ flat_map entries_of (blocks_in bytes))
asked bytes es is =
    elim (cases_Bool (whole bytes)) [
      | inr bad ↦ let e = not_blocks bytes bad in let z : ◌≡◌ {A = ℕ} 0 1 = cc in absurd (omega arith)
      | inl yes-whole ↦ elim (none_or_some (wrong_sum (blocks_in bytes))) [
        | inr bad ↦ let e = bad_sum bytes yes-whole bad.0 bad.1 in let z : ◌≡◌ {A = ℕ} 0 1 = cc in absurd (omega arith)
        | inl sums ↦ elim (none_or_some (wrong_form (blocks_in bytes))) [
          | inr bad ↦ let e = bad_form bytes yes-whole sums bad.0 bad.1 in let z : ◌≡◌ {A = ℕ} 0 1 = cc in absurd (omega arith)
          | inl forms ↦ let e = accepted bytes yes-whole sums forms in (yes-whole, sums, forms, cc)
        ]
      ]
    ]

-- whole blocks, and not too many
pub is_whole : (bytes : List ℕ) → length bytes % block_size ≡ 0 → block_count bytes ≤ most_blocks → whole bytes ≡ true
is_whole bytes exact few = and_from (eqb (length bytes % block_size) 0) (leb (block_count bytes) most_blocks) (eq-eqb (length bytes % block_size) 0 exact) (le-leb (block_count bytes) most_blocks few)

pub whole_parts : (bytes : List ℕ) → whole bytes ≡ true → (block_size * block_count bytes ≡ length bytes) × (block_count bytes ≤ most_blocks)
whole_parts bytes is =
    let both = and_parts (eqb (length bytes % block_size) 0) (leb (block_count bytes) most_blocks) is in
    let exact : length bytes % block_size ≡ 0 = eqb-true (length bytes % block_size) 0 both.0 in
    (omega arith, leb-true (block_count bytes) most_blocks both.1)

-- a count that is right
pub count-full : (count : ℕ) → count_right false count ≡ true → count ≡ per_block
count-full count right = eqb-true count per_block right

pub count-few : (last : Bool) (count : ℕ) → count_right last count ≡ true → (1 ≤ count) × (count ≤ per_block)
count-few true count right =
    let both = and_parts (leb 1 count) (leb count per_block) right in
    (leb-true 1 count both.0, leb-true count per_block both.1)
count-few false count right = let full = count-full count right in (omega arith, omega arith)

-- blocks of which every question says yes
counts_right : (bytes : List ℕ) → wrong_form (blocks_in bytes) ≡ None → All (λ b. count_of b ≤ per_block) (blocks_in bytes)
counts_right bytes forms i d less =
    let count = block_count bytes in
    let below : i < count = omega (arith, many bytes) in
    let right = (form_parts count i (part block_size i bytes) (forms_right bytes forms i below)).0 in
    subst (λ b. count_of b ≤ per_block) (sym (piece_at block_size count bytes i d below)) (count-few (eqb (i + 1) count) (count_of (part block_size i bytes)) right).1

pub judged : (bytes : List ℕ) (cut : List (List ℕ)) → cut ≡ blocks_in bytes → whole bytes ≡ true → wrong_sum cut ≡ None → wrong_form cut ≡ None → Judged bytes cut
judged bytes cut is yes-whole sums forms =
    let forms-in : wrong_form (blocks_in bytes) ≡ None = ap wrong_form (sym is) ∙ forms in
    let counts = counts_right bytes forms-in in
    subst (Judged bytes) (sym is) (record {
      few = omega (arith, many bytes, (whole_parts bytes yes-whole).1, sum_by-le count_of per_block (blocks_in bytes) counts);
      counts = counts;
      entries = accepted bytes yes-whole (ap wrong_sum (sym is) ∙ sums) forms-in;
    })

-- the blocks of a register
module _ (es : List Entry) where
  abbrev n : ℕ
  n = needed es

  short : (i : ℕ) → length (part per_block i es) ≤ per_block
  short i = simp length-take (omega arith)

  pub packed-long : length (packed es) ≡ block_size * needed es
  unfolding packed
  packed-long = length-each block_size (λ i. block i (part per_block i es)) n (λ k _. block-long k (part per_block k es) (short k))

  at : (i : ℕ) → i < n → part block_size i (packed es) ≡ block i (part per_block i es)
  unfolding packed
  at i less =
      let f : ℕ → List ℕ = λ k. block k (part per_block k es) in
      part-each block_size f n (λ k _. block-long k (part per_block k es) (short k)) (λ k _. omega (arith, block-long k (part per_block k es) (short k))) i less

  counted : block_count (packed es) ≡ n
  counted = omega (arith, packed-long)

  all_whole : n ≤ most_blocks → whole (packed es) ≡ true
  all_whole few =
      is_whole (packed es) (omega (arith, packed-long)) (omega (arith, packed-long))

  count-stands : (i : ℕ) → i < n → count_right (eqb (i + 1) n) (length (part per_block i es)) ≡ true
  count-stands i less =
      let size : length (part per_block i es) ≡ _ = length-take per_block (drop (per_block * i) es) in
      let rest = length-drop (per_block * i) es in
      elim (cases_Bool (eqb (i + 1) n)) [
        | inl last ↦
            let is = eqb-true (i + 1) n last in
            ap (λ b. count_right b (length (part per_block i es))) last
            ∙ and_from (leb 1 (length (part per_block i es))) (leb (length (part per_block i es)) per_block) (le-leb 1 (length (part per_block i es)) (omega arith)) (le-leb (length (part per_block i es)) per_block (omega arith))
        | inr inner ↦
            let more : suc i < n = omega (arith, eqb-false (i + 1) n inner) in
            ap (λ b. count_right b (length (part per_block i es))) inner ∙ eq-eqb (length (part per_block i es)) per_block (omega arith)
      ]

  pub unpacked-back : Register es → unpacked (packed es) ≡ Ok es
  unpacked-back register =
      let few : n ≤ most_blocks = register.few in
      let sums : (i : ℕ) → i < n → sum_right (part block_size i (packed es)) ≡ true =
      λ i less. ap sum_right (at i less) ∙ sum-stands i (part per_block i es) (short i) in
      let forms : (i : ℕ) → i < n → form_right n i (part block_size i (packed es)) ≡ true =
      λ i less. ap (form_right n i) (at i less) ∙ form_stands i (part per_block i es) (short i) n (omega arith) (count-stands i less) in
      let entries : entries_in (packed es) n ≡ es =
      each_same (λ i. entries_of (part block_size i (packed es))) (λ i. part per_block i es) n
      (λ i less. ap entries_of (at i less) ∙ entries_stand i (part per_block i es) (short i) (All-take Fits per_block (drop (per_block * i) es) (All-drop Fits (per_block * i) es register.fits)))
      ∙ each_part per_block n es ∙ take_all (per_block * n) es (omega arith) in
      accepted (packed es) (all_whole few)
      (sums_none (packed es) (subst (λ m. (i : ℕ) → i < m → sum_right (part block_size i (packed es)) ≡ true) (sym counted) sums))
      (forms_none (packed es) (subst (λ m. (i : ℕ) → i < m → form_right m i (part block_size i (packed es)) ≡ true) (sym counted) forms))
      ∙ ap Ok (pieces_joined block_size entries_of (block_count (packed es)) (packed es) ∙ ap (entries_in (packed es)) counted ∙ entries)

pub unpacked_again : (bytes : List ℕ) (es : List Entry) → Register es → bytes ≡ packed es → unpacked bytes ≡ Ok es
unpacked_again bytes es register is = ap unpacked is ∙ unpacked-back es register

-- blocks of which every question says yes
module _ (bytes : List ℕ) (typed : (i : ℕ) → get_or bytes i 0 < 256) (n : ℕ) (right : Right bytes n) where
  abbrev b : ℕ → List ℕ
  b i = part block_size i bytes

  abbrev in_block : ℕ → List Entry
  in_block i = entries_of (part block_size i bytes)

  b_typed : (i k : ℕ) → get_or (b i) k 0 < 256
  b_typed i = typed_take block_size (drop (block_size * i) bytes) (typed_drop bytes typed (block_size * i))

  b_long : (i : ℕ) → i < n → length (b i) ≡ block_size
  b_long i less = length_part block_size i bytes (omega (arith, right.long))

  count_at : (i : ℕ) → i < n → count_right (eqb (i + 1) n) (count_of (b i)) ≡ true
  count_at i less = (form_parts n i (b i) (right.forms i less)).0

  few-at : (i : ℕ) → i < n → (1 ≤ count_of (b i)) × (count_of (b i) ≤ per_block)
  few-at i less = count-few (eqb (i + 1) n) (count_of (b i)) (count_at i less)

  held : (i : ℕ) → i < n → length (in_block i) ≡ count_of (b i)
  held i less = count_long (b i)

  held-full : (i : ℕ) → i + 1 < n → length (in_block i) ≡ per_block
  held-full i more =
      let less : i < n = omega arith in
      let inner : eqb (i + 1) n ≡ false = ne_eqb (i + 1) n (λ e. omega arith) in
      held i less ∙ count-full (count_of (b i)) (subst (λ last. count_right last (count_of (b i)) ≡ true) inner (count_at i less))

  held-few : (i : ℕ) → i < n → length (in_block i) ≤ per_block
  held-few i less = omega (arith, held i less, (few-at i less).1)

  abbrev all : List Entry
  all = entries_in bytes n

  bytes_are : bytes ≡ blocks n all
  bytes_are =
      sym (take_all (block_size * n) bytes (omega (arith, right.long))) ∙ sym (each_part block_size n bytes)
      ∙ each_same (λ i. part block_size i bytes) (λ i. block i (part per_block i all)) n
      (λ i less. block_in (b i) (b_typed i) (b_long i less) n i (right.forms i less) (few-at i less).1 (right.sums i less)
      ∙ ap (block i) (sym (part-each per_block in_block n held-full held-few i less)))

  fit : AllByRecursion Fits all
  fit = all-each Fits in_block n (λ i less. entries_fit (b i) (b_typed i) (b_long i less) (few-at i less).1)

-- how many entries there are
entries_long : (bytes : List ℕ) (m : ℕ) → ((k : ℕ) → k < m → length (entries_of (part block_size k bytes)) ≡ per_block)
    → length (entries_in bytes (suc m)) ≡ per_block * m + length (entries_of (part block_size m bytes))
entries_long bytes m full =
    let in_block : ℕ → List Entry = λ i. entries_of (part block_size i bytes) in
    omega (arith, length-append (each in_block m) (in_block m), length-each per_block in_block m full)

module _ (bytes : List ℕ) (typed : (i : ℕ) → get_or bytes i 0 < 256) where
  -- all blocks but the last are full
  entries_count : (m : ℕ) → Right bytes (suc m) → per_block * m + count_of (part block_size m bytes) ≡ length (entries_in bytes (suc m))
  entries_count m right =
      let size = entries_long bytes m (λ k less. held-full bytes typed (suc m) right k (omega arith)) in
      omega (arith, held bytes typed (suc m) right m (omega arith))

  needed_are : (n : ℕ) → Right bytes n → needed (entries_in bytes n) ≡ n
  needed_are zero right = refl
  needed_are (suc m) right =
      let some = few-at bytes typed (suc m) right m (omega arith) in
      omega (arith, entries_count m right, some.0, some.1)

  pub packed_only : (es : List Entry) → unpacked bytes ≡ Ok es → Register es × (bytes ≡ packed es)
  unfolding packed
  packed_only es is =
      let n : ℕ = block_count bytes in
      let said = asked bytes es is in
      let both = whole_parts bytes said.0 in
      let right : Right bytes n = record { long = both.0; sums = sums_right bytes said.1; forms = forms_right bytes said.2 } in
      let all : List Entry = entries_in bytes n in
      let size : needed all ≡ n = needed_are n right in
      let entries : Register all × (bytes ≡ packed all) = (
        record { fits = fit bytes typed n right; few = subst (λ m. m ≤ most_blocks) (sym size) both.1 },
        bytes_are bytes typed n right ∙ ap (λ m. blocks m all) (sym size),
      ) in
      subst (λ x. Register x × (bytes ≡ packed x)) (sym (said.3 ∙ pieces_joined block_size entries_of n bytes)) entries

pub one_form : OneForm
one_form = record { back = unpacked-back; only = λ bytes es typed is. packed_only bytes typed es is }
