-- Entries and blocks written one behind the other. Assumes nothing.
use Rattle.std.proofs.Common.{◌≡◌, ℕ, ◌+◌, ◌*◌, ◌<◌, ◌≤◌, min, List, [], ◌++◌, length, take, drop, sym, ap, ◌∙◌, subst, inl, inr, append-nil, add-one, arith, length-append, length-drop, length-take, take-add}
use borrow.Rule.Slice.PartMut.{put_mid}
use Rattle.std.specs.List.{AllByRecursion}
use Rattle.std.proofs.ByRecursion.{All-append}
use Rattle.std.proofs.lemmas.List.{take_all, take_at, drop_at, drop_all, drop-drop}
use Rattle.std.proofs.lemmas.Bool.{cases_lt}
use Rattle.register.specs.declared.entry.Entry.{Entry}
use Rattle.block.specs.Parts.{part}
use Rattle.block.specs.Entries.{Fits}
use Rattle.block.specs.Blocks.{block_size, per_block, block}
use Rattle.block.specs.Packing.{needed, blocks}
use Rattle.block.proofs.Parts.{length-each}
use Rattle.block.proofs.Cuts.{put_next}
use Rattle.block.proofs.Blocks.{block-long}

module _ (es : List Entry) (k : ℕ) (before space new : List ℕ) (m : ℕ) where
  -- one block more
  pub block_more : block_size * k + block_size ≤ length before → m ≡ block_size
      → space ≡ blocks k es ++ drop (block_size * k) before → new ≡ block k (part per_block k es)
      → put_mid (block_size * k) m space new ≡ blocks (k + 1) es ++ drop (block_size * (k + 1)) before
  block_more fits size is-space is-new =
      let short : (i : ℕ) → length (part per_block i es) ≤ per_block = λ i. simp length-take (omega arith) in
      let long : length (blocks k es) ≡ block_size * k = length-each block_size (λ i. block i (part per_block i es)) k (λ i _. block-long i (part per_block i es) (short i)) in
      let more : blocks k es ++ new ≡ blocks (k + 1) es = ap (λ t. blocks k es ++ t) is-new ∙ ap (λ n. blocks n es) (sym (add-one k)) in
      ap (λ t. put_mid (block_size * k) m t new) is-space ∙ put_next block_size k m (blocks k es) before new size long fits ∙ ap (λ t. t ++ drop (block_size * (k + 1)) before) more

-- the entries of one block more fit
pub fit_more : (es : List Entry) (k : ℕ) → AllByRecursion Fits (take (per_block * k) es) → AllByRecursion Fits (part per_block k es) → AllByRecursion Fits (take (per_block * (k + 1)) es)
fit_more es k before here =
    let next : per_block * k + per_block ≡ per_block * (k + 1) = omega arith in
    subst (AllByRecursion Fits) (sym (take-add (per_block * k) per_block es) ∙ ap (λ n. take n es) next) (All-append Fits (take (per_block * k) es) (part per_block k es) before here)

-- the first k blocks of some entries are written to the front of a space, and the rest of the space is as it was; the other entries are left, to be cut into parts
pub record Written (es : List Entry) (before space : List ℕ) (left : List Entry) (size k : ℕ) : Type 0 where
  pub writes : space ≡ blocks k es ++ drop (block_size * k) before
  pub fit : AllByRecursion Fits (take (per_block * k) es)
  pub left_is : left ≡ drop (per_block * k) es
  pub size_is : size ≡ per_block
  pub few : k ≤ needed es

-- a part that is cut off the front of a list
cut_off : (s x t : List Entry) (w size : ℕ) → size ≡ w → s ≡ x ++ t → length x ≡ min size (length s) → (x ≡ take w s) × (t ≡ drop w s)
cut_off s x t w size same is long =
    elim (cases_lt (length s) w) [
      | inl short ↦
          let none : length t ≡ 0 = omega (arith, ap length is, length-append x t) in
          let nil : t ≡ [] = sym (take_all 0 t (omega arith)) in
          (sym (append-nil x) ∙ ap (λ r. x ++ r) (sym nil) ∙ sym is ∙ sym (take_all w s (omega arith)), nil ∙ sym (drop_all w s (omega arith)))
      | inr enough ↦
          let whole : length x ≡ w = omega arith in
          (sym (take_at x t w whole) ∙ ap (take w) (sym is), sym (drop_at x t w whole) ∙ ap (drop w) (sym is))
    ]

module _ (es : List Entry) (before space : List ℕ) (left : List Entry) (size k : ℕ) (so-far : Written es before space left size k) where
  -- where entries are left, so is a block
  pub more_needed : 0 < length left → k + 1 ≤ needed es
  more_needed some = omega (arith, ap length so-far.left_is, length-drop (per_block * k) es)

  module _ (some : 0 < length left) (x t : List Entry) (is : left ≡ x ++ t) (long : length x ≡ min size (length left)) where
    next_part : (x ≡ part per_block k es) × (t ≡ drop (per_block * (k + 1)) es)
    next_part =
        let both = cut_off left x t per_block size so-far.size_is is long in
        let on : per_block * k + per_block ≡ per_block * (k + 1) = omega arith in
        (both.0 ∙ ap (take per_block) so-far.left_is, both.1 ∙ ap (drop per_block) so-far.left_is ∙ drop-drop per_block (per_block * k) es ∙ ap (λ n. drop n es) on)

    pub written_more : block_size * needed es ≤ length before → (i next m size-then : ℕ) (new : List ℕ) → i ≡ k → next ≡ k + 1 → m ≡ block_size → size-then ≡ size
        → new ≡ block i x → AllByRecursion Fits x → Written es before (put_mid (block_size * i) m space new) t size-then next
    written_more room i next m size-then new i_is next_is wide same is-new fit =
        subst (Written es before (put_mid (block_size * i) m space new) t size-then) (sym next_is) (record {
          writes = ap (λ j. put_mid (block_size * j) m space new) i_is
              ∙ block_more es k before space new m (omega (arith, more_needed some)) wide so-far.writes (is-new ∙ ap (λ j. block j x) i_is ∙ ap (block k) next_part.0);
          fit = fit_more es k so-far.fit (subst (AllByRecursion Fits) next_part.0 fit);
          left_is = next_part.1;
          size_is = same ∙ so-far.size_is;
          few = more_needed some;
        })

  -- where no entry is left, all blocks are written
  pub all_written : length left ≡ 0 → (k ≡ needed es) × (take (per_block * k) es ≡ es)
  all_written none =
      let end : length es ≤ per_block * k = omega (arith, ap length so-far.left_is, length-drop (per_block * k) es) in
      (omega (arith, so-far.few), take_all (per_block * k) es end)
