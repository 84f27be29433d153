-- Data put behind those of a draft. Assumes nothing.
use Rattle.std.proofs.Common.{◌≡◌, ℕ, ◌+◌, ◌≤◌, true, leb, List, ◌++◌, length, take, drop, Ok, Err, sym, ap, ◌∙◌, arith, length-append, length-drop, length-take}
use Rattle.std.proofs.lemmas.List.{append_assoc, take_at, drop-append-le, drop-take}
use Rattle.std.proofs.lemmas.Bool.{le-leb, leb-true, and_from, and_parts, cond-true}
use Rattle.writing.specs.declared.draft.Draft.{Draft}
use Rattle.writing.specs.Drafts.{content, put_at, fits, has_room, full, Adds}

pub content-length : (d : Draft) → length (content d) ≡ d.len
content-length d = simp (length-take, length-drop) (omega (arith, d.within.0))

pub room_for : (space n : ℕ) → 10 + n ≤ space → n ≤ 8182 → fits space n ≡ true
room_for space n a b = and_from (leb (10 + n) space) (leb n 8182) (le-leb _ _ a) (le-leb _ _ b)

pub fits-parts : (space n : ℕ) → fits space n ≡ true → (10 + n ≤ space) × (n ≤ 8182)
fits-parts space n e = let both = and_parts (leb (10 + n) space) (leb n 8182) e in (leb-true _ _ both.0, leb-true _ _ both.1)

-- the data behind the header, with more put behind them
more-behind : (s more : List ℕ) (h n : ℕ) → h + n + length more ≤ length s
    → take (n + length more) (drop h (put_at (h + n) more s)) ≡ take n (drop h s) ++ more
more-behind s more h n le = grind (arith, drop-append-le, drop-take, append_assoc, take_at, length-append, length-take, length-drop)

pub adds : (before after : Draft) (more : List ℕ) → has_room before more ≡ true
    → after.space.now ≡ put_at (10 + before.len) more before.space.now → after.len ≡ before.len + length more
    → after.series ≡ before.series → Adds before more after (Ok tt)
adds before after more room space len series =
    let s : List ℕ = before.space.now in
    let n = content-length before in
    let both = fits-parts (length s) (length (content before) + length more) room in
    let is : content after ≡ content before ++ more =
    ap (λ k. take k (drop 10 after.space.now)) len ∙ ap (λ x. take (before.len + length more) (drop 10 x)) space
    ∙ more-behind s more 10 before.len (omega (arith, n, both.0)) in
    record {
      says = sym (cond-true _ (Ok tt) (Err full) room);
      holds = is ∙ sym (cond-true _ (content before ++ more) (content before) room);
      leaves = space ∙ ap (λ k. put_at (10 + k) more s) (sym n) ∙ sym (cond-true _ (put_at (10 + length (content before)) more s) s room);
      same_series = series;
    }
