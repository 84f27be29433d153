-- Data added to a draft piece by piece, and the draft sealed. Assumes nothing.
use Rattle.std.proofs.Common.{◌≡◌, ℕ, ◌+◌, ◌-◌, ◌^◌, ◌<◌, ◌≤◌, min, true, leb, List, [], ◌++◌, length, take, drop, Ok, Err, Result, sym, refl, ap, ◌∙◌, ⊎_elim, zero-add, arith, length-append, length-drop, length-take}
use Rattle.std.proofs.lemmas.List.{append_assoc, append-nil, take_at, drop_at, drop-drop}
use Rattle.std.proofs.lemmas.Bool.{and_right, le-leb, lt-leb, cases_lt, cond-true}
use Rattle.std.proofs.lemmas.Grind.{common_steps}
use Rattle.framing.specs.Binary.{header_of}
use Rattle.writing.specs.declared.draft.Draft.{Draft}
use Rattle.writing.specs.declared.drafts.DraftFull.{DraftFull}
use Rattle.writing.specs.Drafts.{content, put_at, fits, has_room, full, Adds, Seals, Writes}
use Rattle.writing.proofs.Adds.{room_for, fits-parts}

-- some bytes put over those of a space, and more behind them
put_twice : (x y s : List ℕ) (a : ℕ) → a + length x ≤ length s → put_at (a + length x) y (put_at a x s) ≡ put_at a (x ++ y) s
put_twice x y s a le =
    let front : length (take a s ++ x) ≡ a + length x = simp (length-append, length-take) (omega arith) in
    let split : put_at a x s ≡ (take a s ++ x) ++ drop (a + length x) s = sym (append_assoc (take a s) x (drop (a + length x) s)) in
    let before : take (a + length x) (put_at a x s) ≡ take a s ++ x =
    ap (take (a + length x)) split ∙ take_at (take a s ++ x) (drop (a + length x) s) (a + length x) front in
    let behind : drop (a + length x + length y) (put_at a x s) ≡ drop (a + length (x ++ y)) s =
    sym (drop-drop (length y) (a + length x) (put_at a x s))
    ∙ ap (λ z. drop (length y) z) (ap (drop (a + length x)) split ∙ drop_at (take a s ++ x) (drop (a + length x) s) (a + length x) front)
    ∙ drop-drop (length y) (a + length x) s ∙ ap (λ n. drop n s) (omega (arith, length-append x y)) in
    ap (λ z. z ++ (y ++ drop (a + length x + length y) (put_at a x s))) before
    ∙ ap (λ z. (take a s ++ x) ++ (y ++ z)) behind
    ∙ append_assoc (take a s) x (y ++ drop (a + length (x ++ y)) s)
    ∙ ap (λ z. take a s ++ z) (sym (append_assoc x y (drop (a + length (x ++ y)) s)))

put_nothing : (s : List ℕ) (a : ℕ) → put_at a [] s ≡ s
put_nothing s a = grind (arith, common_steps)

put_long : (x s : List ℕ) (a : ℕ) → a + length x ≤ length s → length (put_at a x s) ≡ length s
put_long x s a le = simp (length-append, length-take, length-drop) (omega arith)

put_behind : (x s : List ℕ) (a : ℕ) → a + length x ≤ length s → drop (a + length x) (put_at a x s) ≡ drop (a + length x) s
put_behind x s a le =
    ap (drop (a + length x)) (sym (append_assoc (take a s) x (drop (a + length x) s)))
    ∙ drop_at (take a s ++ x) (drop (a + length x) s) (a + length x) (simp (length-append, length-take) (omega arith))

-- the bytes that are left to add to a draft that began as `start` and is to end with all of some bytes behind its data
pub record Going (all : List ℕ) (start : Draft) (left : List ℕ) (d : Draft) : Type 0 where
  pub holds : content d ++ left ≡ content start ++ all
  pub leaves : put_at (10 + length (content d)) left d.space.now ≡ put_at (10 + length (content start)) all start.space.now
  pub room : fits (length d.space.now) (length (content d) + length left) ≡ true
  pub same_series : d.series ≡ start.series
  pub lends : d.space.ghost_name ≡ start.space.ghost_name

-- a new draft, with room for all of them
pub going_start : (all before : List ℕ) (start : Draft) → content start ≡ [] → start.space.now ≡ before → fits (length before) (length all) ≡ true → Going all start all start
going_start all before start none space room = record {
  holds = refl;
  leaves = refl;
  room = ap (λ x. fits (length x) (length (content start) + length all)) space ∙ ap (λ x. fits (length before) (length x + length all)) none
      ∙ ap (fits (length before)) (zero-add (length all)) ∙ room;
  same_series = refl;
  lends = refl;
}

-- the first of them are added
pub going_more : (all x rest : List ℕ) (start d after : Draft) (r : Result (Unit {0}) DraftFull)
    → Going all start (x ++ rest) d → Adds d x after r → after.space.ghost_name ≡ d.space.ghost_name → Going all start rest after
going_more all x rest start d after r g a same =
    let space : List ℕ = d.space.now in
    let n : ℕ = length (content d) in
    let both = fits-parts (length space) (n + length (x ++ rest)) g.room in
    let sum : length (x ++ rest) ≡ length x + length rest = length-append x rest in
    let enough : has_room d x ≡ true = room_for (length space) (n + length x) (omega arith) (omega arith) in
    let now-content : content after ≡ content d ++ x = a.holds ∙ cond-true _ (content d ++ x) (content d) enough in
    let now-space : after.space.now ≡ put_at (10 + n) x space = a.leaves ∙ cond-true _ (put_at (10 + n) x space) space enough in
    let long : length (content after) ≡ n + length x = ap length now-content ∙ length-append (content d) x in
    let le : 10 + n + length x ≤ length space = omega arith in
    let at : 10 + length (content after) ≡ 10 + n + length x = omega arith in
    let size : length after.space.now ≡ length space = ap length now-space ∙ put_long x space (10 + n) le in
    record {
      holds = ap (λ z. z ++ rest) now-content ∙ append_assoc (content d) x rest ∙ g.holds;
      leaves = ap (λ k. put_at k rest after.space.now) at ∙ ap (put_at (10 + n + length x) rest) now-space ∙ put_twice x rest space (10 + n) le ∙ g.leaves;
      room = room_for (length after.space.now) (length (content after) + length rest) (omega arith) (omega arith);
      same_series = a.same_series ∙ g.same_series;
      lends = same ∙ g.lends;
    }

-- all are added
pub going_all : (all : List ℕ) (start d : Draft) → Going all start [] d
    → (content d ≡ content start ++ all) × (d.space.now ≡ put_at (10 + length (content start)) all start.space.now)
going_all all start d g = (
  sym (append-nil (content d)) ∙ g.holds,
  sym (put_nothing d.space.now (10 + length (content d))) ∙ g.leaves,
)

-- a number of bytes that is capped fits as the number itself does
pub fits_capped : (space n : ℕ) → fits space (min n (2 ^ 64 - 1)) ≡ fits space n
fits_capped space n =
    ⊎_elim
    (λ (many : 8182 < n). and_right (leb (10 + min n (2 ^ 64 - 1)) space) _ (lt-leb (min n (2 ^ 64 - 1)) 8182 (omega arith))
    ∙ sym (and_right (leb (10 + n) space) _ (lt-leb n 8182 many)))
    (λ few. let same : min n (2 ^ 64 - 1) ≡ n = omega arith in ap (fits space) same)
    (cases_lt 8182 n)

-- a draft of all of some bytes, sealed
pub writes : (series : ℕ) (all before after : List ℕ) (start d : Draft) (r : ℕ) → fits (length before) (length all) ≡ true
    → content start ≡ [] → start.space.now ≡ before → start.series ≡ series → content d ≡ content start ++ all
    → d.space.now ≡ put_at (10 + length (content start)) all start.space.now → d.series ≡ start.series
    → Seals d.series (content d) d.space.now after r → Writes series all before after (Ok r)
writes series all before after start d r room none same of-start holds leaves kept seals =
    let both = fits-parts (length before) (length all) room in
    let data_is : content d ≡ all = holds ∙ ap (λ x. x ++ all) none in
    let space-is : d.space.now ≡ put_at 10 all before = leaves ∙ ap (λ x. put_at (10 + length x) all start.space.now) none ∙ ap (put_at 10 all) same in
    let long : length d.space.now ≡ length before = ap length space-is ∙ put_long all before 10 both.0 in
    let enough : leb 10 (length d.space.now) ≡ true = le-leb _ _ (omega (arith, both.0)) in
    let frame : after ≡ header_of series all ++ (all ++ drop (10 + length all) before) =
    seals.leaves ∙ cond-true _ _ d.space.now enough
    ∙ ap (λ x. header_of x (content d) ++ (content d ++ drop (10 + length (content d)) d.space.now)) (kept ∙ of-start)
    ∙ ap (λ x. header_of series x ++ (x ++ drop (10 + length x) d.space.now)) data_is
    ∙ ap (λ x. header_of series all ++ (all ++ drop (10 + length all) x)) space-is
    ∙ ap (λ x. header_of series all ++ (all ++ x)) (put_behind all before 10 both.0) in
    let answered : r ≡ 10 + length all = seals.says ∙ cond-true _ (10 + length (content d)) 0 enough ∙ ap (λ x. 10 + length x) data_is in
    record {
      says = ap Ok answered ∙ sym (cond-true _ (Ok (10 + length all)) (Err full) room);
      leaves = frame ∙ sym (cond-true _ (header_of series all ++ (all ++ drop (10 + length all) before)) before room);
    }
