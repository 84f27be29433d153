-- A reading worked on record by record, and its records listed. Assumes nothing.
use Rattle.std.proofs.Common.{◌≡◌, ℕ, ◌+◌, ◌-◌, ◌≤◌, Bool, true, List, [], ◌∷◌, ◌++◌, map, length, sym, refl, ap, ◌∙◌, subst, append_assoc, append-nil, arith, length-drop, length-take}
use Rattle.std.proofs.lemmas.List.{map_push}
use Rattle.std.proofs.lemmas.List.Sums.{sum_by_push}
use Rattle.framing.specs.declared.verdict.Verdict.{Verdict}
use Rattle.reading.specs.declared.listing.Line.{Line}
use Rattle.framing.specs.Verdicts.{Laws}
use Rattle.reading.specs.Reading.{Found, found, Reading, Comes}
use Rattle.reading.specs.Listed.{line_of, framed}
use Rattle.reading.proofs.Readings.{closed_end}

-- the records before a place, to which any reading from there on can be joined
pub record Upto (v : List ℕ → Verdict) (c : Bool) (s : List ℕ) (place : ℕ) : Type 0 where
  pub records : List Found
  pub reads : (rs : List Found) (e : ℕ) → Reading v c s place rs e → Reading v c s 0 (records ++ rs) e
  pub within : place ≤ length s

-- and what is listed of them
pub record Lines {v : List ℕ → Verdict} {s : List ℕ} {place : ℕ} (u : Upto v true s place) (lines : List Line) (inside passed : ℕ) : Type 0 where
  pub listed : lines ≡ map line_of u.records
  pub inside_is : inside ≡ framed u.records
  pub adds : inside + passed ≡ place

module _ {v : List ℕ → Verdict} {s : List ℕ} where
  pub none_yet : {c : Bool} → Upto v c s 0
  none_yet = record { records = []; reads = λ rs e r. r; within = omega arith }

  pub one_more : {c : Bool} {p start len kind : ℕ} → Upto v c s p → Comes v c s p start len kind → Upto v c s (start + len)
  one_more {c} {p} {start} {len} {kind} u f =
      let r : Found = found s start len kind in
      record {
        records = u.records ++ (r ∷ []);
        reads = λ rs e x. subst (λ l. Reading v c s 0 l e) (sym (append_assoc u.records (r ∷ []) rs)) (u.reads (r ∷ rs) e (f.first rs e x));
        within = f.within;
      }

  pub done : {c : Bool} {p e : ℕ} (u : Upto v c s p) → Reading v c s p [] e → Reading v c s 0 u.records e
  done {c} {p} {e} u r = subst (λ l. Reading v c s 0 l e) (append-nil u.records) (u.reads [] e r)

  pub no_line : Lines none_yet [] 0 0
  unfolding none_yet
  no_line = record { listed = refl; inside_is = refl; adds = refl }

  pub line_more : {p inside passed start len kind : ℕ} {lines : List Line} (u : Upto v true s p) → Lines u lines inside passed
      → (f : Comes v true s p start len kind) (line : Line) → line ≡ line_of (found s start len kind)
      → Lines (one_more u f) (lines ++ (line ∷ [])) (inside + len) (passed + (start - p))
  unfolding one_more
  line_more {p} {inside} {passed} {start} {len} {kind} {lines} u l f line e =
      let r : Found = found s start len kind in
      let fits = f.within in
      let long : length r.bytes ≡ len = simp (length-take, length-drop) (omega arith) in
      record {
        listed = ap (λ l. l ++ (line ∷ [])) l.listed ∙ ap (λ l. map line_of u.records ++ (l ∷ [])) e ∙ sym (map_push line_of u.records r);
        inside_is = omega (arith, l.inside_is, sum_by_push (λ (f : Found). length f.bytes) u.records r, long);
        adds = omega (arith, l.adds, f.behind);
      }

  -- the listing is done where the reading ends
  pub listed-all : {p e : ℕ} {reach : ℕ} → Laws v reach → (u : Upto v true s p) → Reading v true s p [] e → Reading v true s 0 u.records (length s)
  listed-all {p} {e} laws u r = subst (λ n. Reading v true s 0 u.records n) (closed_end laws (done u r) (omega arith)) (done u r)
