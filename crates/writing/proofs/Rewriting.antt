-- The parts of a record counted, and the frame that they make. Assumes nothing.
use Rattle.std.proofs.Common.{◌≡◌, ℕ, ◌+◌, ◌-◌, ◌^◌, min, Bool, true, false, cond, List, ◌++◌, length, drop, Ok, Err, Result, sym, refl, ap, ◌∙◌}
use Rattle.std.proofs.lemmas.List.{append_assoc}
use Rattle.std.proofs.lemmas.Bool.{and_from, cond-true}
use Rattle.format.specs.declared.format.Part.{Part}
use Rattle.format.specs.Meaning.{joined_parts}
use Rattle.framing.specs.Binary.{header_of}
use Rattle.writing.specs.declared.again.AgainFault.{AgainFault}
use Rattle.writing.specs.declared.again.AgainFault.TheVariants.{Outside, Full}
use Rattle.writing.specs.Drafts.{fits, full, Writes}
use Rattle.writing.specs.Again.{all_inside, series, frame_of, Rewrites}

-- what stands for a part past the end of a list
abbrev pub no_part : Part
no_part = record { code = 0; place = 0; width = 0; count = 0; signed = false }

-- the size of some parts, counted on from a number
abbrev pub counted : List ℕ → ℕ → List Part → Result ℕ AgainFault
counted s n ps = cond (all_inside s ps) (Ok (min (n + length (joined_parts s ps)) (2 ^ 64 - 1))) (Err Outside)

pub ok_given : (b : Bool) (x y : ℕ) (e : AgainFault) → Ok x ≡ cond b (Ok y) (Err e) → (b ≡ true) × (x ≡ y)
ok_given true x y e same = (refl, cc)
ok_given false x y e same = absurd cc

-- parts that lie inside, written as one frame
pub rewrites : (s before after : List ℕ) (ps : List Part) (r : ℕ) → all_inside s ps ≡ true → fits (length before) (length (joined_parts s ps)) ≡ true
    → Writes (series s) (joined_parts s ps) before after (Ok r) → Rewrites s ps before after (Ok r)
rewrites s before after ps r inside-all room w =
    let j : List ℕ = joined_parts s ps in
    let n : r ≡ 10 + length j = let e = w.says ∙ cond-true _ (Ok (10 + length j)) (Err full) room in cc in
    record {
      says = ap Ok n ∙ sym (cond-true _ (Ok (10 + length j)) (Err Full) room)
          ∙ sym (cond-true _ (cond (fits (length before) (length j)) (Ok (10 + length j)) (Err Full)) (Err Outside) inside-all);
      leaves = w.leaves ∙ cond-true _ (header_of (series s) j ++ (j ++ drop (10 + length j) before)) before room
          ∙ sym (append_assoc (header_of (series s) j) j (drop (10 + length j) before))
          ∙ sym (cond-true _ (frame_of s ps ++ drop (10 + length j) before) before (and_from _ _ inside-all room));
    }
