-- An accepted binary frame, written again from its parts, is the same bytes. Assumes nothing.
use Rattle.std.proofs.Common.{◌≡◌, ℕ, ◌+◌, ◌<◌, ◌≤◌, true, cond, List, [], ◌∷◌, ◌++◌, length, get_or, drop, Ok, Err, Result, sym, refl, ap, ◌∙◌, arith, length-append}
use Rattle.std.proofs.lemmas.List.{append-nil, nil_from_length}
use Rattle.std.proofs.lemmas.Bool.{le-leb, and_from, cond-true}
use Rattle.format.specs.declared.format.Part.{Part}
use Rattle.format.specs.Items.{inside}
use Rattle.format.specs.Meaning.{size, InOrder, joined_parts}
use Rattle.framing.specs.Binary.{header_of, Framed}
use Rattle.framing.proofs.BinaryFrames.{exactly_frames}
use Rattle.writing.specs.declared.again.AgainFault.{AgainFault}
use Rattle.writing.specs.declared.again.AgainFault.TheVariants.{Outside, Full}
use Rattle.writing.specs.Drafts.{fits}
use Rattle.writing.specs.Again.{all_inside, series, frame_of, Rewrites, SameBytes}
use Rattle.writing.proofs.Adds.{room_for}

-- parts in order lie inside the record
ordered_inside : (s : List ℕ) (from : ℕ) (ps : List Part) → InOrder from (length s) ps → all_inside s ps ≡ true
ordered_inside s from [] o = refl
ordered_inside s from (p ∷ ps) o =
    and_from (inside s p) (all_inside s ps) (le-leb (p.place + size p) (length s) o.1) (ordered_inside s (p.place + size p) ps o.2)

-- a record that is one frame is the header of its series and data, and these data
one_frame : (s : List ℕ) → Framed s (length s) → (s ≡ header_of (series s) (drop 10 s) ++ drop 10 s) × (length (drop 10 s) ≤ 8182) × (10 + length (drop 10 s) ≡ length s)
one_frame s f =
    let d : List ℕ = f.content in
    let long : length s ≡ 10 + (length d + length f.rest) =
    ap length f.begins ∙ length-append (header_of f.series d) (d ++ f.rest) ∙ ap (λ n. 10 + n) (length-append d f.rest) in
    let none : f.rest ≡ [] = nil_from_length f.rest (omega (arith, f.long)) in
    let whole : s ≡ header_of f.series d ++ d = f.begins ∙ ap (λ x. header_of f.series d ++ (d ++ x)) none ∙ ap (λ x. header_of f.series d ++ x) (append-nil d) in
    let data_is : drop 10 s ≡ d = ap (drop 10) whole in
    let series-is : series s ≡ f.series =
    ap series whole ∙ ap (λ t. cond t f.series 0) (le-leb 3 (length (header_of f.series d ++ d)) (omega (arith, length-append (header_of f.series d) d))) in
    let n : length (drop 10 s) ≡ length d = ap length data_is in
    (whole ∙ ap (λ x. header_of x d ++ d) (sym series-is) ∙ ap (λ x. header_of (series s) x ++ x) (sym data_is), omega (arith, f.fits), omega (arith, f.long))

pub same_bytes : (s : List ℕ) (ps : List Part) (before after : List ℕ) (r : Result ℕ AgainFault) → ((i : ℕ) → get_or s i 0 < 256)
    → Rewrites s ps before after r → SameBytes s ps before after r
same_bytes s ps before after r typed done meaning laws framed accepted listed enough =
    let parts = laws.lists 1 s accepted in
    let inside-all : all_inside s ps ≡ true = ap (all_inside s) listed ∙ ordered_inside s 0 (meaning 1 s).parts parts.order in
    let data_is : joined_parts s ps ≡ drop 10 s = ap (joined_parts s) listed ∙ parts.whole refl in
    let whole = one_frame s ((exactly_frames s typed (length s) 1).0 framed).1 in
    let n : length (joined_parts s ps) ≡ length (drop 10 s) = ap length data_is in
    let size_is : 10 + length (joined_parts s ps) ≡ length s = omega (arith, whole.2) in
    let room : fits (length before) (length (joined_parts s ps)) ≡ true = room_for (length before) (length (joined_parts s ps)) (omega arith) (omega (arith, whole.1)) in
    let frame_is : frame_of s ps ≡ s = ap (λ x. header_of (series s) x ++ x) data_is ∙ sym whole.0 in (
      done.says ∙ cond-true _ (cond (fits (length before) (length (joined_parts s ps))) (Ok (10 + length (joined_parts s ps))) (Err Full)) (Err Outside) inside-all
          ∙ cond-true _ (Ok (10 + length (joined_parts s ps))) (Err Full) room ∙ ap Ok size_is,
      done.leaves ∙ cond-true _ (frame_of s ps ++ drop (10 + length (joined_parts s ps)) before) before (and_from _ _ inside-all room)
          ∙ ap (λ x. x ++ drop (10 + length (joined_parts s ps)) before) frame_is ∙ ap (λ k. s ++ drop k before) size_is,
    )
