-- The binary verdict is a frame exactly when the bytes begin with a header and its data. Assumes nothing.
use Rattle.std.proofs.Common.{◌≡◌, ℕ, ◌+◌, ◌*◌, ◌/◌, ◌%◌, ◌<◌, ◌≤◌, true, cond, eqb, leb, List, [], ◌∷◌, ◌++◌, length, get_or, take, drop, sym, refl, ap, ◌∙◌, subst, arith, length-append, length-drop, take-append-drop, length-take}
use Rattle.std.proofs.lemmas.List.{drop-take, get_or-take, take_at}
use Rattle.std.proofs.lemmas.Bool.{and_parts, and_from, le-leb, eqb-true, eq-eqb}
use Rattle.framing.specs.declared.verdict.Verdict.TheVariants.{NoFrame, Frame}
use Rattle.framing.specs.Checksum.{checksum}
use Rattle.framing.specs.Plan.{frame, judged}
use Rattle.framing.specs.Binary.{binary, header, body, headed, word, bytes_of, header_front, header_of, Framed, ExactlyFrames}
use Rattle.framing.specs.BinaryPlan.{after_sync, binary_data, headed_size}
use Rattle.framing.specs.Plans.{frame_len, frame_kind, step_frame}
use Rattle.framing.proofs.Listed.{reads, reads_are}

checksum_small : (s : List ℕ) → checksum s < 65536
unfolding checksum
checksum_small s = omega arith

-- a word of two bytes, taken apart again
parts : (low high n : ℕ) → low < 256 → low + 256 * high ≡ n → low ∷ (high ∷ []) ≡ bytes_of n
parts low high n l e =
    let a : low ≡ n % 256 = omega arith in
    let b : high ≡ n / 256 = omega arith in
    cc

-- a word put together from its parts
whole : (n : ℕ) → n % 256 + 256 * (n / 256) ≡ n
whole n = omega arith

-- the header of some data, read: it is right, and says how many data there are and what their checksum is
header_right : (series : ℕ) (d : List ℕ) → length d ≤ 8182 → headed (header_of series d) ≡ true
header_right series d few =
    let sum : eqb (word (header_of series d) 8) (checksum (take 8 (header_of series d))) ≡ true = eq-eqb _ _ (whole (checksum (header_front series d))) in
    let size : leb (word (header_of series d) 4) 8182 ≡ true = le-leb _ _ (omega arith) in
    and_from (eqb 0x10 0x10) _ refl (and_from _ _ sum size)

pub to_frame : (series : ℕ) (d rest : List ℕ) → length d ≤ 8182 → judged binary (header_of series d ++ (d ++ rest)) ≡ Frame (10 + length d) 1
to_frame series d rest few =
    let s : List ℕ = header_of series d ++ (d ++ rest) in
    let size : word (header_of series d) 4 ≡ length d = whole (length d) in
    let there : 10 + word (header_of series d) 4 ≤ length s = omega (arith, length-append d rest, size) in
    let same : take (word (header_of series d) 4) (d ++ rest) ≡ d = take_at d rest _ (sym size) in
    let sum : eqb (checksum (take (word (header_of series d) 4) (d ++ rest))) (word (header_of series d) 6) ≡ true =
    eq-eqb _ _ (ap checksum same ∙ sym (whole (checksum d))) in
    binary_data s refl refl (header_right series d few) there
    ∙ ap (λ b. cond b (Frame (10 + word (header_of series d) 4) 1) NoFrame) sum ∙ ap (λ n. Frame (10 + n) 1) size

-- the other way: ten bytes that pass the tests are the header of the data that they announce
header_is : (x0 x1 x2 x3 x4 x5 x6 x7 x8 x9 : ℕ) (d : List ℕ)
    → let h : List ℕ = x0 ∷ (x1 ∷ (x2 ∷ (x3 ∷ (x4 ∷ (x5 ∷ (x6 ∷ (x7 ∷ (x8 ∷ (x9 ∷ []))))))))) in
    x0 ≡ 0xA5 → x1 ≡ 10 → headed h ≡ true → x4 < 256 → x6 < 256 → x8 < 256 → length d ≡ word h 4 → checksum d ≡ word h 6 → h ≡ header_of x2 d
header_is x0 x1 x2 x3 x4 x5 x6 x7 x8 x9 d a b right l4 l6 l8 size sum =
    let tests = and_parts (eqb x3 0x10) _ right in
    let family : x3 ≡ 0x10 = eqb-true x3 0x10 tests.0 in
    let front : List ℕ = x0 ∷ (x1 ∷ (x2 ∷ (x3 ∷ (x4 ∷ (x5 ∷ (x6 ∷ (x7 ∷ []))))))) in
    let last : x8 + 256 * x9 ≡ checksum front = eqb-true _ _ (and_parts (eqb (x8 + 256 * x9) (checksum front)) _ tests.1).0 in
    let p4 : x4 ∷ (x5 ∷ []) ≡ bytes_of (length d) = parts x4 x5 (length d) l4 (sym size) in
    let p6 : x6 ∷ (x7 ∷ []) ≡ bytes_of (checksum d) = parts x6 x7 (checksum d) l6 (sym sum) in
    let p8 : x8 ∷ (x9 ∷ []) ≡ bytes_of (checksum front) = parts x8 x9 (checksum front) l8 last in
    let same : front ≡ header_front x2 d = cc in
    cc

module _ (s : List ℕ) (n k : ℕ) (typed : (i : ℕ) → get_or s i 0 < 256) where
  abbrev h : List ℕ
  h = take 10 s

  at : (i : ℕ) → i < 10 → get_or h i 0 ≡ get_or s i 0
  at i l = get_or-take 10 s i 0 l

  from_frame : judged binary s ≡ Frame n k → (k ≡ 1) × Framed s n
  from_frame e =
      let a = step_frame 1 (λ x. eqb (get_or x 0 0) 0xA5) (λ _. after_sync) s n k e in
      let b = step_frame 2 (λ x. eqb (get_or x 1 0) 10) (λ _. header) s n k a.2 in
      let c = step_frame 10 headed body s n k b.2 in
      let w : ℕ = word h 4 in
      let d = step_frame (10 + w) (λ x. eqb (checksum (drop 10 x)) (word h 6)) (λ _. frame (10 + w) 1) s n k c.2 in
      let last : Frame (10 + w) 1 ≡ Frame n k = d.2 in
      let content : List ℕ = take w (drop 10 s) in
      let there : 10 + w ≤ length s = d.0 in
      let long : length content ≡ w = simp (length-take, length-drop) (omega arith) in
      let sum : checksum content ≡ word h 6 = ap checksum (sym (drop-take 10 w s)) ∙ eqb-true _ _ d.1 in
      let listed : h ≡ reads 10 0 s = reads_are 10 0 s c.0 in
      let is = header_is (get_or s 0 0) (get_or s 1 0) (get_or s 2 0) (get_or s 3 0) (get_or s 4 0) (get_or s 5 0) (get_or s 6 0) (get_or s 7 0) (get_or s 8 0) (get_or s 9 0) content
      (sym (get_or-take 1 s 0 0 (omega arith)) ∙ eqb-true _ _ a.1) (sym (get_or-take 2 s 1 0 (omega arith)) ∙ eqb-true _ _ b.1)
      (subst (λ x. headed x ≡ true) listed c.1) (typed 4) (typed 6) (typed 8)
      (long ∙ ap (λ x. word x 4) listed) (sum ∙ ap (λ x. word x 6) listed) in
      let right = headed_size h c.1 in
      let all : s ≡ header_of (get_or s 2 0) content ++ (content ++ drop w (drop 10 s)) =
      sym (take-append-drop 10 s) ∙ ap (λ x. x ++ drop 10 s) (listed ∙ is)
      ∙ ap (λ x. header_of (get_or s 2 0) content ++ x) (sym (take-append-drop w (drop 10 s))) in
      (sym (frame_kind last), record { series = get_or s 2 0; content = content; rest = drop w (drop 10 s); fits = omega arith; begins = all; long = omega (arith, frame_len last) })

pub exactly_frames : (s : List ℕ) → ((i : ℕ) → get_or s i 0 < 256) → ExactlyFrames s (judged binary s)
exactly_frames s typed n k = (
  from_frame s n k typed,
  λ one f. subst (λ x. judged binary x ≡ Frame n k) (sym f.begins)
      (to_frame f.series f.content f.rest f.fits ∙ ap (λ m. Frame m 1) (sym f.long) ∙ ap (λ j. Frame n j) (sym one)),
)
