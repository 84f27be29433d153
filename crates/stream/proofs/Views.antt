-- The waiting bytes, a part of the buffer: more bytes behind them, bytes taken off their front, and the record among them. Assumes nothing.
use Rattle.std.proofs.Common.{◌≡◌, ℕ, ◌+◌, ◌-◌, ◌≤◌, Bool, List, ◌++◌, length, take, drop, sym, ap, ◌∙◌, append_assoc, arith, length-append, length-take, length-drop}
use borrow.Rule.Slice.PartMut.{put_mid}
use Rattle.std.proofs.lemmas.Slice.{between_is}
use Rattle.std.proofs.lemmas.List.{take_at, drop-append-le, drop-take, drop-drop}
use Rattle.framing.specs.declared.verdict.Verdict.{Verdict}
use Rattle.framing.specs.Verdicts.{Laws as FramingLaws}
use Rattle.reading.specs.declared.steps.Next.{Next}
use Rattle.reading.specs.declared.steps.Next.TheVariants.{Record, End}
use Rattle.reading.specs.Reading.{NextOf}
use Rattle.reading.proofs.Readings.{bounds}
use Rattle.stream.specs.View.{NextWithin}

-- more bytes written behind them
pub behind_them : (bs ys : List ℕ) (a b n : ℕ) → a ≤ b → b + n ≤ length bs → length ys ≡ n
    → take (b + n - a) (drop a (put_mid b (b + n - b) bs ys)) ≡ take (b - a) (drop a bs) ++ ys
behind_them bs ys a b n l h e = grind (arith, drop-append-le, between_is, append_assoc, take_at, length-append, length-take, length-drop)

-- bytes taken off their front
pub off_front : (bs : List ℕ) (a b n : ℕ) → a + n ≤ b → take (b - (a + n)) (drop (a + n) bs) ≡ drop n (take (b - a) (drop a bs))
off_front bs a b n h =
    let m : b - a ≡ n + (b - (a + n)) = omega arith in
    sym (ap (λ i. drop n (take i (drop a bs))) m ∙ drop-take n (b - (a + n)) (drop a bs) ∙ ap (take (b - (a + n))) (drop-drop n a bs))

-- what comes next in the reading of the waiting bytes lies among them
pub next_within : {v : List ℕ → Verdict} {reach : ℕ} (c : Bool) → FramingLaws v reach → (bs : List ℕ) (a b : ℕ) → a ≤ b
    → (n : Next) → NextOf v c (take (b - a) (drop a bs)) 0 n → NextWithin a b reach n
next_within c laws bs a b l (Record place len kind) f =
    (omega (arith, f.within, length-take (b - a) (drop a bs)), f.some, (laws.within _ len kind f.frame).2)
next_within c laws bs a b l (End place) r = omega (arith, (bounds laws r (omega arith)).1, length-take (b - a) (drop a bs))
