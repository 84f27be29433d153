-- A byte that is passed over: what comes next behind it comes next. Assumes nothing.
use Rattle.std.proofs.Common.{◌≡◌, ℕ, ◌+◌, List, [], Bool, arith}
use Rattle.framing.specs.declared.verdict.Verdict.{Verdict}
use Rattle.reading.specs.declared.steps.Next.{Next}
use Rattle.reading.specs.declared.steps.Next.TheVariants.{Record, End}
use Rattle.reading.specs.Reading.{Found, Reading, NextOf}

pub passed_over : {verdict : List ℕ → Verdict} {closed : Bool} {s : List ℕ} {from : ℕ} (next : Next)
    → ((rs : List Found) (e : ℕ) → Reading verdict closed s (from + 1) rs e → Reading verdict closed s from rs e)
    → NextOf verdict closed s (from + 1) next → NextOf verdict closed s from next
passed_over (Record place len kind) step c = record {
  behind = omega (arith, c.behind);
  some = c.some;
  within = c.within;
  frame = c.frame;
  first = λ rs e r. step _ e (c.first rs e r);
}
passed_over (End place) step r = step [] place r
