use Rattle.std.proofs.Common.{◌≤◌, ◌∙◌, length, arith}
use Rattle.std.proofs.lemmas.Bool.Decides.{nat_tests}
use Rattle.framing.proofs.Closings.{ended}
use Rattle.framing.proofs.sentence.close.Goals as goal

pub returns : goal.returns
returns c =
    let some : 1 ≤ length c.args.text.now = grind (arith, nat_tests) in
    c.end_verdict.ensures ∙ ended c.args.text.now c.args.rest.now c.in-Some.end.now c.args.mark some c.if-mark-ne42.false c.in-Some.ensures.cases
