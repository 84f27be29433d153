use Rattle.std.proofs.Common.{get_or, arith}
use Rattle.std.proofs.lemmas.List.{get_or_default}
use Rattle.stream.specs.declared.runs.Request.TheVariants.{Deliver}
use Rattle.stream.proofs.Feedings.{same_table, its_own_table}
use Rattle.stream.proofs.Carrying.{carry_none, carry_more, carry_all}
use Rattle.stream.proofs.runs.run.Goals as goal

pub loop-request-init : goal.loop-request-init
loop-request-init g c = (carry_none, omega arith, its_own_table)

pub loop-request-preserved : goal.loop-request-preserved
loop-request-preserved g c =
    let qs = c.args.requests.now in
    let i = c.loop-request.request-index in
    let q = get_or qs i (Deliver 0 0) in
    let inv = c.loop-request.invariant in
    let turn = c.turn.ensures in (
      carry_more qs i q inv.0 inv.2.same_room c.loop-request-test.true (get_or_default qs i (Deliver 0 0) q c.loop-request-test.true) turn.law,
      omega (arith, turn.more, inv.1),
      same_table turn.more inv.2 turn.table,
    )

pub returns-clause-law : goal.returns-clause-law
returns-clause-law g c = carry_all _ c.loop-request.invariant.0 c.loop-request-test.false
