use Rattle.std.proofs.Common.{◌≡◌, ◌-◌, min, ◌∷◌, ◌++◌, length, take, drop, ap, arith}
use Rattle.stream.specs.History.{took}
use Rattle.stream.specs.Requests.{delivery, taking, close, tell}
use Rattle.stream.proofs.Carrying.{one_turn}
use Rattle.stream.proofs.runs.turn.Goals as goal

pub returns-in-Deliver-clause-law : goal.returns-in-Deliver-clause-law
returns-in-Deliver-clause-law g c h k = (_ ∷ h, one_turn c.in-Deliver.is (delivery c.part.ensures), c.deliver.ensures.law _ h _ k)

pub returns-in-Take-clause-law : goal.returns-in-Take-clause-law
returns-in-Take-clause-law g c h k =
    let s = c.args.space.now in
    let y = c.take.new.space in
    let lent : c.lent-n.result - 0 ≡ min c.in-Take.room (length s) = omega (arith, c.lent-n.ensures) in (
      took (take (c.lent-n.result - 0) s) y c.take.result ∷ h,
      one_turn c.in-Take.is (taking (ap (λ n. take n s) lent) (ap (λ n. y ++ drop n s) lent)),
      c.take.ensures.law h k,
    )

pub returns-in-Close-clause-law : goal.returns-in-Close-clause-law
returns-in-Close-clause-law g c h k = (_ ∷ h, one_turn c.in-Close.is close, c.close.ensures.law _ h _ k)

pub returns-in-Tell-clause-law : goal.returns-in-Tell-clause-law
returns-in-Tell-clause-law g c h k = (_ ∷ h, one_turn c.in-Tell.is tell, c.tell.ensures.law _ h _ k)
