use Rattle.std.proofs.Common.{Some, Ok, sym, ap, subst, rules}
use Rattle.survey.specs.Registered.{unread}
use Rattle.survey.proofs.Pieces.{goes_nowhere, goes_further, ends_failed, ends-refused}
use Rattle.survey.proofs.feeding.take_what_waits.Goals as goal

pub returns-in-Err : goal.returns-in-Err
returns-in-Err g c =
    let fed = c.feed.ensures in
    record {
      law = ends-refused _ _ c.from.ensures (goes_further (goes_nowhere _ _ _) fed.law);
      does = record { answer = _; does = fed.does; says = subst (λ r. unread r (Ok (Some c.from.result))) (sym c.in-Err.is) (ap (λ x. Ok (Some x)) c.from.ensures) };
      table = fed.table;
    }

pub returns-in-Ok : goal.returns-in-Ok
returns-in-Ok g c =
    let fed = c.feed.ensures in
    record {
      law = ends_failed _ (search rules) (goes_further (goes_nowhere _ _ _) fed.law);
      does = record { answer = _; does = fed.does; says = search rules };
      table = fed.table;
    }
