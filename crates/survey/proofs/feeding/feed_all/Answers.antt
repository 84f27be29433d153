use Rattle.std.proofs.Common.{length, sym, Ok, refl, ap, ◌∙◌, rules}
use Rattle.std.proofs.lemmas.Bool.{eqb-false}
use Rattle.survey.proofs.Pieces.{goes_nowhere, goes_further, fed_in, ends-drained, ends_failed, ends-refused}
use Rattle.survey.proofs.feeding.feed_all.Goals as goal

pub loop-init : goal.loop-init
loop-init g c = (refl, goes_nowhere _ _ _, refl, refl)

pub loop-preserved : goal.loop-preserved
loop-preserved g c =
    let inv = c.loop.invariant in
    let table = c.feed.ensures.table in
    (search rules, goes_further inv.1 (fed_in inv.2 c.feed.ensures.law), table.same_room ∙ inv.2, table.lends ∙ inv.3)

pub returns-in_err-n : goal.returns-in_err-n
returns-in_err-n g c =
    let inv = c.loop.invariant in
    record { law = ends_failed _ c.from_residual.ensures.0 inv.1; room = inv.2; lends = inv.3; no_piece = λ e. absurd (eqb-false (length c.args.piece.now) 0 (sym c.if-is_empty.ensures) e) }

pub returns-in-Err : goal.returns-in-Err
returns-in-Err g c =
    let inv = c.loop.invariant in
    let table = c.feed.ensures.table in
    record {
      law = ends-refused _ _ c.from.ensures (goes_further inv.1 (fed_in inv.2 c.feed.ensures.law));
      room = table.same_room ∙ inv.2;
      lends = table.lends ∙ inv.3;
      no_piece = λ e. absurd (eqb-false (length c.args.piece.now) 0 (sym c.if-is_empty.ensures) e);
    }

pub returns-in-Ok-Drained : goal.returns-in-Ok-Drained
returns-in-Ok-Drained g c =
    let inv = c.loop.invariant in
    let table = c.feed.ensures.table in
    record {
      law = ends-drained inv.1 (fed_in inv.2 c.feed.ensures.law) (search rules);
      room = table.same_room ∙ inv.2;
      lends = table.lends ∙ inv.3;
      no_piece = λ e. absurd (eqb-false (length c.args.piece.now) 0 (sym c.if-is_empty.ensures) e);
    }

pub returns : goal.returns
returns g c =
    let inv = c.loop.invariant in
    record { law = ends_failed _ (search rules) inv.1; room = inv.2; lends = inv.3; no_piece = λ e. absurd (eqb-false (length c.args.piece.now) 0 (sym c.if-is_empty.ensures) e) }
