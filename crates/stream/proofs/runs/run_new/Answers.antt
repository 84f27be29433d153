use Rattle.std.proofs.Common.{length, ap, rules}
use Rattle.stream.proofs.Carrying.{ran, listed, rest_kept}
use Rattle.stream.proofs.runs.run_new.Goals as goal

pub returns : goal.returns
returns g c =
    let last = c.run.new.register in
    let all = ran (ap length c.new-register.ensures.table) c.new-register.ensures.items c.run.ensures.law
    (record { framing = g.met.F.Framing.lawful c.args.framing.now; formats = g.met.G.Format.lawful c.args.formats.now }) c.new-intake.ensures.law c.tell.ensures.does in
    record {
      ran = listed last.len all last.within (search rules);
      rest = rest_kept last.len all last.within (search rules) c.run.ensures.table.rest c.new-register.ensures.table;
    }
