use Rattle.std.proofs.Common.{◌≡◌, [], drop, sym, ap, ◌∙◌, arith, rules, length-drop}
use Rattle.std.proofs.lemmas.List.{take_rest}
use Rattle.framing.specs.declared.verdict.Verdict.TheVariants.{NoFrame, Short, Frame}
use Rattle.reading.specs.Reading.{ends, stops, cuts, skips, takes}
use Rattle.reading.proofs.Passing.{passed_over}
use Rattle.reading.proofs.steps.next_record.Goals as goal

pub returns-in-Frame : goal.returns-in-Frame
returns-in-Frame g c =
    let s = c.args.bytes.now in
    let p = c.args.from in
    let v = g.F.Framing.verdict c.args.framing.now in
    let seen : v (drop p s) ≡ Frame c.in-Frame.len c.in-Frame.kind = ap v (sym (take_rest s p)) ∙ sym c.look.ensures ∙ c.in-Frame.is in
    let fits = (g.met.F.Framing.lawful c.args.framing.now).within (drop p s) _ _ seen in
    record {
      behind = omega arith;
      some = fits.0;
      within = omega (arith, fits.1, length-drop p s);
      frame = seen;
      first = λ rs e r. takes (omega arith) seen r;
    }

pub returns-in-Short : goal.returns-in-Short
returns-in-Short g c =
    let s = c.args.bytes.now in
    let v = g.F.Framing.verdict c.args.framing.now in
    let seen : v (drop c.args.from s) ≡ Short = ap v (sym (take_rest s c.args.from)) ∙ sym c.look.ensures ∙ c.in-Short.is in
    stops (omega arith) seen (search rules)

pub returns-in-Short-2 : goal.returns-in-Short-2
returns-in-Short-2 g c =
    let s = c.args.bytes.now in
    let v = g.F.Framing.verdict c.args.framing.now in
    let seen : v (drop c.args.from s) ≡ Short = ap v (sym (take_rest s c.args.from)) ∙ sym c.look.ensures ∙ c.in-Short-2.is in
    passed_over _ (λ rs e r. cuts (omega arith) seen (search rules) r) c.search.ensures

pub returns-in-NoFrame : goal.returns-in-NoFrame
returns-in-NoFrame g c =
    let s = c.args.bytes.now in
    let v = g.F.Framing.verdict c.args.framing.now in
    let seen : v (drop c.args.from s) ≡ NoFrame = ap v (sym (take_rest s c.args.from)) ∙ sym c.look.ensures ∙ c.in-NoFrame.is in
    passed_over _ (λ rs e r. skips (omega arith) seen r) c.search-in-NoFrame.ensures

pub returns-then-from-bytes : goal.returns-then-from-bytes
returns-then-from-bytes g c = ends (omega arith)
