use Rattle.std.proofs.Common.{◌≡◌, [], length, drop, sym, ap, ◌∙◌, subst, inl, inr, arith, rules, length-drop}
use Rattle.std.proofs.lemmas.Bool.{cases_lt}
use Rattle.std.proofs.lemmas.List.{take_rest}
use Rattle.framing.specs.declared.verdict.Verdict.TheVariants.{Short, Frame}
use Rattle.reading.specs.Reading.{Reading, ends, stops, cuts, skips, takes}
use Rattle.reading.proofs.steps.search.Goals as goal
use Rattle.reading.proofs.steps.search.Goals.{in-Short, in-NoFrame}

pub returns-in-Frame : goal.returns-in-Frame
returns-in-Frame g c =
    let s = c.args.bytes.now in
    let p = c.loop-place.place in
    let v = g.F.Framing.verdict c.args.framing.now in
    let seen : v (drop p s) ≡ Frame c.in-Frame.len c.in-Frame.kind = ap v (sym (take_rest s p)) ∙ sym c.look.ensures ∙ c.in-Frame.is in
    let fits = (g.met.F.Framing.lawful c.args.framing.now).within (drop p s) _ _ seen in
    record {
      behind = c.loop-place.auto.place;
      some = fits.0;
      within = omega (arith, fits.1, length-drop p s);
      frame = seen;
      first = λ rs e r. c.loop-place.invariant _ e (takes c.loop-place-test.true seen r);
    }

pub returns-in-Short-2 : goal.returns-in-Short-2
returns-in-Short-2 g c =
    let s = c.args.bytes.now in
    let p = c.loop-place.place in
    let v = g.F.Framing.verdict c.args.framing.now in
    let seen : v (drop p s) ≡ Short = ap v (sym (take_rest s p)) ∙ sym c.look.ensures ∙ c.in-Short-2.is in
    c.loop-place.invariant _ _ (stops c.loop-place-test.true seen (search rules))

pub loop-place-preserved : goal.loop-place-preserved
loop-place-preserved g c rs e r =
    let s = c.args.bytes.now in
    let p = c.loop-place.place in
    let v = g.F.Framing.verdict c.args.framing.now in
    let saw : v (drop p s) ≡ c.look.result = ap v (sym (take_rest s p)) ∙ sym c.look.ensures in
    c.loop-place.invariant rs e (elim c.match-look.branch [
      | in-Short w ↦ cuts c.loop-place-test.true (saw ∙ w.in-Short.is) (search rules) r
      | in-NoFrame w ↦ skips c.loop-place-test.true (saw ∙ w.in-NoFrame.is) r
    ])

pub returns : goal.returns
returns g c =
    let s = c.args.bytes.now in
    let v = g.F.Framing.verdict c.args.framing.now in
    subst (Reading v c.args.closed s c.args.from []) (sym c.max.ensures)
    (elim (cases_lt (length s) c.args.from) [
      | inl past ↦ subst (Reading v c.args.closed s c.args.from []) (omega arith) (ends (omega arith))
      | inr before ↦ c.loop-place.invariant [] _ (subst (Reading v c.args.closed s c.loop-place.place []) (omega arith) (ends c.loop-place-test.false))
    ])
