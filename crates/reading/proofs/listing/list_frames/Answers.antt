use Rattle.std.proofs.Common.{◌+◌, ◌-◌, [], ◌∷◌, sym, refl, subst, arith}
use Rattle.std.proofs.lemmas.Slice.{pushed}
use Rattle.reading.specs.Reading.{Comes}
use Rattle.reading.proofs.Lists.{Lines, none_yet, no_line, one_more, line_more, listed-all}
use Rattle.reading.proofs.listing.list_frames.Goals as goal

pub loop-start-init : goal.loop-start-init
loop-start-init g c = (none_yet, subst (λ l. Lines {v = g.F.Framing.verdict c.args.framing.now} {s = c.args.bytes.now} none_yet l 0 0) (sym c.new-frames.ensures.items) no_line)

pub loop-start-preserved : goal.loop-start-preserved
loop-start-preserved g c =
    let s = c.args.bytes.now in
    let start = c.in-Record.start in
    let len = c.in-Record.len in
    let kind = c.in-Record.kind in
    let v = g.F.Framing.verdict c.args.framing.now in
    let f : Comes v _ s c.loop-start.place start len kind = c.in-Record.ensures in
    let items = pushed (c.line_at.result ∷ []) refl c.in_ok-push.was c.push.ensures.items in
    let u = c.loop-start.invariant.0 in (
      one_more u f,
      subst (λ l. Lines (one_more u f) l (c.loop-start.in_frames + len) (c.loop-start.passed + (start - c.loop-start.place))) (sym items)
          (line_more u c.loop-start.invariant.1 f c.line_at.result c.line_at.ensures),
    )

pub returns : goal.returns
returns g c =
    let u = c.loop-start.invariant.0 in
    let l = c.loop-start.invariant.1 in
    record {
      records = u.records;
      all = refl;
      reading = listed-all (g.met.F.Framing.lawful c.args.framing.now) u c.in_default.ensures;
      frames = l.listed;
      inside = l.inside_is;
      passed = omega (arith, l.adds, u.within);
    }
