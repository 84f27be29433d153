use Rattle.std.proofs.Common.{◌≡◌, take, drop, ap, ◌∙◌, arith}
use Rattle.framing.specs.Binary.{header_of}
use Rattle.writing.specs.Drafts.{put_at}
use Rattle.writing.proofs.Seals.{sealed}
use Rattle.writing.proofs.drafts.write_header.Goals as goal

pub returns : goal.returns
returns c =
    let s = c.args.space.now in
    let header : c.header_of-header.result ≡ header_of c.args.series (take c.args.len (drop 10 s)) =
    c.header_of-header.ensures ∙ ap (λ k. header_of c.args.series (take k (drop 10 s))) (omega arith) in
    sealed c.args.series c.args.len s _ (omega (arith, c.if-space-lt-HEADER.false)) (omega arith) (c.put.ensures ∙ ap (λ h. put_at 0 h s) header)
