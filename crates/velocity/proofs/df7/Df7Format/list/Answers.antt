use Rattle.std.proofs.Common.{sym, ap, ◌∙◌, subst}
use Rattle.format.specs.Meaning.{Leaves, accepted}
use Rattle.velocity.specs.Df7.{df7_parts}
use Rattle.velocity.proofs.df7.Df7Format.list.Goals as goal

pub returns : goal.returns
returns c =
    let read = c.in_ok-read.ensures in
    subst (λ m. Leaves m c.args.out.now c.list.new.out c.list.result) (ap (λ s. accepted (df7_parts s)) read.0 ∙ sym read.1) c.list.ensures
