use Rattle.std.proofs.Common.{◌+◌, get_or, drop, sym, ap, ◌∙◌, subst}
use Rattle.std.proofs.lemmas.List.{drop_more, drop_all}
use Rattle.std.proofs.lemmas.Bool.{both_ways, and_parts}
use Rattle.format.specs.Items.{inside}
use Rattle.format.specs.Meaning.{joined_parts, bytes_of}
use Rattle.writing.specs.Drafts.{Adds}
use Rattle.writing.specs.Again.{all_inside}
use Rattle.writing.proofs.Filling.{Going, going_more, going_all}
use Rattle.writing.proofs.Rewriting.{no_part}
use Rattle.writing.proofs.again.add_parts.Goals as goal
use Rattle.writing.proofs.again.add_parts.Goals.{in-Ok, in_default}

pub loop-part-preserved : goal.loop-part-preserved
loop-part-preserved c =
    let s = c.args.record.now in
    let ps = c.args.parts.now in
    let all = joined_parts s ps in
    let start = c.args.draft.now in
    let d = c.loop-part.draft in
    let i = c.loop-part.part-index in
    let p = get_or ps i no_part in
    let left = drop (i + 1) ps in
    let next = drop_more ps i no_part c.loop-part-test.true in
    let inv = c.loop-part.invariant in
    let g = subst (λ x. Going all start (joined_parts s x) d) next inv.1 in
    let both = and_parts (inside s p) (all_inside s left) (ap (all_inside s) (sym next) ∙ inv.0) in
    elim c.match-view.branch [
      | in-Ok w ↦
          let r = w.add.result in
          let adds = subst (λ x. Adds d x w.add.new.self r) w.in-Ok.ensures.1 w.add.ensures.does in
          let more = going_more all (bytes_of s p) (joined_parts s left) start d w.add.new.self r g adds w.add.ensures.lends in
          (both.1, subst (Going all start (joined_parts s left)) (sym w.draft-is) more)
      | in_default w ↦ absurd (both_ways (inside s p) w.in_default.ensures.0 both.0)
    ]

pub returns-clause-space : goal.returns-clause-space
returns-clause-space c =
    let s = c.args.record.now in
    let ps = c.args.parts.now in
    let start = c.args.draft.now in
    let d = c.loop-part.draft in
    (going_all (joined_parts s ps) start d
    (subst (λ x. Going (joined_parts s ps) start (joined_parts s x) d) (drop_all c.loop-part.part-index ps c.loop-part-test.false) c.loop-part.invariant.1)).1
