use Rattle.std.proofs.Common.{◌≡◌, ◌-◌, ◌^◌, min, true, length, Ok, sym, ap, ◌∙◌, subst, rules}
use Rattle.format.specs.Meaning.{joined_parts}
use Rattle.writing.specs.declared.again.AgainFault.TheVariants.{Outside}
use Rattle.writing.specs.Drafts.{fits}
use Rattle.writing.specs.Again.{all_inside, series, Rewrites}
use Rattle.writing.proofs.Filling.{fits_capped, writes}
use Rattle.writing.proofs.Rewriting.{ok_given, rewrites}
use Rattle.writing.proofs.again.rewrite.Goals as goal

pub returns : goal.returns
returns c =
    let s = c.args.record.now in
    let ps = c.args.parts.now in
    let before = c.args.space.now in
    let n = length (joined_parts s ps) in
    let size = ok_given (all_inside s ps) c.in_ok-size.size (min n (2 ^ 64 - 1)) Outside c.in_ok-size.ensures in
    let room : fits (length before) n ≡ true =
    sym (fits_capped (length before) n) ∙ ap (fits (length before)) (sym size.1) ∙ sym c.if-not-has_room.ensures in
    let after = c.seal.new.self.0 in
    let done = rewrites s before after ps c.seal.result size.0 room
    (writes (series s) (joined_parts s ps) before after c.start-draft.result c.add_parts.new.draft c.seal.result room c.start-draft.ensures.content
    c.start-draft.ensures.space (c.start-draft.ensures.series ∙ c.binary_series.ensures) c.add_parts.ensures.content c.add_parts.ensures.space
    c.add_parts.ensures.series c.seal.ensures) in
    subst (λ x. Rewrites s ps before x (Ok c.seal.result)) (search rules) done
