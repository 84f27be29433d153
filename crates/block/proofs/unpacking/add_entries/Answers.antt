use Rattle.std.proofs.Common.{◌≡◌, ℕ, ◌+◌, ◌≤◌, List, [], ◌∷◌, length, map, ap, ◌∙◌, subst, arith}
use Rattle.std.specs.List.{flat_map}
use Rattle.std.proofs.lemmas.List.{take_all}
use Rattle.std.proofs.lemmas.List.Concat.{flat_map_single}
use Rattle.common.specs.Lists.{items, room}
use Rattle.common.specs.Added.{Added}
use Rattle.common.proofs.Additions.{added_one}
use Rattle.register.specs.declared.entry.Entry.{Entry}
use Rattle.block.specs.Entries.{entry_of}
use Rattle.block.specs.Blocks.{entries_of}
use Rattle.block.proofs.Blocks.{count_long}
use Rattle.block.proofs.Gains.{added_step, step_fits}
use Rattle.block.proofs.unpacking.add_entries.Goals as goal

abbrev one : List ℕ → List Entry
one s = entry_of s ∷ []

pub loop-slot-preserved : goal.loop-slot-preserved
loop-slot-preserved c =
    let a = c.args.out.now in
    let before = c.loop-slot.out in
    let xs = c.slots-slot-items.result.now in
    let i = c.loop-slot.slot-index in
    let less = c.loop-slot-test.true in
    let all : flat_map one xs ≡ entries_of c.args.block.now = flat_map_single entry_of xs ∙ ap (map entry_of) c.slots-slot-items.ensures in
    let fits : length (items before) + 1 ≤ room before =
    step_fits a before one xs i [] less c.loop-slot.invariant (omega (arith, ap length all, count_long c.args.block.now, c.requires.room)) in
    let said = c.push.ensures in
    added_step a before one xs i [] less c.loop-slot.invariant c.push.new.self _ (ap (λ e. e ∷ []) c.entry_of.ensures)
    (added_one before c.push.new.self c.entry_of.result (omega arith) said.items said.table said.lends)

pub returns : goal.returns
returns c =
    let xs = c.slots-slot-items.result.now in
    subst (λ es. Added c.args.out.now es c.loop-slot.out)
    (ap (flat_map one) (take_all c.loop-slot.slot-index xs c.loop-slot-test.false) ∙ flat_map_single entry_of xs ∙ ap (map entry_of) c.slots-slot-items.ensures)
    c.loop-slot.invariant
