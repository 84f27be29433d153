use Rattle.std.proofs.Common.{◌≡◌, false, leb, ◌++◌, length, sym, ap, ◌∙◌, append-nil, arith}
use Rattle.std.specs.List.{flat_map}
use Rattle.std.proofs.lemmas.Bool.{cond-false, lt-leb}
use Rattle.common.specs.Lists.{items}
use Rattle.block.specs.Blocks.{entries_of}
use Rattle.block.specs.Unpacking.{free, given}
use Rattle.block.proofs.Blocks.{entries_count}
use Rattle.block.proofs.Registers.{packed_only}
use Rattle.block.proofs.unpacking.unpack.Goals as goal

pub returns-then-entry_count-room-clause-items : goal.returns-then-entry_count-room-clause-items
returns-then-entry_count-room-clause-items c =
    let a = c.args.out.now in
    let blocks = c.in_ok-blocks.blocks.now in
    let short : leb (length (flat_map entries_of blocks)) (free a) ≡ false =
    lt-leb _ _ (omega (arith, c.entry_count.ensures, c.room.ensures, c.len.ensures, entries_count blocks)) in
    sym (ap (λ u. items a ++ given u (free a)) c.in_ok-blocks.ensures.entries ∙ ap (λ t. items a ++ t) (cond-false _ _ _ short) ∙ append-nil (items a))

pub returns-then-entry_count-room-clause-only : goal.returns-then-entry_count-room-clause-only
returns-then-entry_count-room-clause-only c = packed_only c.args.bytes.now (λ i. (c.type_inv.bytes i).fits)

pub returns-clause-only : goal.returns-clause-only
returns-clause-only c = packed_only c.args.bytes.now (λ i. (c.type_inv.bytes i).fits)
