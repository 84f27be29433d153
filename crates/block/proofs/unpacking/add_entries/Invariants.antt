use Rattle.std.proofs.Common.{[], ◌∷◌, take}
use Rattle.std.specs.List.{flat_map}
use Rattle.common.specs.Added.{Added}
use Rattle.block.specs.Entries.{entry_of}
use Rattle.block.proofs.unpacking.add_entries.Given as goal

abbrev pub invariant-loop-slot : goal.invariant-loop-slot
invariant-loop-slot l = Added l.initial.out (flat_map (λ s. entry_of s ∷ []) (take l.slot-index l.slot-items)) l.out
