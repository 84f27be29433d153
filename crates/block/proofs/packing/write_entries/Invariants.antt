use Rattle.std.proofs.Common.{◌≡◌, ◌*◌, ◌++◌, take, drop}
use Rattle.std.specs.List.{flat_map, AllByRecursion}
use Rattle.block.specs.Entries.{entry_size, entry_bytes, Fits}
use Rattle.block.proofs.packing.write_entries.Given as goal

-- the entries so far are written, and the rest of the block is as it was
abbrev pub invariant-loop-k : goal.invariant-loop-k
invariant-loop-k l =
    (l.area ≡ flat_map entry_bytes (take l.k l.entries) ++ drop (entry_size * l.k) l.initial.area) × AllByRecursion Fits (take l.k l.entries)
