use Rattle.std.proofs.Common.{◌≡◌, true, drop}
use Rattle.format.specs.Meaning.{joined_parts}
use Rattle.writing.specs.Again.{all_inside}
use Rattle.writing.proofs.Filling.{Going}
use Rattle.writing.proofs.again.add_parts.Given as goal

abbrev pub invariant-loop-part : goal.invariant-loop-part
invariant-loop-part l =
    (all_inside l.«record» (drop l.part-index l.parts) ≡ true)
    × Going (joined_parts l.«record» l.parts) l.initial.draft (joined_parts l.«record» (drop l.part-index l.parts)) l.draft
