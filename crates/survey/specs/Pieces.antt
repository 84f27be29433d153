-- The pieces in which standard input is read. Assumes nothing.
use Rattle.std.specs.Prelude.{ℕ, ◌-◌, min, length}
use Rattle.stream.specs.Answers.{most_waiting}
use Rattle.stream.specs.View.{View}

-- how many bytes are asked for: as many as may wait besides those that do, and as a space of `room` bytes holds
abbrev pub asked : View → ℕ → ℕ
asked v room = min (most_waiting - length v.waiting) room
