-- The clock of a velocity record: a Gregorian date and a time of day. Assumes nothing.
use Rattle.std.specs.Prelude.{ℕ, ◌+◌, cond, ◌||◌, List, Some, None, Option, ◌==◌, nat_lt, slice_index}
use Rattle.calendar.specs.Calendar.{days}
use Rattle.velocity.specs.Layout.{word}

-- the place of the first wrong field of a clock that begins at a place:
-- year since 1900, month from 0, day, hour, minute, second, and hundred microseconds
abbrev pub clock_fault : ℕ → ℕ → ℕ → ℕ → ℕ → ℕ → ℕ → ℕ → Option ℕ
clock_fault at year month day hour minute second hundred =
    cond (nat_lt 11 month) (Some (at + 1))
    (cond (day == 0 || nat_lt (days (year + 1900) month) day) (Some (at + 2))
    (cond (nat_lt 23 hour) (Some (at + 3))
    (cond (nat_lt 59 minute) (Some (at + 4))
    (cond (nat_lt 59 second) (Some (at + 5))
    (cond (nat_lt 9999 hundred) (Some (at + 6)) None)))))

-- the same of the clock that a record has at a place
abbrev pub clock_at : ℕ → List ℕ → Option ℕ
clock_at at s =
    clock_fault at (slice_index s at) (slice_index s (at + 1)) (slice_index s (at + 2)) (slice_index s (at + 3)) (slice_index s (at + 4)) (slice_index s (at + 5))
    (word s (at + 6))
