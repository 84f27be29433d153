use Rattle.std.proofs.Common.{◌≡◌, ◌+◌, ◌-◌}
use Rattle.calendar.specs.Calendar.{months_days}
use Rattle.calendar.proofs.dates.date_in.Given as goal

abbrev pub invariant-loop-month : goal.invariant-loop-month
invariant-loop-month l = months_days l.year (l.month - 1) + l.rest ≡ l.day
