use Rattle.std.proofs.Common.{◌≡◌, ◌+◌, ◌-◌}
use Rattle.calendar.specs.Calendar.{years_days}
use Rattle.calendar.proofs.dates.date_of.Given as goal

abbrev pub invariant-loop-year : goal.invariant-loop-year
invariant-loop-year l = years_days (l.year - 1970) + l.rest ≡ l.day
