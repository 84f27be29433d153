-- The Gregorian calendar. Assumes nothing.
use Rattle.std.specs.Prelude.{◌≡◌, ℕ, zero, suc, ◌+◌, ◌-◌, ◌%◌, ◌≤◌, Bool, cond, not, ◌&&◌, ◌||◌, ◌==◌}
use Rattle.calendar.specs.declared.dates.Date.{Date}

-- whether a year has a 29 February
abbrev pub leap : ℕ → Bool
leap year = year % 4 == 0 && (not (year % 100 == 0) || year % 400 == 0)

-- the days of a month, counted from 0, of a year
abbrev pub days : ℕ → ℕ → ℕ
days year month =
    cond (month == 1) (cond (leap year) 29 28)
    (cond (month == 3 || (month == 5 || (month == 8 || month == 10))) 30 31)

-- the days of a year; of the first months of a year; and of the first years from 1970 on
abbrev pub year_days : ℕ → ℕ
year_days year = cond (leap year) 366 365

unfoldable pub months_days : ℕ → ℕ → ℕ
months_days year zero = 0
months_days year (suc months) = months_days year months + days year months

unfoldable pub years_days : ℕ → ℕ
years_days zero = 0
years_days (suc years) = years_days years + year_days (1970 + years)

-- a date that the calendar has
pub record Real (d : Date) : Type 0 where
  pub month_low : 1 ≤ d.month
  pub month_high : d.month ≤ 12
  pub day_low : 1 ≤ d.day
  pub day_high : d.day ≤ days d.year (d.month - 1)

-- a date of a year, with this many days of that year before it
pub record Dated (year day : ℕ) (d : Date) : Type 0 where
  pub real : Real d
  pub in_year : d.year ≡ year
  pub at : months_days year (d.month - 1) + d.day ≡ day + 1

-- a date from 1970 to 9999, with this many days before it since 1 January 1970
pub record IsDay (day : ℕ) (d : Date) : Type 0 where
  pub real : Real d
  pub late : 1970 ≤ d.year
  pub early : d.year ≤ 9999
  pub at : years_days (d.year - 1970) + (months_days d.year (d.month - 1) + d.day) ≡ day + 1
