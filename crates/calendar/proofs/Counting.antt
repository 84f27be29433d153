-- The days of months and years, added up. Assumes nothing.
use Rattle.std.proofs.Common.{◌≡◌, ℕ, suc, ◌+◌, ◌-◌, ◌≤◌, Bool, true, false, cond, refl, ap, ◌∙◌, arith}
use Rattle.calendar.specs.Calendar.{leap, days, year_days, months_days, years_days}

pub no_months : (year : ℕ) → months_days year 0 ≡ 0
unfolding months_days
no_months year = refl

pub one_month_more : (year month : ℕ) → 1 ≤ month → months_days year (month + 1 - 1) ≡ months_days year (month - 1) + days year (month - 1)
unfolding months_days
one_month_more year month first =
    let next : month + 1 - 1 ≡ suc (month - 1) = omega arith in
    rw next

twelve_months : (b : Bool) → 0 + 31 + cond b 29 28 + 31 + 30 + 31 + 30 + 31 + 31 + 30 + 31 + 30 + 31 ≡ cond b 366 365
twelve_months true = refl
twelve_months false = refl

pub whole_year : (year m : ℕ) → m ≡ 12 → months_days year m ≡ year_days year
unfolding months_days
whole_year year m twelve = ap (months_days year) twelve ∙ twelve_months (leap year)

pub ruleset month_steps = (no_months, one_month_more, whole_year)

pub no_years : years_days 0 ≡ 0
unfolding years_days
no_years = refl

pub one_year_more : (year : ℕ) → 1970 ≤ year → years_days (year + 1 - 1970) ≡ years_days (year - 1970) + year_days year
unfolding years_days
one_year_more year late =
    let next : year + 1 - 1970 ≡ suc (year - 1970) = omega arith in
    let back : 1970 + (year - 1970) ≡ year = omega arith in
    rw (next, back)

pub ruleset year_steps = (no_years, one_year_more)
