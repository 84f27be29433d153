-- The text of a moment: a date and a time of day to the millisecond. Assumes nothing.
use Rattle.std.specs.Prelude.{◌≡◌, ℕ, ◌+◌, ◌/◌, ◌%◌, List, [], ◌∷◌, ◌++◌}
use Rattle.calendar.specs.declared.dates.Date.{Date}
use Rattle.calendar.specs.Calendar.{IsDay}

-- the last decimal digit of a number, and its last two, three and four
abbrev pub digit : ℕ → ℕ
digit n = 48 + n % 10

abbrev pub two : ℕ → List ℕ
two n = digit (n / 10) ∷ (digit n ∷ [])

abbrev pub three : ℕ → List ℕ
three n = digit (n / 100) ∷ two n

abbrev pub four : ℕ → List ℕ
four n = digit (n / 1000) ∷ three n

-- year, month and day, a blank, hours, minutes and seconds, and thousandths
abbrev pub stamp_text : Date → ℕ → List ℕ
stamp_text d millis =
    four d.year ++ (45 ∷ (two d.month ++ (45 ∷ (two d.day ++ (32 ∷ (two (millis / 3600000) ++ (58 ∷ (two (millis / 60000 % 60)
    ++ (58 ∷ (two (millis / 1000 % 60) ++ (46 ∷ three millis)))))))))))

-- the text of a moment, in milliseconds since 1 January 1970: the date of its day, and what is over
pub record Stamped (millis : ℕ) (t : List ℕ) : Type 0 where
  pub date : Date
  pub is_day : IsDay (millis / 86400000) date
  pub text : t ≡ stamp_text date (millis % 86400000)
