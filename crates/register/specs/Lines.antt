-- The lines of text of entries and totals, and what writing one leaves. Assumes nothing.
use Rattle.std.specs.Prelude.{◌≡◌, ℕ, cond, List, [], ◌∷◌, ◌++◌, length, drop, Ok, Err, codes, decimal, Result, nat_le}
use Rattle.common.specs.declared.refusal.Refusal.{Refusal}
use Rattle.register.specs.declared.entry.Entry.{Entry}
use Rattle.register.specs.declared.entry.Totals.{Totals}
use Rattle.register.specs.declared.lines.LineShort.{LineShort}

-- an entry's fields, in decimal, with single blanks, and a line feed
abbrev pub entry_text : Entry → List ℕ
entry_text e =
    decimal e.place ++ (32 ∷ (decimal e.len ++ (32 ∷ (decimal e.kind ++ (32 ∷ (decimal e.series
    ++ (32 ∷ (decimal e.verdict ++ (32 ∷ (decimal e.fault ++ (10 ∷ [])))))))))))

-- the totals: accepted, the number of records, passed over, waiting
abbrev pub totals_text : Totals → List ℕ
totals_text t =
    codes "accepted " ++ (decimal t.accepted ++ (codes " records " ++ (decimal t.records
    ++ (codes " passed " ++ (decimal t.passed ++ (codes " waiting " ++ (decimal t.waiting ++ (10 ∷ []))))))))

abbrev pub short : LineShort
short = record {}

-- a text written to the front of a space: how many bytes it has, the rest of the space as it was; or a refusal, and the space untouched
pub record Written (text before after : List ℕ) (r : Result ℕ LineShort) : Type 0 where
  pub says : r ≡ cond (nat_le (length text) (length before)) (Ok (length text)) (Err short)
  pub leaves : after ≡ cond (nat_le (length text) (length before)) (text ++ drop (length text) before) before

abbrev pub told : LineShort → Refusal
told _ = record { number = 26; layer = 3; place = 0 }
