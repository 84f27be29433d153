-- What stands after standard input was registered, whatever it was. Assumes nothing.
use Rattle.std.specs.Prelude.{◌≡◌, ℕ, false, List, [], ◌++◌, Some, None, Ok, Err, Option, Result, IsErr}
use Rattle.anyhow.specs.declared.error.Error.{Error}
use Rattle.common.specs.declared.refusal.Refusal.{Refusal}
use Rattle.register.specs.declared.entry.Entry.{Entry}
use Rattle.stream.specs.declared.answers.Fault.{Fault}
use Rattle.stream.specs.declared.answers.Taken.{Taken}
use Rattle.stream.specs.declared.answers.Taken.TheVariants.{Drained}
use Rattle.stream.specs.Answers.{told}
use Rattle.stream.specs.View.{View, Terms}
use Rattle.stream.specs.History.{History}
use Rattle.stream.specs.Law.{Tied}
use Rattle.stream.specs.Feeding.{JustSaid, Feeding}

-- A history that goes on from h by some more turns stands. Where nothing was refused and reading did not fail, its newest turn is a take that said
-- that the stream is drained; a refusal is that of a call.
pub record Registered (t : Terms) (h : History) (v : View) (es : List Entry) (r : Result (Option Refusal) Error) : Type 0 where
  pub turns : History
  pub stands : Tied t (turns ++ h) v es
  pub drained : r ≡ Ok None → JustSaid Drained (turns ++ h)
  pub refused : (x : Refusal) → r ≡ Ok (Some x) → (f : Fault) × (x ≡ told f)

-- whatever history stood before
abbrev pub Registers : Terms → View → View → List Entry → List Entry → Result (Option Refusal) Error → Type 0
Registers t v v' es es' r = (h : History) → Tied t h v es → Registered t h v' es' r

-- what is answered of an input of which no byte can be read: the refusal of a call, or else an error
abbrev pub unread : Result Taken Fault → Result (Option Refusal) Error → Type 0
unread (Err f) r = r ≡ Ok (Some (told f))
unread (Ok a) r = IsErr r

-- No byte can be read, since a piece has no room. What waits is taken, as by a feed of no bytes that is not the last.
pub record WithoutBytes (t : Terms) (v v' : View) (es es' : List Entry) (x y : List ℕ) (r : Result (Option Refusal) Error) : Type 0 where
  pub answer : Result Taken Fault
  pub does : Feeding t [] false v v' es es' x y answer
  pub says : unread answer r
