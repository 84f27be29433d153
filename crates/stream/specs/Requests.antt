-- Lists of requests, and the histories that answer them. Assumes nothing.
use Rattle.std.specs.Prelude.{◌≡◌, ℕ, min, List, [], ◌∷◌, ◌++◌, length, take, drop, Result}
use Rattle.register.specs.declared.entry.Entry.{Entry}
use Rattle.register.specs.declared.entry.Totals.{Totals}
use Rattle.stream.specs.declared.answers.Fault.{Fault}
use Rattle.stream.specs.declared.answers.Taken.{Taken}
use Rattle.stream.specs.declared.runs.Request.{Request}
use Rattle.stream.specs.declared.runs.Request.TheVariants.{Deliver, Take, Close, Tell}
use Rattle.stream.specs.View.{View, Terms}
use Rattle.stream.specs.History.{Turn, delivered, took, closing, looked, History}
use Rattle.stream.specs.Law.{Tied}

-- a turn answers a request: a delivery is of a part of these bytes, and a take is lent the front of a space, of which it leaves the rest
pub data Answers (bytes : List ℕ) : Request → Turn → List ℕ → List ℕ → Type 0 where
  delivery : {start len : ℕ} {b s : List ℕ} {r : Result (Unit {0}) Fault} → b ≡ take len (drop start bytes) → Answers bytes (Deliver start len) (delivered b r) s s
  taking : {room : ℕ} {x y s s' : List ℕ} {r : Result Taken Fault} → x ≡ take (min room (length s)) s → s' ≡ y ++ drop (min room (length s)) s
      → Answers bytes (Take room) (took x y r) s s'
  close : {s : List ℕ} {r : Result (Unit {0}) Fault} → Answers bytes Close (closing r) s s
  tell : {s : List ℕ} {t : Totals} → Answers bytes Tell (looked t) s s

-- a history goes on from h, and a space from s, by the turns that answer a list of requests, in their order
pub data Follows (bytes : List ℕ) (h : History) (s : List ℕ) : List Request → History → List ℕ → Type 0 where
  none : Follows bytes h s [] h s
  more : {qs : List Request} {q : Request} {h' : History} {a : Turn} {s' s'' : List ℕ} → Follows bytes h s qs h' s' → Answers bytes q a s' s''
      → Follows bytes h s (qs ++ (q ∷ [])) (a ∷ h') s''

-- whatever history satisfied the law before, one that goes on from it by these requests satisfies it after
abbrev pub Carries : Terms → List ℕ → List Request → View → View → List Entry → List Entry → List ℕ → List ℕ → Type 0
Carries t bytes qs v v' es es' s s' = (h : History) → Tied t h v es → (h' : History) × Follows bytes h s qs h' s' × Tied t h' v' es'

-- from a new intake and an empty register, these requests come to a history that satisfies the law, and a last look tells these totals
pub record Ran (t : Terms) (bytes : List ℕ) (qs : List Request) (s s' : List ℕ) (told : Totals) (es : List Entry) : Type 0 where
  pub history : History
  pub follows : Follows bytes [] s qs history s'
  pub view : View
  pub stands : Tied t (looked told ∷ history) view es
