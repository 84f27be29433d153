-- A stream fed piece by piece, and taken from until there is no record. Assumes nothing.
use Rattle.std.specs.Prelude.{◌≡◌, ℕ, Bool, true, false, cond, List, ◌∷◌, ◌++◌, is_ok, Ok, Err, Result}
use Rattle.register.specs.declared.entry.Entry.{Entry}
use Rattle.stream.specs.declared.answers.Fault.{Fault}
use Rattle.stream.specs.declared.answers.Taken.{Taken}
use Rattle.stream.specs.declared.answers.Taken.TheVariants.{Record, NotYet, Drained}
use Rattle.stream.specs.View.{View, Terms, Delivers, closed_view, Takes}
use Rattle.stream.specs.History.{took, History, accepted, closed}
use Rattle.stream.specs.Law.{Tied}

-- the newest turn of a history is a take that said this
abbrev pub JustSaid : Taken → History → Type 0
JustSaid a h = (x : List ℕ) × (y : List ℕ) × (before : History) × (h ≡ took x y (Ok a) ∷ before)

-- A history that goes on from h by some more turns stands. Where the answer is no refusal, it has accepted these bytes besides, is closed or not
-- as `mark` has it, and its newest turn is the take that gave the answer.
pub record Fed (t : Terms) (h : History) (bytes : List ℕ) (mark : Bool → Bool) (v : View) (es : List Entry) (r : Result Taken Fault) : Type 0 where
  pub turns : History
  pub stands : Tied t (turns ++ h) v es
  pub takes_in : is_ok r ≡ true → accepted (turns ++ h) ≡ accepted h ++ bytes
  pub shuts : is_ok r ≡ true → closed (turns ++ h) ≡ mark (closed h)
  pub says : (a : Taken) → r ≡ Ok a → JustSaid a (turns ++ h)

-- what the piece alone does: all its bytes wait, and the stream is closed where it is the last; or nothing changes
pub record Accepts (bytes : List ℕ) (final : Bool) (v v' : View) (r : Result (Unit {0}) Fault) : Type 0 where
  pub after : View
  pub delivers : Delivers v after bytes r
  pub leaves : v' ≡ cond (is_ok r) (cond final (closed_view after) after) v

-- whatever history stood before
abbrev pub Feeds : Terms → List ℕ → (Bool → Bool) → View → View → List Entry → List Entry → Result Taken Fault → Type 0
Feeds t bytes mark v v' es es' r = (h : History) → Tied t h v es → Fed t h bytes mark v' es' r

-- whether an answer is a record
abbrev pub brings_record : Result Taken Fault → Bool
brings_record (Ok (Record e)) = true
brings_record (Ok NotYet) = false
brings_record (Ok Drained) = false
brings_record (Err f) = false

-- takes one after the other that each bring a record
pub data Many (t : Terms) (v : View) (es : List Entry) (x : List ℕ) : View → List Entry → List ℕ → Type 0 where
  none : Many t v es x v es x
  more : {v₁ v₂ : View} {es₁ es₂ : List Entry} {x₁ x₂ : List ℕ} {r : Result Taken Fault}
      → Many t v es x v₁ es₁ x₁ → Takes t v₁ v₂ es₁ es₂ x₁ x₂ r → brings_record r ≡ true → Many t v es x v₂ es₂ x₂

-- takes until one brings no record, which gives the answer
pub record TakesAll (t : Terms) (v v' : View) (es es' : List Entry) (x y : List ℕ) (r : Result Taken Fault) : Type 0 where
  pub held : View
  pub listed : List Entry
  pub left : List ℕ
  pub many : Many t v es x held listed left
  pub last : Takes t held v' listed es' left y r
  pub ends : brings_record r ≡ false

-- a piece, a closing where it is the last, and then all takes; or nothing, where the piece is refused
pub data Feeding (t : Terms) (bytes : List ℕ) (final : Bool) (v v' : View) (es es' : List Entry) (x y : List ℕ) (r : Result Taken Fault) : Type 0 where
  refused : {f : Fault} → Delivers v v' bytes (Err f) → r ≡ Err f → es' ≡ es → y ≡ x → Feeding t bytes final v v' es es' x y r
  fed : {v₁ : View} {u : Unit {0}} → Delivers v v₁ bytes (Ok u) → TakesAll t (cond final (closed_view v₁) v₁) v' es es' x y r
      → Feeding t bytes final v v' es es' x y r
