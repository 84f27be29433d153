-- What the auditor asks, as theorems over the law. Assumes nothing.
use Rattle.std.specs.Prelude.{◌≡◌, ℕ, true, List, [], ◌∷◌, map, Ok, Result}
use Rattle.register.specs.declared.entry.Entry.{Entry}
use Rattle.reading.specs.Reading.{Found, Reading}
use Rattle.stream.specs.declared.answers.Taken.TheVariants.{Drained}
use Rattle.stream.specs.View.{View, Terms, entry_of, totals}
use Rattle.stream.specs.History.{Turn, delivered, took, closing, looked, History, accepted}
use Rattle.stream.specs.Law.{Tied}

-- some take of a history said that the stream is drained
pub data HasDrained : History → Type 0 where
  here : {h : History} {x y : List ℕ} → HasDrained (took x y (Ok Drained) ∷ h)
  before : {h : History} {a : Turn} → HasDrained h → HasDrained (a ∷ h)

-- Complete: when a take has said *drained*, the register lists every record of the closed reading of all accepted bytes, and no byte waits.
abbrev pub Complete : Type 0
Complete =
    (t : Terms) (h : History) (v : View) (es : List Entry) → Tied t h v es → HasDrained h
    → (rs : List Found) × (e : ℕ) × Reading t.verdict true (accepted h) 0 rs e × (es ≡ map (entry_of t) rs) × (v.waiting ≡ [])

-- Cuts do not matter: two drained histories with the same accepted bytes, read by the same framing and formats, have the same register, and the
-- same totals, however they were cut and interleaved, and whatever room their registers had.
abbrev pub CutsDoNotMatter : Type 0
CutsDoNotMatter =
    (t t' : Terms) (h h' : History) (v v' : View) (es es' : List Entry) → t.verdict ≡ t'.verdict → t.meaning ≡ t'.meaning
    → Tied t h v es → Tied t' h' v' es' → HasDrained h → HasDrained h' → accepted h ≡ accepted h' → (es ≡ es') × (totals v ≡ totals v')

-- two turns ask the same, a take of the same space
pub data SameRequest : Turn → Turn → Type 0 where
  delivery : {b : List ℕ} (r r' : Result _ _) → SameRequest (delivered b r) (delivered b r')
  taking : {x : List ℕ} (y y' : List ℕ) (r r' : Result _ _) → SameRequest (took x y r) (took x y' r')
  close : (r r' : Result _ _) → SameRequest (closing r) (closing r')
  tell : (s s' : _) → SameRequest (looked s) (looked s')

-- One answer: two answers to the same turn after the same history, both by the law, are equal, the space left and the register included.
abbrev pub OneAnswer : Type 0
OneAnswer =
    (t : Terms) (h : History) (a a' : Turn) (v v' : View) (es es' : List Entry) → SameRequest a a' → Tied t (a ∷ h) v es → Tied t (a' ∷ h) v' es'
    → (a ≡ a') × (es ≡ es') × (v ≡ v')
