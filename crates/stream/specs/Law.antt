-- The law over histories: how every turn is answered, and what the register then lists. Assumes nothing.
use Rattle.std.specs.Prelude.{◌≡◌, ℕ, ◌+◌, ◌-◌, ◌<◌, ◌≤◌, false, not, List, [], ◌∷◌, ◌++◌, map, length, take, drop, Ok, Err, Result}
use Rattle.std.specs.List.{AllByRecursion}
use Rattle.register.specs.declared.entry.Entry.{Entry}
use Rattle.register.specs.declared.entry.Totals.{Totals}
use Rattle.reading.specs.Reading.{Found}
use Rattle.reading.specs.Listed.{framed}
use Rattle.stream.specs.declared.answers.Fault.{Fault}
use Rattle.stream.specs.declared.answers.Fault.TheVariants.{SpaceShort, RegisterFull}
use Rattle.stream.specs.declared.answers.Taken.{Taken}
use Rattle.stream.specs.declared.answers.Taken.TheVariants.{Record}
use Rattle.stream.specs.Answers.{ask_deliver, ask_close, nothing, most_waiting}
use Rattle.stream.specs.View.{View, Terms, Lawful, entry_of}
use Rattle.stream.specs.History.{Turn, delivered, took, closing, looked, History, accepted, closed, brought, Reads, Reached}

-- what a take says and leaves in the space, after a history
pub data TakeSaid (t : Terms) (h : History) (x y : List ℕ) (r : Result Taken Fault) : Type 0 where
  -- is the space at least the reach?
  short : length x < t.reach → y ≡ x → r ≡ Err SpaceShort → TakeSaid t h x y r
  -- has the register a free place?
  full : t.reach ≤ length x → t.room ≤ brought h → y ≡ x → r ≡ Err RegisterFull → TakeSaid t h x y r
  -- the reading of all accepted bytes has a record behind those that were brought: it is copied to the front of the space, and its entry told
  next : t.reach ≤ length x → brought h < t.room
      → (front : List Found) (f : Found) (more : List Found) (e : ℕ) → Reads t h 0 (front ++ (f ∷ more)) e → length front ≡ brought h
      → y ≡ f.bytes ++ drop (length f.bytes) x → r ≡ Ok (Record (entry_of t f)) → TakeSaid t h x y r
  -- it has no more than were brought; where the stream is open, under 8,192 bytes then wait
  none : t.reach ≤ length x → brought h < t.room
      → (rs : List Found) (e : ℕ) → Reads t h 0 rs e → length rs ≡ brought h → (closed h ≡ false → length (accepted h) - e < most_waiting)
      → y ≡ x → r ≡ Ok (nothing (closed h)) → TakeSaid t h x y r

-- the totals after a history that reached place p, its reading having the records rs
abbrev pub totals_of : History → ℕ → List Found → Totals
totals_of h p rs = record {
  accepted = length (accepted h);
  registered = framed (take (brought h) rs);
  passed = p - framed (take (brought h) rs);
  waiting = length (accepted h) - p;
  records = brought h;
  «open» = not (closed h);
}

-- a turn is answered as its questions and the reading have it, after a history that reached place p
abbrev pub Said : Terms → History → ℕ → Turn → Type 0
Said t h p (delivered b r) = r ≡ ask_deliver (closed h) (length (accepted h)) (length (accepted h) - p) (length b)
Said t h p (took x y r) = TakeSaid t h x y r
Said t h p (closing r) = r ≡ ask_close (closed h)
Said t h p (looked s) = (rs : List Found) × (e : ℕ) × Reads t h 0 rs e × (s ≡ totals_of h p rs)

-- every turn of a history was answered so
abbrev pub Answered : Terms → History → Type 0
Answered t [] = Unit {0}
Answered t (a ∷ h) = Answered t h × ((p : ℕ) × Reached t h p × Said t h p a)

-- a byte of the stream lies in no record of a list
abbrev pub Outside : ℕ → List Found → Type 0
Outside i rs = AllByRecursion (λ f. f.place ≤ i → i < f.place + length f.bytes → ⊥) rs

-- The law of a history that reached place p, with these entries in the register.
pub record Law (t : Terms) (h : History) (p : ℕ) (es : List Entry) : Type 0 where
  pub answered : Answered t h
  pub reached : Reached t h p
  -- a. the register lists the first records of the reading of all accepted bytes, as many as takes have brought
  pub lists : (rs : List Found) (e : ℕ) → Reads t h 0 rs e → (brought h ≤ length rs) × (es ≡ map (entry_of t) (take (brought h) rs))
  -- b. accepted bytes are registered, passed over or waiting, and a byte passed over lies in no record of the reading
  pub adds : (rs : List Found) (e : ℕ) → Reads t h 0 rs e
      → framed (take (brought h) rs) + (p - framed (take (brought h) rs)) + (length (accepted h) - p) ≡ length (accepted h)
  pub passed : (rs : List Found) (e : ℕ) → Reads t h 0 rs e → (i : ℕ) → i < p → Outside i (take (brought h) rs) → Outside i rs

-- The law, tied to what an intake holds and to the register's entries.
pub record Tied (t : Terms) (h : History) (v : View) (es : List Entry) : Type 0 where
  pub lawful : Lawful t
  pub place : ℕ
  pub law : Law t h place es
  pub waiting : v.waiting ≡ drop place (accepted h)
  pub counted : v.accepted ≡ length (accepted h)
  pub registered : (rs : List Found) (e : ℕ) → Reads t h 0 rs e → v.registered ≡ framed (take (brought h) rs)
  pub records : v.records ≡ brought h
  pub marked : v.closed ≡ closed h
