-- Takes one after the other, and pieces one after the other. Assumes nothing.
use Rattle.std.proofs.Common.{◌≡◌, ℕ, ◌+◌, ◌-◌, ◌≤◌, Bool, true, false, cond, List, [], ◌∷◌, ◌++◌, length, drop, is_ok, Ok, Err, Result, sym, refl, ap, ◌∙◌, subst, append_assoc, append-nil, arith, length-append}
use Rattle.std.proofs.lemmas.List.{drop-drop}
use Rattle.common.specs.declared.list.List.{List as ListedIn}
use Rattle.common.specs.Lists.{items}
use Rattle.common.specs.Tables.{SameTable}
use Rattle.register.specs.declared.entry.Entry.{Entry}
use Rattle.framing.specs.declared.verdict.Verdict.{Verdict}
use Rattle.format.specs.Meaning.{Meaning}
use Rattle.stream.specs.declared.answers.Fault.{Fault}
use Rattle.stream.specs.declared.answers.Taken.{Taken}
use Rattle.stream.specs.Answers.{ask_close}
use Rattle.stream.specs.View.{View, Terms, terms, Delivers, closed_view, entry_of, found_at, Takes, short, full, brings, rests}
use Rattle.stream.specs.History.{delivered, took, closing, History, accepted, closed}
use Rattle.stream.specs.Law.{Tied}
use Rattle.stream.specs.Feeding.{JustSaid, Fed, Feeds, Many, none, more, TakesAll, Accepts, Feeding, refused, fed}
use Rattle.stream.proofs.Histories.{ok_open}
use Rattle.stream.proofs.Turns.{deliver_tied, close_tied, take_tied}

-- no take takes an entry away
pub grows : {t : Terms} {v v' : View} {es es' : List Entry} {x y : List ℕ} {r : Result Taken Fault} → Takes t v v' es es' x y r → length es ≤ length es'
grows (short a q w e z) = omega (arith, ap length e)
grows (full a c q w e z) = omega (arith, ap length e)
grows {t = t} {v = v} {es = es} (brings a c place len kind f q w e z) = omega (arith, ap length e, length-append es (entry_of t (found_at v place len kind) ∷ []))
grows (rests a c e f q w i z) = omega (arith, ap length i)

-- what is the same from a place on is so from any later one
pub same_further : {X : Type 0} (a b : List X) (n m : ℕ) → n ≤ m → drop n a ≡ drop n b → drop m a ≡ drop m b
same_further a b n m l e =
    let split : n + (m - n) ≡ m = omega arith in
    ap (λ i. drop i a) (sym split) ∙ sym (drop-drop (m - n) n a) ∙ ap (drop (m - n)) e ∙ drop-drop (m - n) n b ∙ ap (λ i. drop i b) split

-- a list over the same table as one over the same table, that has no fewer items
pub same_table : {X : Type 0} {a b c : ListedIn X} → length (items b) ≤ length (items c) → SameTable a b → SameTable b c → SameTable a c
same_table less h k = record {
  same_room = k.same_room ∙ h.same_room;
  rest = k.rest ∙ same_further _ _ _ _ less h.rest;
  lends = k.lends ∙ h.lends;
}

pub its_own_table : {X : Type 0} {a : ListedIn X} → SameTable a a
its_own_table = record { same_room = refl; rest = refl; lends = refl }

-- at a register over the same table
pub at_room : {f : List ℕ → Verdict} {reach : ℕ} {meaning : ℕ → List ℕ → Meaning} {m m' : ℕ} {v v' : View} {es es' : List Entry} {x y : List ℕ} {r : Result Taken Fault}
    → m' ≡ m → Takes (terms f reach meaning m') v v' es es' x y r → Takes (terms f reach meaning m) v v' es es' x y r
at_room {f} {reach} {meaning} {m} {m'} {v} {v'} {es} {es'} {x} {y} {r} same = subst (λ m. Takes (terms f reach meaning m) v v' es es' x y r) same

-- some turns that accepted nothing and closed nothing
record Turned (t : Terms) (h : History) (v : View) (es : List Entry) : Type 0 where
  turns : History
  same : accepted (turns ++ h) ≡ accepted h
  still : closed (turns ++ h) ≡ closed h
  stands : Tied t (turns ++ h) v es

many_turned : {t : Terms} {v : View} {es : List Entry} {x : List ℕ} {v' : View} {es' : List Entry} {x' : List ℕ} → Many t v es x v' es' x' → (h : History) → Tied t h v es → Turned t h v' es'
many_turned none h k = record { turns = []; same = refl; still = refl; stands = k }
many_turned (more {x₁ = x₁} {x₂ = x₂} {r = r} m d b) h k =
    let a = many_turned m h k in
    record { turns = took x₁ x₂ r ∷ a.turns; same = a.same; still = a.still; stands = take_tied d a.stands }

pub takes_law : {t : Terms} {v v' : View} {es es' : List Entry} {x y : List ℕ} {r : Result Taken Fault} → TakesAll t v v' es es' x y r → Feeds t [] (λ c. c) v v' es es' r
takes_law {y = y} {r = r} d h k =
    let a = many_turned d.many h k in
    record {
      turns = took d.left y r ∷ a.turns;
      stands = take_tied d.last a.stands;
      takes_in = λ _. a.same ∙ sym (append-nil (accepted h));
      shuts = λ _. a.still;
      says = λ b e. (d.left, y, a.turns ++ h, ap (λ r. took d.left y r ∷ (a.turns ++ h)) e);
    }

-- a piece, and a closing where it is the last
record Begun (t : Terms) (h : History) (bytes : List ℕ) (final : Bool) (v : View) (es : List Entry) : Type 0 where
  turns : History
  takes_in : accepted (turns ++ h) ≡ accepted h ++ bytes
  shuts : closed (turns ++ h) ≡ final
  stands : Tied t (turns ++ h) v es

begun : {t : Terms} {h : History} {v v' : View} {es : List Entry} {bytes : List ℕ} {u : Unit {0}} (final : Bool) → Delivers v v' bytes (Ok u) → Tied t h v es
    → Begun t h bytes final (cond final (closed_view v') v') es
begun {t} {h} {v} {v'} {es} {bytes} {u} true d k =
    let two : Tied t _ (closed_view v') es = close_tied {r = ask_close v'.closed} (record { says = refl; leaves = refl }) (deliver_tied d k) in
    record {
      turns = closing (ask_close v'.closed) ∷ (delivered bytes (Ok u) ∷ []);
      takes_in = refl;
      shuts = sym two.marked;
      stands = two;
    }
begun {t} {h} {v} {v'} {es} {bytes} {u} false d k =
    let one : Tied t (delivered bytes (Ok u) ∷ h) v' es = deliver_tied d k in
    let a = one.law.answered.1 in
    record {
      turns = delivered bytes (Ok u) ∷ [];
      takes_in = refl;
      shuts = ok_open (closed h) (length (accepted h)) (length (accepted h) - a.0) (length bytes) u a.2;
      stands = one;
    }

and_then : {t : Terms} {h : History} {bytes : List ℕ} {final : Bool} {v v' : View} {es es' : List Entry} {r : Result Taken Fault}
    → (b : Begun t h bytes final v es) → Fed t (b.turns ++ h) [] (λ c. c) v' es' r → Fed t h bytes (λ _. final) v' es' r
and_then {t} {h} {bytes} {final} {v} {v'} {es} {es'} b f =
    let same : (f.turns ++ b.turns) ++ h ≡ f.turns ++ (b.turns ++ h) = append_assoc f.turns b.turns h in
    record {
      turns = f.turns ++ b.turns;
      stands = subst (λ l. Tied t l v' es') (sym same) f.stands;
      takes_in = λ ok. ap accepted same ∙ f.takes_in ok ∙ append-nil (accepted (b.turns ++ h)) ∙ b.takes_in;
      shuts = λ ok. ap closed same ∙ f.shuts ok ∙ b.shuts;
      says = λ a e. subst (JustSaid a) (sym same) (f.says a e);
    }

pub feeding_law : {t : Terms} {bytes : List ℕ} {final : Bool} {v v' : View} {es es' : List Entry} {x y : List ℕ} {r : Result Taken Fault}
    → Feeding t bytes final v v' es es' x y r → Feeds t bytes (λ _. final) v v' es es' r
feeding_law {t} {bytes} {final} {v} {v'} {es} {es'} {x} {y} {r} (refused {f = f} d q i z) h k = record {
  turns = delivered bytes (Err f) ∷ [];
  stands = subst (λ l. Tied t (delivered bytes (Err f) ∷ h) v' l) (sym i) (deliver_tied d k);
  takes_in = λ ok. absurd (not_ok ok q);
  shuts = λ ok. absurd (not_ok ok q);
  says = λ a e. absurd cc;
}
  where
    not_ok : is_ok r ≡ true → r ≡ Err f → ⊥
    not_ok ok q = cc
feeding_law {final = final} (fed d a) h k = let b = begun final d k in and_then b (takes_law a (b.turns ++ h) b.stands)

-- a piece that was kept, with the takes behind it
pub feeding : {t : Terms} {bytes : List ℕ} {final : Bool} {v v₁ v' : View} {es es' : List Entry} {x y : List ℕ} {u : Unit {0}} {r : Result Taken Fault}
    → Accepts bytes final v v₁ (Ok u) → TakesAll t v₁ v' es es' x y r → Feeding t bytes final v v' es es' x y r
feeding {t} {v' = v'} {es = es} {es' = es'} {x = x} {y = y} {r = r} a d = fed a.delivers (subst (λ w. TakesAll t w v' es es' x y r) a.leaves d)

pub not_fed : {t : Terms} {bytes : List ℕ} {final : Bool} {v v₁ : View} {es : List Entry} {x : List ℕ} {f : Fault} {r : Result Taken Fault}
    → Accepts bytes final v v₁ (Err f) → r ≡ Err f → Feeding t bytes final v v₁ es es x x r
not_fed {bytes = bytes} {v = v} {f = f} a e = refused (subst (λ w. Delivers v w bytes (Err f)) (a.delivers.leaves ∙ sym a.leaves) a.delivers) e refl refl
