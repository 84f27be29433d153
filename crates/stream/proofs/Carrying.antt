-- Requests run one after the other. Assumes nothing.
use Rattle.std.proofs.Common.{◌≡◌, ℕ, ◌+◌, ◌<◌, ◌≤◌, List, [], ◌∷◌, ◌++◌, length, get_or, take, drop, sym, ap, ◌∙◌, subst, append_assoc, append-nil}
use Rattle.std.proofs.lemmas.List.{take_more, take_all, length-take-le}
use Rattle.register.specs.declared.entry.Entry.{Entry}
use Rattle.stream.specs.declared.runs.Request.{Request}
use Rattle.framing.specs.declared.verdict.Verdict.{Verdict}
use Rattle.format.specs.Meaning.{Meaning}
use Rattle.register.specs.declared.entry.Totals.{Totals}
use Rattle.stream.specs.View.{View, Terms, terms, Lawful, totals}
use Rattle.stream.specs.History.{Turn, History}
use Rattle.stream.specs.Law.{Tied}
use Rattle.stream.specs.Requests.{Answers, Follows, none, more, Carries, Ran}
use Rattle.stream.proofs.Histories.{entries_are}
use Rattle.stream.proofs.Turns.{look_tied}

pub one_turn : {bytes : List ℕ} {h : History} {a : Turn} {s s' : List ℕ} {q p : Request} → q ≡ p → Answers bytes p a s s' → Follows bytes h s (q ∷ []) (a ∷ h) s'
one_turn {bytes} {h} {a} {s} {s'} e x = subst (λ q. Follows bytes h s (q ∷ []) (a ∷ h) s') (sym e) (more none x)

-- what follows a history that follows another
join : {bytes : List ℕ} {h : History} {s : List ℕ} {qs : List Request} {h' : History} {s' : List ℕ} {ps : List Request} {h'' : History} {s'' : List ℕ}
    → Follows bytes h s qs h' s' → Follows bytes h' s' ps h'' s'' → Follows bytes h s (qs ++ ps) h'' s''
join {bytes} {h} {s} {qs} {h'} {s'} {ps} {h''} {s''} f none = subst (λ l. Follows bytes h s l h'' s'') (sym (append-nil qs)) f
join {bytes} {h} {s} {qs} {h'} {s'} {ps} {h''} {s''} f (more {qs = ps'} {q = q} g x) =
    subst (λ l. Follows bytes h s l h'' s'') (append_assoc qs ps' (q ∷ [])) (more (join f g) x)

module _ {t : Terms} {bytes : List ℕ} where
  pub carry_none : {v : View} {es : List Entry} {s : List ℕ} → Carries t bytes [] v v es es s s
  carry_none h k = (h, none, k)

  carry_on : {v v' v'' : View} {es es' es'' : List Entry} {s s' s'' : List ℕ} {qs ps : List Request} → Carries t bytes qs v v' es es' s s'
      → Carries t bytes ps v' v'' es' es'' s' s'' → Carries t bytes (qs ++ ps) v v'' es es'' s s''
  carry_on f g h k = let a = f h k in let b = g a.0 a.2 in (b.0, join a.1 b.1, b.2)

  -- all requests
  pub carry_all : {v v' : View} {es es' : List Entry} {s s' : List ℕ} {qs : List Request} (i : ℕ) → Carries t bytes (take i qs) v v' es es' s s' → length qs ≤ i
      → Carries t bytes qs v v' es es' s s'
  carry_all {v} {v'} {es} {es'} {s} {s'} {qs} i k h = subst (λ l. Carries t bytes l v v' es es' s s') (take_all i qs h) k

-- one request more, of a register over the same table
pub carry_more : {bytes : List ℕ} {f : List ℕ → Verdict} {reach : ℕ} {meaning : ℕ → List ℕ → Meaning} {m m' : ℕ} {v v' v'' : View} {es es' es'' : List Entry} {s s' s'' : List ℕ}
    (qs : List Request) (i : ℕ) (q : Request)
    → Carries (terms f reach meaning m) bytes (take i qs) v v' es es' s s' → m' ≡ m → i < length qs → q ≡ get_or qs i q
    → Carries (terms f reach meaning m') bytes (q ∷ []) v' v'' es' es'' s' s'' → Carries (terms f reach meaning m) bytes (take (i + 1) qs) v v'' es es'' s s''
carry_more {bytes} {f} {reach} {meaning} {m} {m'} {v} {v'} {v''} {es} {es'} {es''} {s} {s'} {s''} qs i q before same less is this =
    let this₁ : Carries (terms f reach meaning m) bytes (q ∷ []) v' v'' es' es'' s' s'' =
    subst (λ m. Carries (terms f reach meaning m) bytes (q ∷ []) v' v'' es' es'' s' s'') same this in
    let one_more : take i qs ++ (q ∷ []) ≡ take (i + 1) qs = ap (λ x. take i qs ++ (x ∷ [])) is ∙ sym (take_more qs i q less) in
    subst (λ l. Carries (terms f reach meaning m) bytes l v v'' es es'' s s'') one_more (carry_on before this₁)

-- a run from a new intake and an empty register, with a last look
pub ran : {bytes : List ℕ} {f : List ℕ → Verdict} {reach : ℕ} {meaning : ℕ → List ℕ → Meaning} {m m' : ℕ} {v v' : View} {none es : List Entry} {s s' : List ℕ}
    {qs : List Request} {told : Totals}
    → m ≡ m' → none ≡ [] → Carries (terms f reach meaning m) bytes qs v v' none es s s' → Lawful (terms f reach meaning m')
    → ((t : Terms) → Lawful t → Tied t [] v []) → told ≡ totals v' → Ran (terms f reach meaning m') bytes qs s s' told es
ran {bytes} {f} {reach} {meaning} {m} {m'} {v} {v'} {none} {es} {s} {s'} {qs} wide empty run lawful start said =
    let t : Terms = terms f reach meaning m' in
    let law : Carries t bytes qs v v' none es s s' = subst (λ m. Carries (terms f reach meaning m) bytes qs v v' none es s s') wide run in
    let k = law [] (subst (λ l. Tied t [] v l) (sym empty) (start t lawful)) in
    record { history = k.0; follows = k.1; view = v'; stands = look_tied said k.2 }

-- a register of n entries in a table: the totals tell how many they are, and the rest of the table is as it was
module _ {t : Terms} {bytes : List ℕ} {qs : List Request} {s s' : List ℕ} {told : Totals} (n : ℕ) {table after : List Entry}
    (all : Ran t bytes qs s s' told (take n table)) (within : n ≤ length table) (same : after ≡ table) where
  count : told.records ≡ n
  count =
      let k = all.stands in
      ap (λ (x : Totals). x.records) k.law.answered.1.2.3 ∙ sym k.records ∙ sym (entries_are k) ∙ length-take-le n table within

  pub listed : Ran t bytes qs s s' told (take told.records after)
  listed = subst (λ m. Ran t bytes qs s s' told (take m after)) (sym count) (subst (λ l. Ran t bytes qs s s' told (take n l)) (sym same) all)

  pub rest_kept : {first start : List Entry} → drop (length (take n table)) table ≡ drop (length (take n table)) start → start ≡ first
      → drop told.records after ≡ drop told.records first
  rest_kept {first = first} rest begun =
      let m : length (take n table) ≡ told.records = length-take-le n table within ∙ sym count in
      ap (drop told.records) same ∙ subst (λ i. drop i table ≡ drop i first) m (rest ∙ ap (drop (length (take n table))) begun)
