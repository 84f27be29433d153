-- The theorems for the auditor: complete, cuts do not matter, one answer. Assumes nothing.
use Rattle.std.proofs.Common.{◌≡◌, ℕ, ◌-◌, Bool, true, false, List, [], ◌∷◌, ◌++◌, map, length, take, drop, Ok, Err, Result, sym, refl, ap, ◌∙◌, subst, arith, length-append}
use Rattle.std.proofs.lemmas.List.{take_all, drop_all}
use Rattle.register.specs.declared.entry.Entry.{Entry}
use Rattle.reading.specs.Reading.{Found, Reading, ends}
use Rattle.reading.specs.Listed.{framed}
use Rattle.reading.proofs.Readings.{unique, exists, closed_end}
use Rattle.stream.specs.declared.answers.Fault.{Fault}
use Rattle.stream.specs.declared.answers.Taken.{Taken}
use Rattle.stream.specs.declared.answers.Taken.TheVariants.{Record, NotYet, Drained}
use Rattle.stream.specs.Answers.{nothing}
use Rattle.stream.specs.View.{View, Terms, Lawful, entry_by, entry_of, totals}
use Rattle.stream.specs.History.{Turn, delivered, took, closing, looked, History, accepted, closed, brought, behind, Reads, Reached}
use Rattle.stream.specs.Law.{TakeSaid, short, full, next, none, Said, Answered, totals_of, Tied}
use Rattle.stream.specs.Theorems.{HasDrained, here, before, Complete, CutsDoNotMatter, SameRequest, delivery, taking, close, tell, OneAnswer}
use Rattle.stream.proofs.Histories.{ok_open, close_open, progress_of, some_there, none_there}

both : {c : Bool} → c ≡ true → c ≡ false → ⊥
both a b = cc

drained-closed : (c : Bool) → ◌≡◌ {A = Result Taken Fault} (Ok Drained) (Ok (nothing c)) → c ≡ true
drained-closed true e = refl
drained-closed false e = absurd cc

empty : (rs : List Found) → length rs ≡ 0 → rs ≡ []
empty [] e = refl
empty (f ∷ rs) e = absurd (omega arith)

module _ {t : Terms} (lawful : Lawful t) where
  -- after a take has said that the stream is drained
  pub record Over (h : History) (p : ℕ) : Type 0 where
    pub shut : closed h ≡ true
    pub at_end : p ≡ length (accepted h)
    pub all : (rs : List Found) (e : ℕ) → Reads t h 0 rs e → length rs ≡ brought h

  -- a take that finds nothing in a closed stream reaches its end
  now_over : (h : History) (x y : List ℕ) (p : ℕ) → Answered t h → TakeSaid t h x y (Ok Drained) → Reached t (took x y (Ok Drained) ∷ h) p → Over h p
  now_over h x y p a (short _ _ q) r = absurd cc
  now_over h x y p a (full _ _ _ q) r = absurd cc
  now_over h x y p a (next _ _ front f more e d l y' q) r = absurd cc
  now_over h x y p a (none i j rs e d l w y' q) r =
      let b = progress_of lawful h r.0 a r.3 in
      let o : closed h ≡ true = drained-closed (closed h) q in
      let n : length r.1 ≡ 0 = none_there lawful h b r.4 (none i j rs e d l w y' q) (λ n e. cc) in
      let stop : Reads t h r.0 [] r.2 = subst (λ l. Reads t h r.0 l r.2) (empty r.1 n) r.4 in
      let end : r.2 ≡ length (accepted h) = closed_end lawful.framing (subst (λ c. Reading t.verdict c (accepted h) r.0 [] r.2) o stop) b.within in
      record {
        shut = o;
        at_end = r.5 ∙ ap (λ l. behind l r.2) (empty r.1 n) ∙ end;
        all = λ rs' e' d'. ap length (unique d' d).0 ∙ l;
      }

  still_over : (h : History) (p q : ℕ) (rs : List Found) (e : ℕ) → Over h q → Reads t h q rs e → p ≡ behind rs e → (rs ≡ []) × (p ≡ length (accepted h))
  still_over h p q rs e o r is =
      let u = unique r (ends (omega (arith, o.at_end))) in
      (u.0, is ∙ ap (λ l. behind l e) u.0 ∙ u.1 ∙ o.at_end)

  over : (h : History) (p : ℕ) → Answered t h → Reached t h p → HasDrained h → Over h p
  over [] p a r d = elim d [ ]
  over (took x y (Ok Drained) ∷ h) p a r here = let o = now_over h x y p a.0 a.1.2 r in record { shut = o.shut; at_end = o.at_end; all = o.all }
  over (delivered b (Ok u) ∷ h) p a r (before d) =
      absurd (both (over h p a.0 r d).shut (ok_open (closed h) (length (accepted h)) (length (accepted h) - a.1.0) (length b) u a.1.2))
  over (delivered b (Err f) ∷ h) p a r (before d) = let o = over h p a.0 r d in record { shut = o.shut; at_end = o.at_end; all = o.all }
  over (took x y (Ok (Record n)) ∷ h) p a r (before d) =
      let o = over h r.0 a.0 r.3 d in
      let s = some_there lawful h (progress_of lawful h r.0 a.0 r.3) r.4 a.1.2 in
      absurd (omega (arith, s, ap length (still_over h p r.0 r.1 r.2 o r.4 r.5).0))
  over (took x y (Ok NotYet) ∷ h) p a r (before d) =
      let o = over h r.0 a.0 r.3 d in
      record { shut = o.shut; at_end = (still_over h p r.0 r.1 r.2 o r.4 r.5).1; all = o.all }
  over (took x y (Ok Drained) ∷ h) p a r (before d) =
      let o = over h r.0 a.0 r.3 d in
      record { shut = o.shut; at_end = (still_over h p r.0 r.1 r.2 o r.4 r.5).1; all = o.all }
  over (took x y (Err f) ∷ h) p a r (before d) = let o = over h p a.0 r d in record { shut = o.shut; at_end = o.at_end; all = o.all }
  over (closing (Ok u) ∷ h) p a r (before d) = absurd (both (over h p a.0 r d).shut (close_open (closed h) u a.1.2))
  over (closing (Err f) ∷ h) p a r (before d) = let o = over h p a.0 r d in record { shut = o.shut; at_end = o.at_end; all = o.all }
  over (looked s ∷ h) p a r (before d) = let o = over h p a.0 r d in record { shut = o.shut; at_end = o.at_end; all = o.all }

  -- two places reached by one history are one
  pub one_place : (h : History) (p q : ℕ) → Reached t h p → Reached t h q → p ≡ q
  one_place [] p q r s = r ∙ sym s
  one_place (delivered b x ∷ h) p q r s = one_place h p q r s
  one_place (took x y (Ok a) ∷ h) p q r s =
      let same = one_place h r.0 s.0 r.3 s.3 in
      let u = unique r.4 (subst (λ i. Reads t h i s.1 s.2) (sym same) s.4) in
      r.5 ∙ ap (λ l. behind l r.2) u.0 ∙ ap (behind s.1) u.1 ∙ sym s.5
  one_place (took x y (Err f) ∷ h) p q r s = one_place h p q r s
  one_place (closing x ∷ h) p q r s = one_place h p q r s
  one_place (looked x ∷ h) p q r s = one_place h p q r s

pub complete : Complete
complete t h v es k d =
    let o = over k.lawful h k.place k.law.answered k.law.reached d in
    let x = exists k.lawful.framing (closed h) (accepted h) 0 in
    let all : take (brought h) x.0 ≡ x.0 = take_all (brought h) x.0 (omega (arith, o.all x.0 x.1 x.2)) in (
      x.0,
      x.1,
      subst (λ c. Reading t.verdict c (accepted h) 0 x.0 x.1) o.shut x.2,
      (k.law.lists x.0 x.1 x.2).1 ∙ ap (map (entry_of t)) all,
      k.waiting ∙ drop_all k.place (accepted h) (omega (arith, o.at_end)),
    )

same_view : {a a' b b' c c' : ℕ} {w w' : List ℕ} {o o' : Bool} → w ≡ w' → a ≡ a' → b ≡ b' → c ≡ c' → o ≡ o'
    → ◌≡◌ {A = View} (record { waiting = w; accepted = a; registered = b; records = c; closed = o }) (record { waiting = w'; accepted = a'; registered = b'; records = c'; closed = o' })
same_view pw pa pb pc po = cc

-- what a drained intake holds, by the records of the closed reading
drained-view : (t : Terms) (h : History) (v : View) (es : List Entry) (k : Tied t h v es) → HasDrained h → (rs : List Found) (e : ℕ)
    → Reading t.verdict true (accepted h) 0 rs e
    → v ≡ record { waiting = []; accepted = length (accepted h); registered = framed rs; records = length rs; closed = true }
drained-view t h v es k d rs e r =
    let o = over k.lawful h k.place k.law.answered k.law.reached d in
    let s : Reads t h 0 rs e = subst (λ c. Reading t.verdict c (accepted h) 0 rs e) (sym o.shut) r in
    let all : take (brought h) rs ≡ rs = take_all (brought h) rs (omega (arith, o.all rs e s)) in
    same_view (k.waiting ∙ drop_all k.place (accepted h) (omega (arith, o.at_end))) k.counted (k.registered rs e s ∙ ap framed all)
    (k.records ∙ sym (o.all rs e s)) (k.marked ∙ o.shut)

pub cuts_do_not_matter : CutsDoNotMatter
cuts_do_not_matter t t' h h' v v' es es' verdicts meanings k k' d d' same =
    let a = complete t h v es k d in
    let b = complete t' h' v' es' k' d' in
    let moved : Reading t.verdict true (accepted h) 0 b.0 b.1 =
    subst (λ f. Reading f true (accepted h) 0 b.0 b.1) (sym verdicts) (subst (λ s. Reading t'.verdict true s 0 b.0 b.1) (sym same) b.2) in
    let u = unique a.2 moved in
    let entries : map (entry_of t) a.0 ≡ map (entry_of t') b.0 = ap (map (entry_of t)) u.0 ∙ ap (λ m. map (entry_by m) b.0) meanings in
    let views : v ≡ v' =
    drained-view t h v es k d a.0 a.1 a.2
    ∙ same_view refl (ap length same) (ap framed u.0) (ap length u.0) refl ∙ sym (drained-view t' h' v' es' k' d' b.0 b.1 b.2) in
    (a.3 ∙ entries ∙ sym b.3, ap totals views)

-- the same record in two lists, behind as many others
same_next : (front front' more more' : List Found) (f f' : Found) → length front ≡ length front' → front ++ (f ∷ more) ≡ front' ++ (f' ∷ more') → f ≡ f'
same_next [] [] more more' f f' l e = cc
same_next [] (g ∷ front') more more' f f' l e = absurd (omega arith)
same_next (g ∷ front) [] more more' f f' l e = absurd (omega arith)
same_next (g ∷ front) (g' ∷ front') more more' f f' l e =
    let rest : front ++ (f ∷ more) ≡ front' ++ (f' ∷ more') = cc in
    same_next front front' more more' f f' (omega arith) rest

module _ {t : Terms} (lawful : Lawful t) where
  -- a take has one answer, and leaves one space
  one_take : (h : History) (x y y' : List ℕ) (r r' : Result Taken Fault) → TakeSaid t h x y r → TakeSaid t h x y' r' → (y ≡ y') × (r ≡ r')
  one_take h x y y' r r' (short a b c) (short a' b' c') = (b ∙ sym b', c ∙ sym c')
  one_take h x y y' r r' (short a b c) (full a' b' c' d') = absurd (omega arith)
  one_take h x y y' r r' (short a b c) (next a' _ _ _ _ _ _ _ _ _) = absurd (omega arith)
  one_take h x y y' r r' (short a b c) (none a' _ _ _ _ _ _ _ _) = absurd (omega arith)
  one_take h x y y' r r' (full a b c d) (short a' b' c') = absurd (omega arith)
  one_take h x y y' r r' (full a b c d) (full a' b' c' d') = (c ∙ sym c', d ∙ sym d')
  one_take h x y y' r r' (full a b c d) (next _ b' _ _ _ _ _ _ _ _) = absurd (omega arith)
  one_take h x y y' r r' (full a b c d) (none _ b' _ _ _ _ _ _ _) = absurd (omega arith)
  one_take h x y y' r r' (next a b front f more e d l z q) (short a' b' c') = absurd (omega arith)
  one_take h x y y' r r' (next a b front f more e d l z q) (full a' b' c' d') = absurd (omega arith)
  one_take h x y y' r r' (next a b front f more e d l z q) (next a' b' front' f' more' e' d' l' z' q') =
      let same : f ≡ f' = same_next front front' more more' f f' (l ∙ sym l') (unique d d').0 in
      (z ∙ ap (λ g. g.bytes ++ drop (length g.bytes) x) same ∙ sym z', q ∙ ap (λ g. Ok (Record (entry_of t g))) same ∙ sym q')
  one_take h x y y' r r' (next a b front f more e d l z q) (none a' b' rs' e' d' l' w' z' q') =
      absurd (omega (arith, ap length (unique d d').0, length-append front (f ∷ more)))
  one_take h x y y' r r' (none a b rs e d l w z q) (short a' b' c') = absurd (omega arith)
  one_take h x y y' r r' (none a b rs e d l w z q) (full a' b' c' d') = absurd (omega arith)
  one_take h x y y' r r' (none a b rs e d l w z q) (next a' b' front' f' more' e' d' l' z' q') =
      absurd (omega (arith, ap length (unique d d').0, length-append front' (f' ∷ more')))
  one_take h x y y' r r' (none a b rs e d l w z q) (none a' b' rs' e' d' l' w' z' q') = (z ∙ sym z', q ∙ sym q')

  one_turn : (h : History) (p : ℕ) {a a' : Turn} → SameRequest a a' → Said t h p a → Said t h p a' → a ≡ a'
  one_turn h p (delivery {b = b} r r') s s' = ap (delivered b) (s ∙ sym s')
  one_turn h p (taking {x = x} y y' r r') s s' =
      let o = one_take h x y y' r r' s s' in ap (λ z. took x z r) o.0 ∙ ap (took x y') o.1
  one_turn h p (close r r') s s' = ap closing (s ∙ sym s')
  one_turn h p (tell s s') a b = ap looked (a.3 ∙ ap (totals_of h p) (unique a.2 b.2).0 ∙ sym b.3)

-- one history is tied to one register and to one thing that an intake holds
one_tie : (t : Terms) (h : History) (v v' : View) (es es' : List Entry) → Tied t h v es → Tied t h v' es' → (es ≡ es') × (v ≡ v')
one_tie t h v v' es es' k k' =
    let x = exists k.lawful.framing (closed h) (accepted h) 0 in
    let p = one_place k.lawful h k.place k'.place k.law.reached k'.law.reached in (
      (k.law.lists x.0 x.1 x.2).1 ∙ sym (k'.law.lists x.0 x.1 x.2).1,
      same_view (k.waiting ∙ ap (λ i. drop i (accepted h)) p ∙ sym k'.waiting) (k.counted ∙ sym k'.counted)
          (k.registered x.0 x.1 x.2 ∙ sym (k'.registered x.0 x.1 x.2)) (k.records ∙ sym k'.records) (k.marked ∙ sym k'.marked),
    )

pub one_answer : OneAnswer
one_answer t h a a' v v' es es' q k k' =
    let x = k.law.answered.1 in
    let y = k'.law.answered.1 in
    let p = one_place k.lawful h y.0 x.0 y.1 x.1 in
    let same : a ≡ a' = one_turn k.lawful h x.0 q x.2 (subst (λ i. Said t h i a') p y.2) in
    let o = one_tie t (a ∷ h) v v' es es' k (subst (λ b. Tied t (b ∷ h) v' es') (sym same) k') in
    (same, o.0, o.1)
