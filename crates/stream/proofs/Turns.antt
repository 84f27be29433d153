-- One turn more: from what a call does to the law of the longer history. Assumes nothing.
use Rattle.std.proofs.Common.{◌≡◌, ℕ, ◌+◌, ◌-◌, ◌<◌, ◌≤◌, Bool, true, false, not, List, [], ◌∷◌, ◌++◌, map, length, take, drop, Ok, Err, Result, sym, refl, ap, ◌∙◌, subst, append-nil, add-zero, arith, length-append, length-drop, length-take}
use Rattle.std.proofs.lemmas.List.{drop-drop, drop-append-le, map-append, length-map}
use Rattle.std.proofs.lemmas.List.Sums.{sum_by-append}
use Rattle.register.specs.declared.entry.Entry.{Entry}
use Rattle.register.specs.declared.entry.Totals.{Totals}
use Rattle.reading.specs.Reading.{Found, found, Reading, Comes}
use Rattle.reading.specs.Listed.{framed}
use Rattle.reading.proofs.Readings.{exists}
use Rattle.stream.specs.declared.answers.Fault.{Fault}
use Rattle.stream.specs.declared.answers.Fault.TheVariants.{SpaceShort, RegisterFull}
use Rattle.stream.specs.declared.answers.Taken.{Taken}
use Rattle.stream.specs.declared.answers.Taken.TheVariants.{Record}
use Rattle.stream.specs.Answers.{ask_deliver, ask_close, nothing}
use Rattle.stream.specs.View.{View, Terms, entry_of, Delivers, Closes, totals, base, found_at, advanced, rested, Takes, short, full, brings, rests}
use Rattle.stream.specs.History.{delivered, took, closing, looked, History, accepted, closed, brought, Reads}
use Rattle.stream.specs.Law as law
use Rattle.stream.specs.Law.{TakeSaid, Said, Answered, totals_of, Tied}
use Rattle.stream.proofs.Works.{in_whole, moved, few-left}
use Rattle.stream.proofs.Progress.{with_more, with_close, with_take, whole, front_is}
use Rattle.stream.proofs.Histories.{Held, ok_open, held_of, tied_of}

same-totals : {a b c d e a' b' c' d' e' : ℕ} {o o' : Bool} → a ≡ a' → b ≡ b' → c ≡ c' → d ≡ d' → e ≡ e' → o ≡ o'
    → ◌≡◌ {A = Totals} (record { accepted = a; registered = b; passed = c; waiting = d; records = e; «open» = o })
    (record { accepted = a'; registered = b'; passed = c'; waiting = d'; records = e'; «open» = o' })
same-totals pa pb pc pd pe po = cc

same-found : {a a' k : ℕ} {b b' : List ℕ} → a ≡ a' → b ≡ b' → ◌≡◌ {A = Found} (record { place = a; bytes = b; kind = k }) (record { place = a'; bytes = b'; kind = k })
same-found pa pb = cc

brought-none : (c : Bool) (x y : List ℕ) (h : History) → brought (took x y (Ok (nothing c)) ∷ h) ≡ brought h
brought-none true x y h = refl
brought-none false x y h = refl

-- the same turn and values, otherwise written
carry : {t : Terms} {h : History} {v v' : View} {es es' : List Entry} {x y y' : List ℕ} {r r' : Result Taken Fault}
    → r ≡ r' → v ≡ v' → es ≡ es' → y ≡ y' → Held t (took x y' r' ∷ h) v' es' → Held t (took x y r ∷ h) v es
carry {t} {h} {v} {v'} {es} {es'} {x} {y} {y'} {r} {r'} a b c d k =
    subst (λ r. Held t (took x y r ∷ h) v es) (sym a)
    (subst (λ v. Held t (took x y r' ∷ h) v es) (sym b) (subst (λ es. Held t (took x y r' ∷ h) v' es) (sym c) (subst (λ y. Held t (took x y r' ∷ h) v' es') (sym d) k)))

module _ {t : Terms} {h : History} {v : View} {es : List Entry} (k : Held t h v es) where
  abbrev s : List ℕ
  s = accepted h

  abbrev p : ℕ
  p = k.place

  -- how many bytes wait, and where in the stream they begin
  waits : length v.waiting ≡ length s - p
  waits = ap length k.waiting ∙ length-drop p s

  begins : base v ≡ p
  begins = omega (arith, k.counted, waits, k.progress.within)

  many : length es ≡ brought h
  many = ap length k.entries ∙ length-map k.progress.front (entry_of t) ∙ k.progress.count

  asked : (n : ℕ) → ask_deliver v.closed v.accepted (length v.waiting) n ≡ ask_deliver (closed h) (length s) (length s - p) n
  asked n =
      ap (λ c. ask_deliver c v.accepted (length v.waiting) n) k.marked ∙ ap (λ a. ask_deliver (closed h) a (length v.waiting) n) k.counted
      ∙ ap (λ w. ask_deliver (closed h) (length s) w n) waits

  -- a delivery
  deliver_held : (v' : View) (b : List ℕ) (r : Result (Unit {0}) Fault) → Delivers v v' b r → Held t (delivered b r ∷ h) v' es
  unfolding with_more
  deliver_held v' b (Ok u) d =
      let said : Ok u ≡ ask_deliver (closed h) (length s) (length s - p) (length b) = d.says ∙ asked (length b) in
      let still : closed h ≡ false = ok_open (closed h) (length s) (length s - p) (length b) u said in
      subst (λ w. Held t (delivered b (Ok u) ∷ h) w es) (sym d.leaves) (record {
        lawful = k.lawful;
        place = p;
        answered = (k.answered, (p, k.reached, said));
        reached = k.reached;
        progress = with_more b still k.progress;
        entries = k.entries;
        waiting = ap (λ w. w ++ b) k.waiting ∙ sym (drop-append-le p s b k.progress.within);
        counted = ap (λ n. n + length b) k.counted ∙ sym (length-append s b);
        registered = k.registered;
        records = k.records;
        marked = k.marked;
      })
  deliver_held v' b (Err f) d = subst (λ w. Held t (delivered b (Err f) ∷ h) w es) (sym d.leaves) (record {
    lawful = k.lawful;
    place = p;
    answered = (k.answered, (p, k.reached, d.says ∙ asked (length b)));
    reached = k.reached;
    progress = k.progress;
    entries = k.entries;
    waiting = k.waiting;
    counted = k.counted;
    registered = k.registered;
    records = k.records;
    marked = k.marked;
  })

  -- a closing
  close_held : (v' : View) (r : Result (Unit {0}) Fault) → Closes v v' r → Held t (closing r ∷ h) v' es
  unfolding with_close
  close_held v' (Ok u) d = subst (λ w. Held t (closing (Ok u) ∷ h) w es) (sym d.leaves) (record {
    lawful = k.lawful;
    place = p;
    answered = (k.answered, (p, k.reached, d.says ∙ ap ask_close k.marked));
    reached = k.reached;
    progress = with_close k.progress;
    entries = k.entries;
    waiting = k.waiting;
    counted = k.counted;
    registered = k.registered;
    records = k.records;
    marked = refl;
  })
  close_held v' (Err f) d = subst (λ w. Held t (closing (Err f) ∷ h) w es) (sym d.leaves) (record {
    lawful = k.lawful;
    place = p;
    answered = (k.answered, (p, k.reached, d.says ∙ ap ask_close k.marked));
    reached = k.reached;
    progress = k.progress;
    entries = k.entries;
    waiting = k.waiting;
    counted = k.counted;
    registered = k.registered;
    records = k.records;
    marked = sym (refused v.closed f d.says) ∙ k.marked;
  })
    where
      refused : (c : Bool) (f : Fault) → Err f ≡ ask_close c → c ≡ true
      refused true f e = refl
      refused false f e = absurd cc

  -- a look at the totals
  look_held : Held t (looked (totals v) ∷ h) v es
  look_held =
      let q = k.progress in
      let x = exists k.lawful.framing (closed h) s 0 in
      let same = front_is k.lawful.framing q x.0 x.1 x.2 in
      let registered : v.registered ≡ framed (take (brought h) x.0) = k.registered ∙ ap framed (sym same) in
      let passed : v.accepted - v.registered - length v.waiting ≡ p - framed (take (brought h) x.0) =
      omega (arith, k.counted, waits, registered, ap framed same, q.inside, q.within) in
      let told : totals v ≡ totals_of h p x.0 = same-totals k.counted registered passed waits k.records (ap not k.marked) in
      record {
        lawful = k.lawful;
        place = p;
        answered = (k.answered, (p, k.reached, (x.0, x.1, x.2, told)));
        reached = k.reached;
        progress = q;
        entries = k.entries;
        waiting = k.waiting;
        counted = k.counted;
        registered = k.registered;
        records = k.records;
        marked = k.marked;
      }

  -- a take that is refused
  refused_held : (x : List ℕ) (f : Fault) → TakeSaid t h x x (Err f) → Held t (took x x (Err f) ∷ h) v es
  refused_held x f said = record {
    lawful = k.lawful;
    place = p;
    answered = (k.answered, (p, k.reached, said));
    reached = k.reached;
    progress = k.progress;
    entries = k.entries;
    waiting = k.waiting;
    counted = k.counted;
    registered = k.registered;
    records = k.records;
    marked = k.marked;
  }

  -- a take that finds no record
  rests_held : (x : List ℕ) (e : ℕ) → t.reach ≤ length x → length es < t.room → Reading t.verdict v.closed v.waiting 0 [] e
      → Held t (took x x (Ok (nothing (closed h))) ∷ h) (rested v e) es
  unfolding with_take
  rests_held x e a b r =
      let laws = k.lawful.framing in
      let q = k.progress in
      let r1 : Reading t.verdict (closed h) (drop p s) 0 [] e =
      subst (λ w. Reading t.verdict (closed h) w 0 [] e) k.waiting (subst (λ c. Reading t.verdict c v.waiting 0 [] e) k.marked r) in
      let r2 : Reads t h p [] (p + e) = subst (λ i. Reads t h i [] (p + e)) (add-zero p) (in_whole t.verdict (closed h) s p q.within r1) in
      let r3 : Reads t h 0 (q.front ++ []) (p + e) = whole laws q [] (p + e) r2 in
      let none : TakeSaid t h x x (Ok (nothing (closed h))) =
      law.none a (subst (λ n. n < t.room) many b) (q.front ++ []) (p + e) r3 (length-append q.front [] ∙ omega (arith, q.count))
      (λ o. few-left laws (subst (λ c. Reading t.verdict c s p [] (p + e)) o r2) q.within) refl refl in
      let told = brought-none (closed h) x x h in
      record {
        lawful = k.lawful;
        place = p + e;
        answered = (k.answered, (p, k.reached, none));
        reached = (p, [], p + e, k.reached, r2, refl);
        progress = with_take laws q r2 (brought (took x x (Ok (nothing (closed h))) ∷ h)) (omega (arith, told));
        entries = k.entries ∙ ap (map (entry_of t)) (sym (append-nil q.front));
        waiting = ap (drop e) k.waiting ∙ drop-drop e p s;
        counted = k.counted;
        registered = k.registered ∙ ap framed (sym (append-nil q.front));
        records = k.records ∙ sym told;
        marked = k.marked;
      }

  -- a take that brings a record
  brings_held : (x : List ℕ) (place len kind : ℕ) → t.reach ≤ length x → length es < t.room → Comes t.verdict v.closed v.waiting 0 place len kind
      → Held t (took x (take len (drop place v.waiting) ++ drop len x) (Ok (Record (entry_of t (found_at v place len kind)))) ∷ h) (advanced v place len)
      (es ++ (entry_of t (found_at v place len kind) ∷ []))
  unfolding with_take
  brings_held x place len kind a b c =
      let laws = k.lawful.framing in
      let q = k.progress in
      let w : List ℕ = drop p s in
      let c1 : Comes t.verdict (closed h) w 0 place len kind =
      subst (λ u. Comes t.verdict (closed h) u 0 place len kind) k.waiting (subst (λ d. Comes t.verdict d v.waiting 0 place len kind) k.marked c) in
      let rest = exists laws (closed h) w (place + len) in
      let more : List Found = map (moved p) rest.0 in
      let f : Found = moved p (found w place len kind) in
      let r1 = in_whole t.verdict (closed h) s p q.within (c1.first rest.0 rest.1 rest.2) in
      let r2 : Reads t h p (f ∷ more) (p + rest.1) = subst (λ i. Reads t h i (f ∷ more) (p + rest.1)) (add-zero p) r1 in
      let r3 : Reads t h 0 (q.front ++ (f ∷ more)) (p + rest.1) = whole laws q (f ∷ more) (p + rest.1) r2 in
      let long : length f.bytes ≡ len = simp (length-take, length-drop) (omega (arith, c1.within, length-drop p s)) in
      let same : found_at v place len kind ≡ f = same-found (ap (λ i. i + place) begins) (ap (λ u. take len (drop place u)) k.waiting) in
      let y : take len (drop place v.waiting) ++ drop len x ≡ f.bytes ++ drop (length f.bytes) x =
      ap (λ g. g.bytes ++ drop len x) same ∙ ap (λ n. f.bytes ++ drop n x) (sym long) in
      let told : Ok (Record (entry_of t (found_at v place len kind))) ≡ Ok (Record (entry_of t f)) = ap (λ g. Ok (Record (entry_of t g))) same in
      record {
        lawful = k.lawful;
        place = f.place + length f.bytes;
        answered = (k.answered, (p, k.reached, law.next a (subst (λ n. n < t.room) many b) q.front f more (p + rest.1) r3 q.count y told));
        reached = (p, f ∷ more, p + rest.1, k.reached, r2, refl);
        progress = with_take laws q r2 (brought h + 1) refl;
        entries = ap (λ g. es ++ (entry_of t g ∷ [])) same ∙ ap (λ l. l ++ (entry_of t f ∷ [])) k.entries ∙ sym (map-append (entry_of t) q.front (f ∷ []));
        waiting = ap (drop (place + len)) k.waiting ∙ drop-drop (place + len) p s ∙ ap (λ i. drop i s) (omega (arith, long));
        counted = k.counted;
        registered = omega (arith, k.registered, sum_by-append (λ (f : Found). length f.bytes) q.front (f ∷ []), long);
        records = ap (λ n. n + 1) k.records;
        marked = k.marked;
      }

  -- a take
  take_held : {v' : View} {es' : List Entry} {x y : List ℕ} {r : Result Taken Fault} → Takes t v v' es es' x y r → Held t (took x y r ∷ h) v' es'
  take_held {x = x} (short a r w e y) = carry r w e y (refused_held x SpaceShort (law.short a refl refl))
  take_held {x = x} (full a b r w e y) = carry r w e y (refused_held x RegisterFull (law.full a (subst (λ n. t.room ≤ n) many b) refl refl))
  take_held {x = x} (brings a b place len kind c r w e y) = carry r w e y (brings_held x place len kind a b c)
  take_held {x = x} (rests a b e c r w i y) = carry (r ∙ ap (λ d. Ok (nothing d)) k.marked) w i y (rests_held x e a b c)

-- the same of what an intake holds
module _ {t : Terms} {h : History} {v : View} {es : List Entry} where
  pub deliver_tied : {v' : View} {b : List ℕ} {r : Result (Unit {0}) Fault} → Delivers v v' b r → Tied t h v es → Tied t (delivered b r ∷ h) v' es
  deliver_tied d k = tied_of (deliver_held (held_of k) _ _ _ d)

  pub close_tied : {v' : View} {r : Result (Unit {0}) Fault} → Closes v v' r → Tied t h v es → Tied t (closing r ∷ h) v' es
  close_tied d k = tied_of (close_held (held_of k) _ _ d)

  pub look_tied : {s : Totals} → s ≡ totals v → Tied t h v es → Tied t (looked s ∷ h) v es
  look_tied e k = subst (λ s. Tied t (looked s ∷ h) v es) (sym e) (tied_of (look_held (held_of k)))

  pub take_tied : {v' : View} {es' : List Entry} {x y : List ℕ} {r : Result Taken Fault} → Takes t v v' es es' x y r → Tied t h v es → Tied t (took x y r ∷ h) v' es'
  take_tied d k = tied_of (take_held (held_of k) d)
