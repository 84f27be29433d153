-- From histories whose turns were answered to what was brought, and to the law. Assumes nothing.
use Rattle.std.proofs.Common.{◌≡◌, ℕ, ◌+◌, ◌-◌, ◌<◌, ◌≤◌, Bool, true, false, List, [], ◌∷◌, map, length, drop, Ok, Err, Result, sym, refl, ap, ◌∙◌, subst, arith, length-append}
use Rattle.std.proofs.ByRecursion.{All-weaker, All-append}
use Rattle.std.proofs.lemmas.List.{length-map}
use Rattle.register.specs.declared.entry.Entry.{Entry}
use Rattle.reading.specs.Reading.{Found}
use Rattle.reading.specs.Listed.{framed}
use Rattle.reading.proofs.Readings.{unique, exists}
use Rattle.stream.specs.declared.answers.Fault.{Fault}
use Rattle.stream.specs.declared.answers.Taken.{Taken}
use Rattle.stream.specs.declared.answers.Taken.TheVariants.{Record, NotYet, Drained}
use Rattle.stream.specs.Answers.{ask_deliver, ask_close, nothing}
use Rattle.stream.specs.View.{View, Terms, Lawful, entry_of}
use Rattle.stream.specs.History.{delivered, took, closing, looked, History, accepted, closed, brought, Reads, Reached}
use Rattle.stream.specs.Law.{TakeSaid, short, full, next, none, Answered, Outside, Tied}
use Rattle.stream.proofs.Works.{first, places}
use Rattle.stream.proofs.Progress.{Progress, nothing_yet, with_more, with_close, with_take, whole, split, front_is}

-- a delivery that is accepted finds the stream open
pub ok_open : (c : Bool) (a w n : ℕ) (u : Unit {0}) → Ok u ≡ ask_deliver c a w n → c ≡ false
ok_open false a w n u e = refl
ok_open true a w n u e = absurd cc

pub close_open : (c : Bool) (u : Unit {0}) → Ok u ≡ ask_close c → c ≡ false
close_open false u e = refl
close_open true u e = absurd cc

-- what is said where there is no record is no record
pub no_record : (c : Bool) (e : Entry) → ◌≡◌ {A = Result Taken Fault} (Ok (Record e)) (Ok (nothing c)) → ⊥
no_record true e q = cc
no_record false e q = cc

first_some : (rs : List Found) → 1 ≤ length rs → length (first rs) ≡ 1
first_some [] h = absurd (omega arith)
first_some (f ∷ rs) h = refl

first-none : (rs : List Found) → length rs ≡ 0 → length (first rs) ≡ 0
first-none [] h = refl
first-none (f ∷ rs) h = absurd (omega arith)

module _ {t : Terms} (lawful : Lawful t) where
  -- a take that brings finds a record behind the place reached, and one that brings none finds none
  module _ (h : History) {q : ℕ} (b : Progress t.verdict (accepted h) (closed h) (brought h) q) {rs : List Found} {e : ℕ} (r : Reads t h q rs e) where
    pub some_there : {x y : List ℕ} {n : Entry} → TakeSaid t h x y (Ok (Record n)) → 1 ≤ length rs
    some_there (short a b q) = absurd cc
    some_there (full a b c q) = absurd cc
    some_there (next a c front f more e d l y q) =
        let u = (unique d (whole lawful.framing b rs _ r)).0 in
        omega (arith, ap length u, length-append front (f ∷ more), length-append b.front rs, b.count)
    some_there (none a c rs e d l w y q) = absurd (no_record (closed h) _ q)

    pub none_there : {x y : List ℕ} {a : Taken} → TakeSaid t h x y (Ok a) → ((n : Entry) → a ≡ Record n → ⊥) → length rs ≡ 0
    none_there (short a b q) d = absurd cc
    none_there (full a b c q) d = absurd cc
    none_there {x} {y} {a = w} (next a c front f more e o l y' q) d = absurd (d (entry_of t f) cc)
    none_there (none a c rs' e o l w y q) d =
        let u = (unique o (whole lawful.framing b rs _ r)).0 in
        omega (arith, ap length u, length-append b.front rs, b.count, l)

  pub progress_of : (h : History) (p : ℕ) → Answered t h → Reached t h p → Progress t.verdict (accepted h) (closed h) (brought h) p
  progress_of [] p a r = subst (λ i. Progress t.verdict [] false 0 i) (sym r) nothing_yet
  progress_of (delivered b (Ok u) ∷ h) p a r =
      let still : closed h ≡ false = ok_open (closed h) (length (accepted h)) (length (accepted h) - a.1.0) (length b) u a.1.2 in
      with_more b still (progress_of h p a.0 r)
  progress_of (delivered b (Err f) ∷ h) p a r = progress_of h p a.0 r
  progress_of (took x y (Ok (Record n)) ∷ h) p a r =
      let b = progress_of h r.0 a.0 r.3 in
      let one = first_some r.1 (some_there h b r.4 a.1.2) in
      subst (λ i. Progress t.verdict (accepted h) (closed h) (brought h + 1) i) (sym r.5) (with_take lawful.framing b r.4 (brought h + 1) (omega (arith, one)))
  progress_of (took x y (Ok NotYet) ∷ h) p a r =
      let b = progress_of h r.0 a.0 r.3 in
      let no_one = first-none r.1 (none_there h b r.4 a.1.2 (λ n e. cc)) in
      subst (λ i. Progress t.verdict (accepted h) (closed h) (brought h) i) (sym r.5) (with_take lawful.framing b r.4 (brought h) (omega (arith, no_one)))
  progress_of (took x y (Ok Drained) ∷ h) p a r =
      let b = progress_of h r.0 a.0 r.3 in
      let no_one = first-none r.1 (none_there h b r.4 a.1.2 (λ n e. cc)) in
      subst (λ i. Progress t.verdict (accepted h) (closed h) (brought h) i) (sym r.5) (with_take lawful.framing b r.4 (brought h) (omega (arith, no_one)))
  progress_of (took x y (Err f) ∷ h) p a r = progress_of h p a.0 r
  progress_of (closing (Ok u) ∷ h) p a r = with_close (progress_of h p a.0 r)
  progress_of (closing (Err f) ∷ h) p a r = progress_of h p a.0 r
  progress_of (looked s ∷ h) p a r = progress_of h p a.0 r

-- a history with what it brought, tied to what an intake holds
pub record Held (t : Terms) (h : History) (v : View) (es : List Entry) : Type 0 where
  pub lawful : Lawful t
  pub place : ℕ
  pub answered : Answered t h
  pub reached : Reached t h place
  pub progress : Progress t.verdict (accepted h) (closed h) (brought h) place
  pub entries : es ≡ map (entry_of t) progress.front
  pub waiting : v.waiting ≡ drop place (accepted h)
  pub counted : v.accepted ≡ length (accepted h)
  pub registered : v.registered ≡ framed progress.front
  pub records : v.records ≡ brought h
  pub marked : v.closed ≡ closed h

module _ {t : Terms} {h : History} {v : View} {es : List Entry} where
  pub tied_of : Held t h v es → Tied t h v es
  tied_of k =
      let laws = k.lawful.framing in
      let q = k.progress in
      let p = k.place in
      record {
        lawful = k.lawful;
        place = p;
        law = record {
          answered = k.answered;
          reached = k.reached;
          lists = λ rs e r. (
            let x = split laws q rs e r in omega (arith, ap length x.2, length-append q.front x.0, q.count),
            k.entries ∙ ap (map (entry_of t)) (sym (front_is laws q rs e r)),
          );
          adds = λ rs e r. omega (arith, ap framed (front_is laws q rs e r), q.inside, q.within);
          passed = λ rs e r i l o.
              let x = split laws q rs e r in
              subst (Outside i) (sym x.2)
              (All-append (λ f. f.place ≤ i → i < f.place + length f.bytes → ⊥) q.front x.0
              (subst (Outside i) (front_is laws q rs e r) o)
              (All-weaker (λ f. p ≤ f.place) (λ f. f.place ≤ i → i < f.place + length f.bytes → ⊥) (λ f a b c. omega arith) x.0 (places laws x.1)));
        };
        waiting = k.waiting;
        counted = k.counted;
        registered = λ rs e r. k.registered ∙ ap framed (sym (front_is laws q rs e r));
        records = k.records;
        marked = k.marked;
      }

  pub held_of : Tied t h v es → Held t h v es
  held_of k =
      let laws = k.lawful.framing in
      let q = progress_of k.lawful h k.place k.law.answered k.law.reached in
      let x = exists laws (closed h) (accepted h) 0 in
      let same = front_is laws q x.0 x.1 x.2 in
      record {
        lawful = k.lawful;
        place = k.place;
        answered = k.law.answered;
        reached = k.law.reached;
        progress = q;
        entries = (k.law.lists x.0 x.1 x.2).1 ∙ ap (map (entry_of t)) same;
        waiting = k.waiting;
        counted = k.counted;
        registered = k.registered x.0 x.1 x.2 ∙ ap framed same;
        records = k.records;
        marked = k.marked;
      }

-- the register has as many entries as records were brought
pub entries_are : {t : Terms} {h : History} {v : View} {es : List Entry} → Tied t h v es → length es ≡ v.records
entries_are {t} k = let e = held_of k in ap length e.entries ∙ length-map e.progress.front (entry_of t) ∙ e.progress.count ∙ sym e.records
