-- Pieces fed one after the other: the law goes on from each to the next. Assumes nothing.
use Rattle.std.proofs.Common.{◌≡◌, ℕ, Bool, List, [], ◌++◌, Some, None, Ok, Err, Option, Result, sym, ◌∙◌, subst, append_assoc, arith}
use Rattle.anyhow.specs.declared.error.Error.{Error}
use Rattle.common.specs.declared.refusal.Refusal.{Refusal}
use Rattle.register.specs.declared.entry.Entry.{Entry}
use Rattle.stream.specs.declared.answers.Fault.{Fault}
use Rattle.stream.specs.declared.answers.Taken.{Taken}
use Rattle.stream.specs.declared.answers.Taken.TheVariants.{Drained}
use Rattle.stream.specs.Answers.{told}
use Rattle.framing.specs.declared.verdict.Verdict.{Verdict}
use Rattle.format.specs.Meaning.{Meaning}
use Rattle.stream.specs.View.{View, Terms, terms}
use Rattle.stream.specs.History.{History}
use Rattle.stream.specs.Law.{Tied}
use Rattle.std.specs.Result.{IsErr}
use Rattle.std.proofs.lemmas.Bool.{false≢true}
use Rattle.stream.specs.Feeding.{JustSaid, Feeds}
use Rattle.survey.specs.Registered.{Registers}

-- whatever history stood before, one that goes on from it stands
abbrev pub Goes_on : Terms → View → View → List Entry → List Entry → Type 0
Goes_on t v v' es es' = (h : History) → Tied t h v es → (turns : History) × Tied t (turns ++ h) v' es'

pub goes_nowhere : (t : Terms) (v : View) (es : List Entry) → Goes_on t v v es es
goes_nowhere t v es h tied = ([], tied)

-- a piece fed with a register that has as much room as at the start
pub fed_in : {verdict : List ℕ → Verdict} {reach : ℕ} {meaning : ℕ → List ℕ → Meaning} {m n : ℕ} {bytes : List ℕ} {mark : Bool → Bool} {v v' : View}
    {es es' : List Entry} {a : Result Taken Fault} → m ≡ n → Feeds (terms verdict reach meaning m) bytes mark v v' es es' a
    → Feeds (terms verdict reach meaning n) bytes mark v v' es es' a
fed_in {verdict} {reach} {meaning} {bytes = bytes} {mark = mark} {v} {v'} {es} {es'} {a} same fed =
    subst (λ k. Feeds (terms verdict reach meaning k) bytes mark v v' es es' a) same fed

module _ {t : Terms} {v v₁ v₂ : View} {es es₁ es₂ : List Entry} {bytes : List ℕ} {mark : Bool → Bool} {a : Result Taken Fault}
    (on : Goes_on t v v₁ es es₁) (fed : Feeds t bytes mark v₁ v₂ es₁ es₂ a) where
  -- by one piece more
  pub goes_further : Goes_on t v v₂ es es₂
  goes_further h tied =
      let so_far = on h tied in
      let f = fed (so_far.0 ++ h) so_far.1 in
      (f.turns ++ so_far.0, subst (λ k. Tied t k v₂ es₂) (sym (append_assoc f.turns so_far.0 h)) f.stands)

  -- and there it ends, where the last take said that the stream is drained
  pub ends-drained : a ≡ Ok Drained → Registers t v v₂ es es₂ (Ok None)
  ends-drained is h tied =
      let so_far = on h tied in
      let f = fed (so_far.0 ++ h) so_far.1 in
      let same = sym (append_assoc f.turns so_far.0 h) in
      record {
        turns = f.turns ++ so_far.0;
        stands = subst (λ k. Tied t k v₂ es₂) same f.stands;
        drained = λ _. subst (JustSaid Drained) same (f.says Drained is);
        refused = λ x e. absurd (let z : ◌≡◌ {A = ℕ} 0 1 = cc in omega arith);
      }

-- where the end is no success, only the law is left to say
pub ends_otherwise : {t : Terms} {v v' : View} {es es' : List Entry} (r : Result (Option Refusal) Error) → Goes_on t v v' es es'
    → (r ≡ Ok None → ⊥) → ((x : Refusal) → r ≡ Ok (Some x) → (f : Fault) × (x ≡ told f)) → Registers t v v' es es' r
ends_otherwise r on no_end is-told h tied =
    let so_far = on h tied in
    record { turns = so_far.0; stands = so_far.1; drained = λ e. absurd (no_end e); refused = is-told }

pub ends_failed : {t : Terms} {v v' : View} {es es' : List Entry} (r : Result (Option Refusal) Error) → IsErr r → Goes_on t v v' es es' → Registers t v v' es es' r
ends_failed (Err e) bad on =
    ends_otherwise (Err e) on (λ s. let z : ◌≡◌ {A = ℕ} 0 1 = cc in omega arith)
    (λ x s. absurd (let z : ◌≡◌ {A = ℕ} 0 1 = cc in omega arith))
ends_failed (Ok a) bad on = absurd (false≢true bad)

pub ends-refused : {t : Terms} {v v' : View} {es es' : List Entry} (f : Fault) (x : Refusal) → x ≡ told f → Goes_on t v v' es es'
    → Registers t v v' es es' (Ok (Some x))
ends-refused f x is on =
    ends_otherwise (Ok (Some x)) on (λ s. let z : ◌≡◌ {A = ℕ} 0 1 = cc in omega arith)
    (λ y s. let same : x ≡ y = cc in (f, sym same ∙ is))
