-- The bytes of an entry, written and read again. Assumes nothing.
use Rattle.std.proofs.Common.{◌≡◌, ℕ, zero, suc, ◌*◌, ◌/◌, ◌%◌, ◌<◌, List, [], ◌∷◌, ◌++◌, length, get_or, take, drop, sym, refl, ap, ◌∙◌, append-nil, arith}
use native.Mathlib.Nat.{div-div-eq-div-mul}
use Rattle.std.proofs.lemmas.List.{drop_all}
use Rattle.common.specs.Numbers.{number, le}
use Rattle.common.proofs.Numbers.{number-le, number_more}
use Rattle.register.specs.declared.entry.Entry.{Entry}
use Rattle.block.specs.Entries.{entry_size, field_bytes, entry_bytes, entry_of, Fits}
use Rattle.block.proofs.Cuts.{cut, le-take, below_take}

-- the n bytes of a number from the one that counts d on, each by one division of the number
abbrev from_place : ℕ → ℕ → ℕ → List ℕ
from_place zero x d = []
from_place (suc n) x d = x / d % 256 ∷ from_place n x (d * 256)

from_is : (n x d : ℕ) → le n (x / d) ≡ from_place n x d
from_is zero x d = refl
from_is (suc n) x d = ap (λ y. x / d % 256 ∷ le n y) (div-div-eq-div-mul x d 256) ∙ ap (λ t. x / d % 256 ∷ t) (from_is n x (d * 256))

-- the bytes of a number as its division by powers of 256 gives them
pub le_eight : (x : ℕ) → x % 256 ∷ from_place 7 x 256 ≡ le 8 x
le_eight x = ap (λ t. x % 256 ∷ t) (sym (from_is 7 x 256))

pub le_four : (x : ℕ) → x % 256 ∷ from_place 3 x 256 ≡ le 4 x
le_four x = ap (λ t. x % 256 ∷ t) (sym (from_is 3 x 256))

ap₆ : {A B C D E F R : Type 0} (make : A → B → C → D → E → F → R) {a a' : A} {b b' : B} {c c' : C} {d d' : D} {e e' : E} {f f' : F}
    → a ≡ a' → b ≡ b' → c ≡ c' → d ≡ d' → e ≡ e' → f ≡ f' → make a b c d e f ≡ make a' b' c' d' e' f'
ap₆ make p q r s t u = rw (p, q, r, s, t, u)

-- an entry's bytes, item by item of the fields' bytes
abbrev pub sixteen : List ℕ → List ℕ → ℕ → ℕ → List ℕ → List ℕ → List ℕ
sixteen p l k s v f =
    get_or p 0 0 ∷ (get_or p 1 0 ∷ (get_or p 2 0 ∷ (get_or p 3 0 ∷ (get_or p 4 0 ∷ (get_or p 5 0 ∷ (get_or p 6 0 ∷ (get_or p 7 0 ∷ (get_or l 0 0 ∷ (get_or l 1 0
    ∷ (k ∷ (s ∷ (get_or v 0 0 ∷ (get_or v 1 0 ∷ (get_or f 0 0 ∷ (get_or f 1 0 ∷ [])))))))))))))))

pub sixteen_is : (place len kind series verdict fault : ℕ) (p l v f : List ℕ) → p ≡ le 8 place → l ≡ le 2 len → v ≡ le 2 verdict → f ≡ le 2 fault
    → kind < 256 → series < 256 → sixteen p l kind series v f ≡ field_bytes place len kind series verdict fault
unfolding field_bytes
sixteen_is place len kind series verdict fault p l v f ep el ev ef k s =
    let is-kind : kind % 256 ≡ kind = omega arith in
    let is-series : series % 256 ≡ series = omega arith in
    rw (ep, el, ev, ef, is-kind, is-series)

pub entry_long : (e : Entry) → length (entry_bytes e) ≡ entry_size
unfolding field_bytes
entry_long e = refl

abbrev made : ℕ → ℕ → ℕ → ℕ → ℕ → ℕ → Entry
made p l k s v f = record { place = p; len = l; kind = k; series = s; verdict = v; fault = f }

pub entry_back : (e : Entry) → Fits e → entry_of (entry_bytes e) ≡ e
unfolding field_bytes
entry_back e h =
    let p : number (le 8 e.place) ≡ e.place = number-le 8 e.place h.place in
    let l : number (le 2 e.len) ≡ e.len = number-le 2 e.len h.len in
    let kind_fits : e.kind < 256 = h.kind in
    let series-fits : e.series < 256 = h.series in
    let k : e.kind % 256 ≡ e.kind = omega arith in
    let s : e.series % 256 ≡ e.series = omega arith in
    let v : number (le 2 e.verdict) ≡ e.verdict = number-le 2 e.verdict h.verdict in
    let f : number (le 2 e.fault) ≡ e.fault = number-le 2 e.fault h.fault in
    ap₆ made p l k s v f

module _ (s : List ℕ) (typed : (i : ℕ) → get_or s i 0 < 256) (long : length s ≡ entry_size) where
  one_byte : (at : ℕ) → at < entry_size → number (take 1 (drop at s)) ≡ get_or s at 0
  one_byte at less = omega (arith, number_more s at 0 (omega arith))

  pub bytes_back : entry_bytes (entry_of s) ≡ s
  unfolding field_bytes
  bytes_back =
      let p = le-take 0 8 s typed (omega arith) in
      let l = le-take 8 2 s typed (omega arith) in
      let k : le 1 (get_or s 10 0) ≡ take 1 (drop 10 s) = ap (le 1) (sym (one_byte 10 (omega arith))) ∙ le-take 10 1 s typed (omega arith) in
      let r : le 1 (get_or s 11 0) ≡ take 1 (drop 11 s) = ap (le 1) (sym (one_byte 11 (omega arith))) ∙ le-take 11 1 s typed (omega arith) in
      let v = le-take 12 2 s typed (omega arith) in
      let f = le-take 14 2 s typed (omega arith) in
      let last : drop 14 s ≡ take 2 (drop 14 s) = cut 14 2 s ∙ ap (λ t. take 2 (drop 14 s) ++ t) (drop_all entry_size s (omega arith)) ∙ append-nil _ in
      ap₆ (λ a b c d e g. a ++ (b ++ (c ++ (d ++ (e ++ g))))) p l k r v (f ∙ sym last)
      ∙ sym (cut 0 8 s ∙ ap (λ t. take 8 s ++ t) (cut 8 2 s ∙ ap (λ t. take 2 (drop 8 s) ++ t) (cut 10 1 s ∙ ap (λ t. take 1 (drop 10 s) ++ t) (cut 11 1 s
      ∙ ap (λ t. take 1 (drop 11 s) ++ t) (cut 12 2 s)))))

  pub fits-back : Fits (entry_of s)
  fits-back = record {
    place = below_take 0 8 s typed (omega arith);
    len = below_take 8 2 s typed (omega arith);
    kind = typed 10;
    series = typed 11;
    verdict = below_take 12 2 s typed (omega arith);
    fault = below_take 14 2 s typed (omega arith);
  }
