-- Items as numbers. Assumes nothing.
use Rattle.std.proofs.Common.{◌≡◌, ℕ, suc, ◌+◌, ◌-◌, ◌*◌, ◌<◌, ◌≤◌, Bool, true, false, cond, ◌&&◌, List, [], ◌∷◌, length, get_or, take, drop, ℤ, pos, Some, None, Ok, Err, sym, refl, ap, ◌∙◌, mul-le-mul_left, arith, length-take, length-drop, w8, w16, w32, to_z}
use Rattle.std.specs.Option.{ok_or}
use Rattle.std.proofs.lemmas.Bool.{cond-true, false≢true, leb-true, lt-ltb}
use Rattle.std.proofs.lemmas.List.{drop-take, drop-drop, take-take}
use Rattle.format.specs.declared.format.Part.{Part}
use Rattle.format.specs.declared.items.ItemFault.TheVariants.{Outside, NoItem}
use Rattle.format.specs.Meaning.{size, bytes_of}
use Rattle.format.specs.Items.{inside, value, readable_width, number_in, item_bytes, item_of}

pub value_one : (b : Bool) (s : List ℕ) → length s ≡ 1 → cond b (to_z w8 (get_or s 0 0)) (pos (get_or s 0 0)) ≡ value b s
value_one b (x ∷ []) e = ap (λ n. cond b (to_z w8 n) (pos n)) (omega arith)
value_one b [] e = absurd (omega arith)
value_one b (x ∷ (y ∷ s)) e = absurd (omega arith)

pub value-two : (b : Bool) (s : List ℕ) → length s ≡ 2 → cond b (to_z w16 (get_or s 0 0 + get_or s 1 0 * 256)) (pos (get_or s 0 0 + get_or s 1 0 * 256)) ≡ value b s
value-two b (x ∷ (y ∷ [])) e = ap (λ n. cond b (to_z w16 n) (pos n)) (omega arith)
value-two b [] e = absurd (omega arith)
value-two b (x ∷ []) e = absurd (omega arith)
value-two b (x ∷ (y ∷ (z ∷ s))) e = absurd (omega arith)

abbrev four : List ℕ → ℕ
four s = get_or s 0 0 + get_or s 1 0 * 256 + get_or s 2 0 * 65536 + get_or s 3 0 * 16777216

pub value-four : (b : Bool) (s : List ℕ) → length s ≡ 4 → cond b (to_z w32 (four s)) (pos (four s)) ≡ value b s
value-four b (x ∷ (y ∷ (z ∷ (w ∷ [])))) e = ap (λ n. cond b (to_z w32 n) (pos n)) (omega arith)
value-four b [] e = absurd (omega arith)
value-four b (x ∷ []) e = absurd (omega arith)
value-four b (x ∷ (y ∷ [])) e = absurd (omega arith)
value-four b (x ∷ (y ∷ (z ∷ []))) e = absurd (omega arith)
value-four b (x ∷ (y ∷ (z ∷ (w ∷ (v ∷ s))))) e = absurd (omega arith)

-- a signed number of four bytes
pub number-four : (b : Bool) (s : List ℕ) (n : ℤ) → length s ≡ 4 → b ≡ true → n ≡ to_z w32 (four s) → Some n ≡ number_in b s
number-four true s n e signed is = ap Some (is ∙ value-four true s e) ∙ sym (ap (λ m. cond (readable_width m) (Some (value true s)) None) e)
number-four false s n e signed is = absurd (false≢true signed)

-- an item of a part that lies inside a record ends where the part does at the latest
pub item_ends : (p : Part) (i : ℕ) → i < p.count → p.width * i + p.width ≤ size p
item_ends p i less = let more : suc i ≤ p.count = less in omega (arith, mul-le-mul_left p.width more)

-- its bytes, taken from those of the part, as a number
module _ (s : List ℕ) (p : Part) (i : ℕ) (lies : inside s p ≡ true) (less : i < p.count) where
  abbrev w : ℕ
  w = p.width

  pub item_in : (n : ℕ) → n ≡ w → take n (drop (w * i) (bytes_of s p)) ≡ item_bytes s p i
  item_in n e =
      let ends = item_ends p i less in
      let more : size p ≡ w * i + (size p - w * i) = omega arith in
      ap (λ m. take m (drop (w * i) (bytes_of s p))) e ∙ ap (λ m. take w (drop (w * i) (take m (drop p.place s)))) more
      ∙ ap (take w) (drop-take (w * i) (size p - w * i) (drop p.place s)) ∙ take-take w (size p - w * i) _ (omega arith)
      ∙ ap (take w) (drop-drop (w * i) p.place s)

  long : length (item_bytes s p i) ≡ w
  long =
      let ends = item_ends p i less in
      let all : p.place + size p ≤ length s = leb-true _ _ lies in
      simp (length-take, length-drop) (omega arith)

  abbrev v : ℤ
  v = value p.signed (item_bytes s p i)

  by_width : (b : Bool) → ok_or (cond b (Some v) None) NoItem ≡ cond (b && true) (Ok v) (Err NoItem)
  by_width true = refl
  by_width false = refl

  pub item_is : (t : List ℕ) → t ≡ item_bytes s p i → ok_or (number_in p.signed t) NoItem ≡ item_of s p i
  item_is t e =
      ap (λ x. ok_or (number_in p.signed x) NoItem) e ∙ ap (λ n. ok_or (cond (readable_width n) (Some v) None) NoItem) long
      ∙ by_width (readable_width w) ∙ ap (λ b. cond (readable_width w && b) (Ok v) (Err NoItem)) (sym (lt-ltb i p.count less))
      ∙ sym (cond-true (inside s p) _ (Err Outside) lies)
