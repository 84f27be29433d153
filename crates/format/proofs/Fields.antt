-- The fields of a sentence as they are found byte by byte. Assumes nothing.
use Rattle.std.proofs.Common.{◌≡◌, ℕ, ◌+◌, ◌<◌, ◌≤◌, List, [], ◌∷◌, ◌++◌, length, get_or, drop, sym, refl, ap, ◌∙◌, subst, append_assoc, arith}
use Rattle.std.proofs.lemmas.List.{length_push}
use Rattle.common.specs.declared.list.List.{List as ListedIn}
use Rattle.common.specs.Lists.{items, room}
use Rattle.format.specs.declared.format.Part.{Part}
use Rattle.common.specs.Added.{Added}
use Rattle.format.specs.Text.{plain}
use Rattle.format.specs.Sentence.{fields, commas}
use Rattle.common.proofs.Additions.{added_more}
use Rattle.format.proofs.Commas.{commas-comma, commas-other, fields-comma, fields-other}

-- where a walk over the text stands at byte i, with a field begun: some are added, and the text from i on has the others
pub record Going (s : List ℕ) (before : ListedIn Part) (i : ℕ) (field : Part) (out : ListedIn Part) : Type 0 where
  pub done : List Part
  pub added : Added before done out
  pub left : done ++ fields field.code field.place field.count (drop i s) ≡ fields 1 1 0 s
  pub simple : field ≡ plain field.code field.place field.count
  pub here : field.place + field.count ≡ 1 + i
  pub few : field.code + commas (drop i s) ≤ 64
  pub fits : length (items out) + commas (drop i s) + 1 ≤ room out

-- the same at other names
pub going_at : (s : List ℕ) (before : ListedIn Part) (i : ℕ) (field f : Part) (out o : ListedIn Part) → field ≡ f → out ≡ o → Going s before i f o → Going s before i field out
going_at s before i field f out o e h g = subst (λ x. Going s before i x out) (sym e) (subst (λ x. Going s before i f x) (sym h) g)

-- a field with one byte more, of the width and the sign of another
abbrev pub counting : Part → Part → Part
counting f g = record { code = f.code; place = f.place; width = g.width; count = f.count + 1; signed = g.signed }

module _ (s : List ℕ) (before : ListedIn Part) (i : ℕ) (field : Part) (out after : ListedIn Part) (g : Going s before i field out) where
  -- a comma ends the field
  pub going_comma : i < length s → get_or s i 0 ≡ 44 → Added out (field ∷ []) after
      → Going s before (i + 1) (plain (field.code + 1) (field.place + field.count + 1) 0) after
  going_comma l e h =
      let others : List Part = fields (field.code + 1) (field.place + field.count + 1) 0 (drop (i + 1) s) in
      let split : field ∷ others ≡ fields field.code field.place field.count (drop i s) =
      ap (λ f. f ∷ others) g.simple ∙ sym (fields-comma s i l field.code field.place field.count e) in
      let fewer = commas-comma s i l e in
      let more : length (items after) ≡ length (items out) + 1 = ap length h.holds ∙ length_push (items out) field in
      record {
        done = g.done ++ (field ∷ []);
        added = added_more before out after g.done (field ∷ []) g.added h;
        left = append_assoc g.done (field ∷ []) others ∙ ap (λ t. g.done ++ t) split ∙ g.left;
        simple = refl;
        here = omega (arith, g.here);
        few = omega (arith, g.few);
        fits = omega (arith, g.fits, h.same_room);
      }

  -- the text ends, or a `*` ends it
  pub going_end : fields field.code field.place field.count (drop i s) ≡ plain field.code field.place field.count ∷ []
      → Added out (field ∷ []) after → Added before (fields 1 1 0 s) after
  going_end e h =
      let all : g.done ++ (field ∷ []) ≡ fields 1 1 0 s = ap (λ t. g.done ++ t) (ap (λ f. f ∷ []) g.simple ∙ sym e) ∙ g.left in
      subst (λ ps. Added before ps after) all (added_more before out after g.done (field ∷ []) g.added h)

module _ (s : List ℕ) (before : ListedIn Part) (i : ℕ) (field : Part) (out : ListedIn Part) (g : Going s before i field out) where
  -- another byte is the field's
  pub going_other : i < length s → (get_or s i 0 ≡ 42 → ⊥) → (get_or s i 0 ≡ 44 → ⊥)
      → Going s before (i + 1) (plain field.code field.place (field.count + 1)) out
  going_other l no-star no-comma =
      let same = commas-other s i l no-star no-comma in
      record {
        done = g.done;
        added = g.added;
        left = ap (λ t. g.done ++ t) (sym (fields-other s i l no-star no-comma field.code field.place field.count)) ∙ g.left;
        simple = refl;
        here = omega (arith, g.here);
        few = omega (arith, g.few);
        fits = omega (arith, g.fits);
      }
