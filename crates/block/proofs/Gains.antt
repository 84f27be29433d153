-- Entries put behind those of a list, item by item of another list. Assumes nothing.
use Rattle.std.proofs.Common.{◌≡◌, ℕ, ◌+◌, ◌<◌, ◌≤◌, List, ◌++◌, length, get_or, take, sym, ap, ◌∙◌, subst, arith, length-append}
use Rattle.std.specs.List.{flat_map}
use Rattle.std.proofs.lemmas.List.{take_more}
use Rattle.std.proofs.lemmas.List.Folds.{length-flat_map-take}
use Rattle.common.specs.declared.list.List.{List as ListedIn}
use Rattle.common.specs.Lists.{items, room}
use Rattle.common.specs.Added.{Added}
use Rattle.common.proofs.Additions.{added_more}
use Rattle.register.specs.declared.entry.Entry.{Entry}
use Rattle.block.proofs.Parts.{joined_push}

module _ {X : Type 0} (a b : ListedIn Entry) (f : X → List Entry) (xs : List X) (k : ℕ) (d : X) (less : k < length xs)
    (before : Added a (flat_map f (take k xs)) b) where
  -- one step more
  pub added_step : (c : ListedIn Entry) (ys : List Entry) → ys ≡ f (get_or xs k d) → Added b ys c → Added a (flat_map f (take (k + 1) xs)) c
  added_step c ys is here =
      subst (λ es. Added a es c)
      (ap (λ s. flat_map f (take k xs) ++ s) is ∙ sym (joined_push f (take k xs) (get_or xs k d)) ∙ ap (flat_map f) (sym (take_more xs k d less)))
      (added_more a b c (flat_map f (take k xs)) ys before here)

  -- there is room for what the step adds, where there is room for all
  pub step_fits : length (items a) + length (flat_map f xs) ≤ room a → length (items b) + length (f (get_or xs k d)) ≤ room b
  step_fits fits =
      omega (arith, length-flat_map-take f xs k d less, ap length before.holds ∙ length-append (items a) (flat_map f (take k xs)), before.same_room)
