-- Tests of the elements of a list, with one element more.
use Rattle.std.proofs.Common.{◌≡◌, ℕ, ◌+◌, ◌<◌, Bool, false, cond, ◌||◌, List, [], ◌∷◌, take}
use Rattle.std.proofs.Common.{None, Some, find, count_by, length, get_or, ◌∙◌, ap, ap₂}
use Rattle.std.proofs.lemmas.List.{take_more}
use Rattle.std.proofs.lemmas.List.Sums.{sum_by_more}
use Rattle.std.proofs.lemmas.List.Folds.{list_any_more, find-append}
use Rattle.std.specs.List.{list_any}
use Rattle.std.specs.Option.{option_or}

module _ {X : Type 0} (q : X → Bool) (xs : List X) (i : ℕ) (d : X) (lt : i < length xs) where
  -- A test fails at one element more where it fails at those before and at this one.
  pub none_more : list_any q (take i xs) ≡ false → q (get_or xs i d) ≡ false → list_any q (take (i + 1) xs) ≡ false
  none_more h e = list_any_more q xs i d lt ∙ ap₂ (λ a b. a || b) h e

  -- One element more counts 1 where the test passes at it.
  pub count_more : count_by q (take (i + 1) xs) ≡ count_by q (take i xs) + cond (q (get_or xs i d)) 1 0
  count_more = sum_by_more (λ x. cond (q x) 1 0) xs i d lt

  -- The first element that passes, among one element more: the one before, or else this one.
  pub find_more :
      find q (take (i + 1) xs) ≡ option_or (find q (take i xs)) (cond (q (get_or xs i d)) (Some (get_or xs i d)) None)
  find_more =
      ap (find q) (take_more xs i d lt)
      ∙ find-append q (take i xs) (get_or xs i d ∷ [])
