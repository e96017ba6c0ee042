-- Numbers that ascend: where one of them is found, and which of two places is the earlier one.
use Rattle.std.proofs.Common.{◌≡◌, ℕ, ◌<◌, ◌≤◌, List, length, get_or, Contains, Ok, Err}
use Rattle.std.proofs.Common.{◌∙◌, ap, arith, ◌⊎◌, inl, inr, eq-or-lt_of_le}
use Rattle.std.specs.List.Sorted.{IsStrictlyIncreasing, IsBinarySearchResult}
use Rattle.std.specs.Ordering.{nat_cmp}
use Rattle.std.proofs.lemmas.List.{get_or_default}
use Rattle.std.proofs.lemmas.List.Kept.{AllPairs-from_increasing}
use Rattle.std.proofs.lemmas.List.Sorted.{searched}
use Rattle.sp_lists.proofs.Elements.{le_or_lt}

module _ (xs : List ℕ) (rise : IsStrictlyIncreasing xs) where
  -- They don't descend.
  pub not_falling : (i j : ℕ) → i ≤ j → j < length xs → get_or xs i 0 ≤ get_or xs j 0
  not_falling i j le lt = settle (eq-or-lt_of_le le)
    where
      settle : (i ≡ j) ⊎ (i < j) → get_or xs i 0 ≤ get_or xs j 0
      settle (inl e) = omega (arith, ap (λ k. get_or xs k 0) e)
      settle (inr l) = omega (arith, AllPairs-from_increasing xs rise i j 0 l lt)

  -- The lesser of two stands earlier.
  pub stands_earlier : (i j : ℕ) → i < length xs → get_or xs i 0 < get_or xs j 0 → i < j
  stands_earlier i j lt less = settle (le_or_lt j i)
    where
      settle : (j ≤ i) ⊎ (i < j) → i < j
      settle (inl le) = absurd (omega (arith, not_falling j i le lt))
      settle (inr l) = l

  -- A search for one of them finds it
  pub is_found : (x i : ℕ) → IsBinarySearchResult (λ y. nat_cmp y x) xs (Ok i) → (i < length xs) × (get_or xs i 0 ≡ x)
  is_found x i h = searched xs x (Ok i) h not_falling

  -- and never ends without.
  pub is_not_missed : (x i : ℕ) → Contains xs x → IsBinarySearchResult (λ y. nat_cmp y x) xs (Err i) → ⊥
  is_not_missed x i (k, lt, at) h = settle (le_or_lt i k)
    where
      ends : (i ≤ length xs) × ((m : ℕ) → m < i → get_or xs m 0 < x)
          × ((m : ℕ) → i ≤ m → m < length xs → x < get_or xs m 0)
      ends = searched xs x (Err i) h not_falling

      here : get_or xs k 0 ≡ x
      here = get_or_default xs k 0 x lt ∙ at

      settle : (i ≤ k) ⊎ (k < i) → ⊥
      settle (inl le) = omega (arith, here, ends.2 k le lt)
      settle (inr l) = omega (arith, here, ends.1 k l)
