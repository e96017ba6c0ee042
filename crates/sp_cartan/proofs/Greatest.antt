-- The first column that fails a test is the greatest of which something doesn't hold.
use Rattle.std.proofs.Common.{◌≡◌, ℕ, zero, suc, ◌+◌, ◌<◌, ◌≤◌, Bool, true, false, cond, not, List, [], length}
use Rattle.std.proofs.Common.{get_or, Some, None, refl, sym, ◌∙◌, ap, arith, ◌⊎◌, inl, inr, eq-or-lt_of_le}
use Rattle.std.specs.List.{find, range_with_len}
use Rattle.std.specs.Option.{option_map}
use Rattle.sp_lists.proofs.Elements.{range_all}
use Rattle.sp_lists.proofs.Finding.{none_found}
use Rattle.sp_grid_law.specs.Columns.{AreWithin, IsGreatestPast}
use Rattle.sp_cartan.specs.Refusals.{first_failing}

-- The first number of a range that passes a test.
found_first : (test : ℕ → Bool) (a n k : ℕ) → a ≤ k → k < a + n → test k ≡ true →
    ((i : ℕ) → a ≤ i → i < k → test i ≡ false) → find test (range_with_len a n) ≡ Some k
found_first test a zero k from below passes before = absurd (omega arith)
found_first test a (suc n) k from below passes before =
    settle (eq-or-lt_of_le from)
    (λ next under. found_first test (a + 1) n k next under passes (λ i lo hi. before i (omega arith) hi))
  where
    settle : (a ≡ k) ⊎ (a < k) → (a + 1 ≤ k → k < a + 1 + n → find test (range_with_len (a + 1) n) ≡ Some k) →
        cond (test a) (Some a) (find test (range_with_len (a + 1) n)) ≡ Some k
    settle (inl same) later =
        ap (λ b. cond b (Some a) (find test (range_with_len (a + 1) n))) (ap test same ∙ passes) ∙ ap Some same
    settle (inr lt) later =
        ap (λ b. cond b (Some a) (find test (range_with_len (a + 1) n))) (before a (omega arith) lt)
        ∙ later (omega arith) (omega arith)

-- What is not true is false.
untrue : (b : Bool) → (b ≡ true → ⊥) → b ≡ false
untrue true never = absurd (never refl)
untrue false never = refl

module _ (columns : List (List ℕ)) (Within : ℕ → Type 0) (fits : ℕ → Bool)
    (passes : (k : ℕ) → Within k → fits k ≡ true) (holds : (k : ℕ) → fits k ≡ true → Within k) where
  -- Where it holds of all columns, none fails.
  pub none_fails : AreWithin columns Within → first_failing fits columns ≡ None
  none_fails all =
      ap (option_map (λ k. get_or columns k []))
      (none_found (λ k. not (fits k)) (range_with_len 0 (length columns))
      (range_all (λ k. not (fits k) ≡ false) 0 (length columns)
      (λ k from under. ap not (passes k (all k (omega arith))))))

  -- The greatest column of which it doesn't hold is the first that fails.
  pub greatest_fails : (at : List ℕ) → IsGreatestPast columns Within at → first_failing fits columns ≡ Some at
  greatest_fails at h =
      ap (option_map (λ k. get_or columns k []))
      (found_first (λ k. not (fits k)) 0 (length columns) h.column (omega arith) (omega (arith, h.in_range))
      (ap not (untrue (fits h.column) (λ is. h.past (holds h.column is))))
      (λ i from before. ap not (passes i (h.greater i before))))
      ∙ ap Some (sym h.is)
