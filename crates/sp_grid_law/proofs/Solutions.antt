-- The inverse of a triangular matrix with ones: column by column, each cell from the ones before it.
use Rattle.std.proofs.Common.{◌≡◌, ℕ, zero, suc, ◌+◌, ◌-◌, ◌<◌, ◌≤◌}
use Rattle.std.proofs.Common.{List, [], ◌∷◌, ◌++◌, map, length, length-append, get_or}
use Rattle.std.proofs.Common.{refl, sym, ◌∙◌, ap, ap₂, subst, arith, inl, inr, ◌⊎◌}
use Rattle.std.proofs.lemmas.List.FromFn.{map-range_with_len_more, get_or-map-range_with_len}
use Rattle.std.specs.List.{range_with_len}
use Rattle.sp_defs.specs.Laurent.{Laurent, IsLaurent, collect, one, plus, negate, times, sum_over}
use Rattle.sp_lists.proofs.Elements.{le_or_lt, range_add}
use Rattle.sp_algebra.proofs.Laws.{IsLaurent-plus, plus_assoc, plus_comm, plus_nought, nought_plus, plus_negate}
use Rattle.sp_algebra.proofs.Laws.{times_nought, nought_times, one_times}
use Rattle.sp_algebra.proofs.Sums.{sum_over-append}
use Rattle.sp_grid_law.specs.Tables.{delta}
use Rattle.sp_grid_law.specs.Solved.{earlier_sum, solution, solved}
use Rattle.sp_grid_law.proofs.Sums.{sum_over-range, sum_over-none}
use Rattle.sp_grid_law.proofs.Matrices.{Matrix, mul, delta-same, delta-other, IsLaurent-delta, mul-alike, mul-assoc}
use Rattle.sp_grid_law.proofs.Matrices.{delta-mul, mul-delta, mul-collect, one_inverse}

-- 1 on the diagonal, and 0 behind it in each line.
pub record IsUnitLower (n : ℕ) (A : Matrix) : Type 0 where
  pub own : (i : ℕ) → i < n → A i i ≡ one
  pub above : (i j : ℕ) → i < j → j < n → A i j ≡ []

-- ---- the cells of a column

get_or-last : (xs : List Laurent) (p d : Laurent) (n : ℕ) → length xs ≡ n → get_or (xs ++ p ∷ []) n d ≡ p
get_or-last [] p d zero h = refl
get_or-last [] p d (suc n) h = absurd (omega arith)
get_or-last (x ∷ xs) p d zero h = absurd (omega arith)
get_or-last (x ∷ xs) p d (suc n) h = get_or-last xs p d n (omega arith)

module _ (A : Matrix) (j : ℕ) where
  -- So many cells as lines.
  pub length-solved : (m : ℕ) → length (solved A j m) ≡ m
  unfolding solved
  length-solved zero = refl
  length-solved (suc m) =
      longer (solved A j m) (plus (delta m j) (negate (earlier_sum A m (solved A j m)))) m (length-solved m)
    where
      longer : (xs : List Laurent) (p : Laurent) (m : ℕ) → length xs ≡ m → length (xs ++ p ∷ []) ≡ suc m
      longer xs p m h = omega (arith, length-append xs (p ∷ []), h)

  -- The first cells are those of the inverse.
  pub solved_is : (m : ℕ) → solved A j m ≡ map (λ i. solution A i j) (range_with_len 0 m)
  unfolding solved
  solved_is zero = refl
  solved_is (suc m) =
      ap₂ (λ xs p. xs ++ p ∷ []) (solved_is m) (sym (get_or-last (solved A j m) _ [] m (length-solved m)))
      ∙ sym (map-range_with_len_more (λ i. solution A i j) 0 m m (omega arith))
      ∙ ap (λ n. map (λ i. solution A i j) (range_with_len 0 n)) {x = m + 1} {y = suc m} (omega arith)

  -- The cell at an earlier line.
  pub solved_at : (m k : ℕ) → k < m → get_or (solved A j m) k [] ≡ solution A k j
  solved_at m k lt =
      ap (λ xs. get_or xs k []) (solved_is m)
      ∙ get_or-map-range_with_len (λ i. solution A i j) 0 m k k [] lt (omega arith)

  -- What the earlier cells of a column sum up to.
  abbrev pub earlier : ℕ → Laurent
  earlier i = sum_over (range_with_len 0 i) (λ k. times (A i k) (solution A k j))

  -- A cell is what the ones before it leave over.
  pub solution_step : (i : ℕ) → solution A i j ≡ plus (delta i j) (negate (earlier i))
  unfolding solved
  solution_step i =
      get_or-last (solved A j i) _ [] i (length-solved i)
      ∙ ap (λ p. plus (delta i j) (negate p))
      (sum_over-range 0 i (λ k. times (A i k) (get_or (solved A j i) k [])) (λ k. times (A i k) (solution A k j))
      (λ k from lt. ap (times (A i k)) (solved_at i k (omega arith))))

  -- A cell is a polynomial.
  pub IsLaurent-solution : (i : ℕ) → IsLaurent (solution A i j)
  IsLaurent-solution i =
      subst IsLaurent (sym (solution_step i)) (IsLaurent-plus (delta i j) (negate (earlier i)))

  none_before : (i : ℕ) → ((k : ℕ) → k < i → solution A k j ≡ []) → earlier i ≡ []
  none_before i h =
      sum_over-none 0 i (λ k. times (A i k) (solution A k j))
      (λ k from lt. ap (times (A i k)) (h k (omega arith)) ∙ times_nought (A i k))

  negate-nought : negate [] ≡ []
  unfolding negate collect
  negate-nought = refl

  -- Above the diagonal the cells are 0.
  pub solution_above : (m k : ℕ) → m ≤ j → k < m → solution A k j ≡ []
  unfolding collect
  solution_above zero k le lt = absurd (omega arith)
  solution_above (suc m) k le lt = settle (λ i under. solution_above m i (omega arith) under) (le_or_lt m k)
    where
      last : ((i : ℕ) → i < m → solution A i j ≡ []) → solution A m j ≡ []
      last before =
          solution_step m
          ∙ ap₂ (λ d p. plus d (negate p)) (delta-other m j (λ e. omega arith)) (none_before m before)
          ∙ ap (plus []) negate-nought
          ∙ nought_plus [] refl

      settle : ((i : ℕ) → i < m → solution A i j ≡ []) → (m ≤ k) ⊎ (k < m) → solution A k j ≡ []
      settle before (inl h) = ap (λ i. solution A i j) {x = k} {y = m} (omega arith) ∙ last before
      settle before (inr h) = before k h

  -- On the diagonal it is 1.
  pub solution_own : solution A j j ≡ one
  solution_own =
      solution_step j
      ∙ ap₂ (λ d p. plus d (negate p)) (delta-same j j refl)
      (none_before j (λ k lt. solution_above j k (omega arith) lt))
      ∙ ap (plus one) negate-nought
      ∙ plus_nought one (subst IsLaurent (delta-same j j refl) (IsLaurent-delta j j))

  -- What stands on the diagonal and before it in a line gives, with the column, 1 at equal places and 0 elsewhere.
  pub solution_right : (n : ℕ) → IsUnitLower n A → (i : ℕ) → i < n → mul n A (solution A) i j ≡ delta i j
  unfolding sum_over
  solution_right n h i lt =
      ap (λ r. sum_over r term) (ap (range_with_len 0) {x = n} {y = i + suc (n - suc i)} (omega arith)
      ∙ range_add 0 i (suc (n - suc i)))
      ∙ sum_over-append (range_with_len 0 i) (range_with_len (0 + i) (suc (n - suc i))) term
      ∙ ap (plus (earlier i)) behind
      ∙ taken (earlier i) (delta i j) (solution A i j) (IsLaurent-delta i j) (solution_step i)
    where
      term : ℕ → Laurent
      term k = times (A i k) (solution A k j)

      own : times (A i i) (solution A i j) ≡ solution A i j
      own = ap (λ p. times p (solution A i j)) (h.own i lt) ∙ one_times (solution A i j) (IsLaurent-solution i)

      behind : sum_over (range_with_len (0 + i) (suc (n - suc i))) term ≡ solution A i j
      behind =
          ap (λ k. sum_over (range_with_len k (suc (n - suc i))) term) {x = 0 + i} {y = i} (omega arith)
          ∙ ap₂ plus own
          (sum_over-none (i + 1) (n - suc i) term
          (λ k from under. ap (λ p. times p (solution A k j)) (h.above i k (omega arith) (omega arith))
          ∙ nought_times (solution A k j)))
          ∙ plus_nought (solution A i j) (IsLaurent-solution i)

      taken : (e d s : Laurent) → IsLaurent d → s ≡ plus d (negate e) → plus e s ≡ d
      taken e d s l step =
          ap (plus e) (step ∙ plus_comm d (negate e))
          ∙ sym (plus_assoc e (negate e) d)
          ∙ ap (λ p. plus p d) (plus_negate e)
          ∙ nought_plus d l

module _ (n : ℕ) (A : Matrix) (h : IsUnitLower n A) where
  -- The inverse is such a matrix too.
  pub solution_lower : IsUnitLower n (solution A)
  solution_lower = record {
    own = λ i lt. solution_own A i;
    above = λ i j lt under. solution_above A j j i (omega arith) lt;
  }

  -- The inverse of the inverse is the matrix.
  pub solution_twice : (i j : ℕ) → i < n → j < n → collect (A i j) ≡ solution (solution A) i j
  solution_twice i j hi hj =
      sym (mul-delta n A i j hj)
      ∙ sym (mul-alike n A (mul n (solution A) (solution (solution A))) A delta i j (λ k hk. refl)
      (λ k hk. solution_right (solution A) j n solution_lower k hk))
      ∙ sym (mul-assoc n A (solution A) (solution (solution A)) i j)
      ∙ mul-alike n (mul n A (solution A)) (solution (solution A)) delta (solution (solution A)) i j
      (λ k hk. solution_right A k n h i hi) (λ k hk. refl)
      ∙ delta-mul n (solution (solution A)) i j hi (IsLaurent-solution (solution A) j i)

  -- It is an inverse on the left too.
  pub solution_left : (i j : ℕ) → i < n → j < n → mul n (solution A) A i j ≡ delta i j
  solution_left i j hi hj =
      sym (mul-collect n (solution A) A i j)
      ∙ mul-alike n (solution A) (λ k l. collect (A k l)) (solution A) (solution (solution A)) i j (λ k hk. refl)
      (λ k hk. solution_twice k j hk hj)
      ∙ solution_right (solution A) j n solution_lower i hi

  -- An inverse on the right is the inverse.
  pub solution_only : (X : Matrix) → ((i j : ℕ) → i < n → j < n → mul n A X i j ≡ delta i j) →
      ((i j : ℕ) → i < n → j < n → IsLaurent (X i j)) → (i j : ℕ) → i < n → j < n → X i j ≡ solution A i j
  solution_only X right l i j hi hj =
      one_inverse n A (solution A) X solution_left right l i j hi hj ∙ IsLaurent-solution A j i
