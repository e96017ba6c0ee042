-- Sums of products over the first cells of a line, with one cell more.
use Rattle.std.proofs.Common.{◌≡◌, ℕ, ◌+◌, ◌*◌, ◌<◌, ◌≤◌, List, [], ◌∷◌, length, take, get_or}
use Rattle.std.proofs.Common.{refl, sym, ◌∙◌, ap, ap₂, subst, arith}
use Rattle.std.proofs.lemmas.List.{get_or_default, take_more}
use Rattle.std.proofs.lemmas.List.Sums.{sum_by_more, sum_by_more_le}
use Rattle.std.specs.List.{AllByRecursion}
use Rattle.sp_defs.specs.Laurent.{Laurent, plus, times, size, sum_over}
use Rattle.sp_defs.specs.Within.{ProductWithin}
use Rattle.sp_lists.proofs.Places.{all_at}
use Rattle.sp_algebra.proofs.Laws.{IsLaurent-times, plus_nought, times_nought}
use Rattle.sp_algebra.proofs.Sizes.{size_plus, size_times}
use Rattle.sp_algebra.proofs.Sums.{IsLaurent-sum_over, sum_over-append}
use Rattle.sp_fock_law.specs.Sparse.{Cells}
use Rattle.sp_grid_law.specs.Lines.{cells_sum, cells_size, factor_at}
use Rattle.sp_grid_law.proofs.Bounds.{past_end}

-- The sum over no cells.
pub sum_none : (factors : List Laurent) → cells_sum [] factors ≡ []
unfolding sum_over
sum_none factors = refl

module _ (cells : Cells) (factors : List Laurent) (i : ℕ) (d : ℕ × Laurent) (lt : i < length cells) where
  -- The sizes of one cell more.
  pub size_more :
      cells_size (take (i + 1) cells) factors
      ≡ cells_size (take i cells) factors + size (get_or cells i d).1 * size (factor_at factors (get_or cells i d).0)
  size_more = sum_by_more (λ c. size c.1 * size (factor_at factors c.0)) cells i d lt

  -- They are within the sizes of all cells.
  pub size_more_le :
      cells_size (take i cells) factors + size (get_or cells i d).1 * size (factor_at factors (get_or cells i d).0)
      ≤ cells_size cells factors
  size_more_le = sum_by_more_le (λ c. size c.1 * size (factor_at factors c.0)) cells i d lt

  -- The sum over one cell more.
  pub sum_more :
      cells_sum (take (i + 1) cells) factors
      ≡ plus (cells_sum (take i cells) factors) (times (get_or cells i d).1 (factor_at factors (get_or cells i d).0))
  unfolding sum_over
  sum_more =
      ap (λ cs. cells_sum cs factors) (take_more cells i d lt)
      ∙ sum_over-append (take i cells) (get_or cells i d ∷ []) (λ c. times c.1 (factor_at factors c.0))
      ∙ ap (plus (cells_sum (take i cells) factors))
      (plus_nought (times (get_or cells i d).1 (factor_at factors (get_or cells i d).0))
      (IsLaurent-times (get_or cells i d).1 (factor_at factors (get_or cells i d).0)))

  -- Behind the last factor nothing is added.
  pub sum_past : length factors ≤ (get_or cells i d).0 →
      cells_sum (take (i + 1) cells) factors ≡ cells_sum (take i cells) factors
  sum_past le =
      sum_more
      ∙ ap (λ p. plus (cells_sum (take i cells) factors) (times (get_or cells i d).1 p))
      (past_end factors (get_or cells i d).0 le)
      ∙ ap (plus (cells_sum (take i cells) factors)) (times_nought (get_or cells i d).1)
      ∙ plus_nought (cells_sum (take i cells) factors)
      (IsLaurent-sum_over (take i cells) (λ c. times c.1 (factor_at factors c.0)))

  -- The size of the sum is at most the sum of the sizes.
  pub size_next : size (cells_sum (take i cells) factors) ≤ cells_size (take i cells) factors →
      size (cells_sum (take (i + 1) cells) factors) ≤ cells_size (take (i + 1) cells) factors
  size_next le =
      subst (λ p. size p ≤ cells_size (take (i + 1) cells) factors) (sym sum_more)
      (omega (
        arith,
        le,
        size_more,
        size_plus (cells_sum (take i cells) factors)
            (times (get_or cells i d).1 (factor_at factors (get_or cells i d).0)),
        size_times (get_or cells i d).1 (factor_at factors (get_or cells i d).0),
      ))

  -- A product within a bound.
  pub product_at : (n : ℕ) (e : Laurent) → AllByRecursion (λ c. AllByRecursion (ProductWithin n c.1) factors) cells →
      (k : ℕ) → k < length factors → ProductWithin n (get_or cells i d).1 (get_or factors k e)
  product_at n e h k within =
      all_at (ProductWithin n (get_or cells i d).1) factors k e
      (all_at (λ c. AllByRecursion (ProductWithin n c.1) factors) cells i d h lt) within

module _ (cells : Cells) (factors : List Laurent) (i : ℕ) (c : ℕ × Laurent) (lt : i < length cells)
    (here : c ≡ get_or cells i c) (sum : Laurent) (so_far : sum ≡ cells_sum (take i cells) factors)
    (small : size sum ≤ cells_size (take i cells) factors) where
  small_sum : size (cells_sum (take i cells) factors) ≤ cells_size (take i cells) factors
  small_sum = subst (λ p. size p ≤ cells_size (take i cells) factors) so_far small

  -- With the product of the next cell and its factor the sum goes on.
  pub step_taken : (factor : Laurent) → factor ≡ get_or factors c.0 factor → c.0 < length factors → (next : Laurent) →
      next ≡ plus sum (times c.1 factor) →
      (next ≡ cells_sum (take (i + 1) cells) factors) × (size next ≤ cells_size (take (i + 1) cells) factors)
  step_taken factor is within next e = (
    same,
    subst (λ p. size p ≤ cells_size (take (i + 1) cells) factors) (sym same) (size_next cells factors i c lt small_sum),
  )
    where
      factor_is : factor ≡ factor_at factors (get_or cells i c).0
      factor_is =
          is ∙ get_or_default factors c.0 factor [] within ∙ ap (λ (x : ℕ × Laurent). factor_at factors x.0) here

      same : next ≡ cells_sum (take (i + 1) cells) factors
      same =
          e
          ∙ ap₂ plus so_far (ap₂ times (ap (λ (x : ℕ × Laurent). x.1) here) factor_is)
          ∙ sym (sum_more cells factors i c lt)

  -- Where the next cell has no factor the sum stays.
  pub step_left : length factors ≤ c.0 →
      (sum ≡ cells_sum (take (i + 1) cells) factors) × (size sum ≤ cells_size (take (i + 1) cells) factors)
  step_left le = (
    same,
    subst (λ p. size p ≤ cells_size (take (i + 1) cells) factors) (sym same) (size_next cells factors i c lt small_sum),
  )
    where
      same : sum ≡ cells_sum (take (i + 1) cells) factors
      same =
          so_far
          ∙ sym (sum_past cells factors i c lt (subst (λ (x : ℕ × Laurent). length factors ≤ x.0) here le))
