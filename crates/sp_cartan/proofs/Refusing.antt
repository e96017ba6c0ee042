-- What refuses an inverse or a product, as tests.
use Rattle.std.proofs.Common.{◌≡◌, ℕ, ◌+◌, ◌-◌, ◌<◌, ◌≤◌, true, nat_le, List, length, Some, None, ◌∙◌, ap, arith}
use Rattle.std.proofs.Common.{le-leb, leb-true}
use Rattle.std.specs.Int.RustNames.{unsigned_abs}
use Rattle.std.specs.List.{list_all, range_with_len}
use Rattle.std.specs.Option.{option_or}
use Rattle.sp_defs.specs.Laurent.{Laurent, Term}
use Rattle.sp_defs.specs.Within.{PowersWithin}
use Rattle.sp_lists.proofs.Elements.{all_tests, range_all, range_at, tests_all}
use Rattle.sp_lists.proofs.Places.{all_weaken}
use Rattle.sp_fock_law.specs.Grid.{GridValue, cell_of}
use Rattle.sp_grid_law.specs.Columns.{AreWithin, IsColumnWithin, IsGreatestPast}
use Rattle.sp_grid_law.specs.Inverses.{IsInverseWithin, inverse_size}
use Rattle.sp_grid_law.specs.Products.{IsProductWithin, product_size}
use Rattle.sp_grid_law.specs.Solved.{inverse_of}
use Rattle.sp_grid_law.specs.Tables.{transposed}
use Rattle.sp_cartan.specs.Refusals.{cartan_past, far_column, inverse_fits, inverse_past, inverted_powers, is_near}
use Rattle.sp_cartan.specs.Refusals.{large_inverse, product_fits}
use Rattle.sp_cartan.specs.Square.{square_of}
use Rattle.sp_cartan.proofs.Greatest.{greatest_fails, none_fails}

-- ---- powers

powers_pass : (d : ℕ) (p : Laurent) → PowersWithin d p → list_all (λ t. nat_le (unsigned_abs t.0) d) p ≡ true
powers_pass d p h =
    tests_all (λ t. nat_le (unsigned_abs t.0) d) p
    (all_weaken (λ (t : Term). unsigned_abs t.0 ≤ d) (λ t. nat_le (unsigned_abs t.0) d ≡ true) p
    (λ t le. le-leb (unsigned_abs t.0) d le) h)

powers_hold : (d : ℕ) (p : Laurent) → list_all (λ t. nat_le (unsigned_abs t.0) d) p ≡ true → PowersWithin d p
powers_hold d p test =
    all_weaken (λ (t : Term). nat_le (unsigned_abs t.0) d ≡ true) (λ t. unsigned_abs t.0 ≤ d) p
    (λ t is. leb-true (unsigned_abs t.0) d is) (all_tests (λ t. nat_le (unsigned_abs t.0) d) p test)

module _ (d : ℕ) (g : GridValue) (column : ℕ) where
  near_passes : IsColumnWithin d g column → is_near d g column ≡ true
  near_passes h =
      tests_all (λ line. list_all (λ t. nat_le (unsigned_abs t.0) d) (cell_of g line column))
      (range_with_len 0 (length g.lines))
      (range_all (λ line. list_all (λ t. nat_le (unsigned_abs t.0) d) (cell_of g line column) ≡ true) 0
      (length g.lines) (λ line from under. powers_pass d (cell_of g line column) (h line (omega arith))))

  near_holds : is_near d g column ≡ true → IsColumnWithin d g column
  near_holds test line lt =
      powers_hold d (cell_of g line column)
      (range_at (λ i. list_all (λ t. nat_le (unsigned_abs t.0) d) (cell_of g i column) ≡ true) 0 (length g.lines)
      (all_tests (λ i. list_all (λ t. nat_le (unsigned_abs t.0) d) (cell_of g i column))
      (range_with_len 0 (length g.lines)) test) line (omega arith) (omega arith))

-- ---- sizes

module _ (limit : ℕ) (size : ℕ → ℕ) (a n : ℕ) where
  sizes_pass : ((line : ℕ) → a ≤ line → line < a + n → size line ≤ limit) →
      list_all (λ line. nat_le (size line) limit) (range_with_len a n) ≡ true
  sizes_pass h =
      tests_all (λ line. nat_le (size line) limit) (range_with_len a n)
      (range_all (λ line. nat_le (size line) limit ≡ true) a n
      (λ line from under. le-leb (size line) limit (h line from under)))

  sizes_hold : list_all (λ line. nat_le (size line) limit) (range_with_len a n) ≡ true →
      (line : ℕ) → a ≤ line → line < a + n → size line ≤ limit
  sizes_hold test line from under =
      leb-true (size line) limit
      (range_at (λ i. nat_le (size i) limit ≡ true) a n
      (all_tests (λ i. nat_le (size i) limit) (range_with_len a n) test) line from under)

module _ (limit : ℕ) (g : GridValue) (column : ℕ) where
  inverse_passes : IsInverseWithin limit g (inverse_of g) column → inverse_fits limit g column ≡ true
  inverse_passes h =
      sizes_pass limit (λ line. inverse_size g (inverse_of g) line column) (column + 1) (length g.lines - (column + 1))
      (λ line from under. h line (omega (arith, from)) (omega (arith, from, under)))

  inverse_holds : inverse_fits limit g column ≡ true → IsInverseWithin limit g (inverse_of g) column
  inverse_holds test line behind within =
      sizes_hold limit (λ line. inverse_size g (inverse_of g) line column) (column + 1)
      (length g.lines - (column + 1)) test line (omega (arith, behind)) (omega (arith, behind, within))

module _ (limit : ℕ) (a b : GridValue) (column : ℕ) where
  product_passes : IsProductWithin limit a b column → product_fits limit a b column ≡ true
  product_passes h =
      sizes_pass limit (λ line. product_size a b line column) 0 (length a.lines)
      (λ line from under. h line (omega (arith, under)))

  product_holds : product_fits limit a b column ≡ true → IsProductWithin limit a b column
  product_holds test line within =
      sizes_hold limit (λ line. product_size a b line column) 0 (length a.lines) test line (omega arith)
      (omega (arith, within))

-- ---- the inverse of the square part

module _ (limit : ℕ) (g : GridValue) where
  -- A column with a power too far from 0 refuses it.
  pub far_refuses : (at : List ℕ) → IsGreatestPast g.columns (IsColumnWithin inverted_powers g) at →
      inverse_past limit g ≡ Some at
  unfolding inverse_past far_column
  far_refuses at h =
      ap (λ o. option_or o (large_inverse limit (square_of g)))
      (greatest_fails g.columns (IsColumnWithin inverted_powers g) (is_near inverted_powers g)
      (near_passes inverted_powers g) (near_holds inverted_powers g) at h)

  module _ (near : AreWithin g.columns (IsColumnWithin inverted_powers g)) where
    none_far : far_column g ≡ None
    unfolding far_column
    none_far =
        none_fails g.columns (IsColumnWithin inverted_powers g) (is_near inverted_powers g)
        (near_passes inverted_powers g) (near_holds inverted_powers g) near

    -- Without one, a column of the inverse that is too large does.
    pub large_refuses : (at : List ℕ) →
        IsGreatestPast g.columns (IsInverseWithin limit (square_of g) (inverse_of (square_of g))) at →
        inverse_past limit g ≡ Some at
    unfolding inverse_past large_inverse
    large_refuses at h =
        ap (λ o. option_or o (large_inverse limit (square_of g))) none_far
        ∙ greatest_fails g.columns (IsInverseWithin limit (square_of g) (inverse_of (square_of g)))
        (inverse_fits limit (square_of g)) (inverse_passes limit (square_of g)) (inverse_holds limit (square_of g)) at
        h

    -- Without any, nothing does.
    pub none_refuses : AreWithin g.columns (IsInverseWithin limit (square_of g) (inverse_of (square_of g))) →
        inverse_past limit g ≡ None
    unfolding inverse_past large_inverse
    none_refuses all =
        ap (λ o. option_or o (large_inverse limit (square_of g))) none_far
        ∙ none_fails g.columns (IsInverseWithin limit (square_of g) (inverse_of (square_of g)))
        (inverse_fits limit (square_of g)) (inverse_passes limit (square_of g)) (inverse_holds limit (square_of g)) all

-- ---- the Cartan matrix

module _ (limit : ℕ) (g : GridValue) where
  -- The greatest column that is too large refuses it.
  pub product_refuses : (at : List ℕ) → IsGreatestPast g.columns (IsProductWithin limit (transposed g) g) at →
      cartan_past limit g ≡ Some at
  unfolding cartan_past
  product_refuses at h =
      greatest_fails g.columns (IsProductWithin limit (transposed g) g) (product_fits limit (transposed g) g)
      (product_passes limit (transposed g) g) (product_holds limit (transposed g) g) at h

  -- Where no column is too large, nothing refuses it.
  pub product_whole : AreWithin g.columns (IsProductWithin limit (transposed g) g) → cartan_past limit g ≡ None
  unfolding cartan_past
  product_whole all =
      none_fails g.columns (IsProductWithin limit (transposed g) g) (product_fits limit (transposed g) g)
      (product_passes limit (transposed g) g) (product_holds limit (transposed g) g) all
