-- What is known of a matrix of which something is made.
use Rattle.std.proofs.Common.{◌≡◌, ℕ, ◌<◌, ◌≤◌, List, [], map, length, get_or, sym, ◌∙◌, ap, subst}
use Rattle.std.proofs.Common.{arith}
use Rattle.std.proofs.Common.{Result, Ok, Err, Option, Some, None, pos, refl, IfOk, OnOk}
use Rattle.std.specs.Result.{IsErrOf}
use Rattle.std.proofs.lemmas.List.{get_or-map, length-reverse}
use Rattle.sp_defs.specs.Laurent.{value_at_one}
use Rattle.sp_defs.specs.Partition.{regulars}
use Rattle.sp_defs.specs.Row.{regular_row}
use Rattle.sp_defs.specs.Within.{PowersWithin}
use Rattle.sp_algebra.proofs.Sizes.{within_monomial}
use Rattle.sp_fock_law.specs.Grid.{GridValue, cell_of}
use Rattle.sp_grid_law.specs.Tables.{HasPowersWithin}
use Rattle.sp_llt.specs.declared.refused.FirstRefused.{FirstRefused}
use Rattle.sp_matrix.specs.Matrix.{columns_of, decomposition_of, lines_of, matrix, number_cell}
use Rattle.sp_matrix.specs.Refusal.{refused_column}
use Rattle.sp_row_bounds.proofs.Ranks.{count_law}
use Rattle.sp_cartan.specs.Cartan.{cartan_of}
use Rattle.sp_cartan.specs.Refusals.{cartan_past, inverse_past}
use Rattle.sp_cartan.specs.Square.{square_of}
use Rattle.sp_grid_law.specs.Inverses.{IsInverse}
use Rattle.sp_grid_law.specs.Solved.{inverse_of}
use Rattle.sp_inverse.specs.declared.fault.GridFault.{GridFault}
use Rattle.sp_inverse.specs.declared.fault.GridFault.TheVariants.{TooLarge, Memory}
use Rattle.sp_replies.specs.declared.refusals.Refusal.{Refusal}
use Rattle.sp_session.specs.Inverses.{IsMade, cartan_within, inverse_within, unless_large}
use Rattle.sp_session.specs.Tables.{crystal_table, decomposition_table, unless_refused}

-- A grid that isn't refused is the whole one.
whole : (o : Option FirstRefused) (given grid : GridValue) → Ok grid ≡ unless_refused o given → grid ≡ given
whole None given grid h = cc
whole (Some refused) given grid h = cc

module _ (limit e n : ℕ) (grid : GridValue) where
  -- The table of a degree that isn't refused is its matrix.
  pub matrix_there : Ok grid ≡ crystal_table limit e n → grid ≡ matrix e n
  unfolding crystal_table
  matrix_there h = whole (refused_column e limit (columns_of e n)) (matrix e n) grid h

  numbers_there : Ok grid ≡ decomposition_table limit e n → grid ≡ decomposition_of e n
  unfolding decomposition_table
  numbers_there h = whole (refused_column e limit (columns_of e n)) (decomposition_of e n) grid h

  -- It has few columns.
  pub few_columns : n ≤ 30 → Ok grid ≡ crystal_table limit e n → length grid.columns ≤ 5604
  few_columns small h =
      omega (
        arith,
        ap (λ (g : GridValue). length g.columns) (matrix_there h),
        length-reverse (regulars e n),
        count_law.few_regulars e n,
        count_law.up_to_30 n small,
      )

  -- At v = 1 all powers are 0.
  pub constants : (d : ℕ) → Ok grid ≡ decomposition_table limit e n → HasPowersWithin d grid
  constants d h = subst (HasPowersWithin d) (sym (numbers_there h)) numbers
    where
      at : (i j : ℕ) → i < length (lines_of n) → j < length (columns_of e n) →
          cell_of (decomposition_of e n) i j
          ≡ number_cell e (get_or (lines_of n) i []) (get_or (columns_of e n) j [])
      at i j hi hj =
          ap (λ row. get_or row j [])
          (get_or-map (λ lambda. map (number_cell e lambda) (columns_of e n)) (lines_of n) i [] [] hi)
          ∙ get_or-map (number_cell e (get_or (lines_of n) i [])) (columns_of e n) j [] [] hj

      numbers : HasPowersWithin d (decomposition_of e n)
      numbers i j hi hj =
          subst (PowersWithin d) (sym (at i j hi hj))
          (within_monomial d (pos 0)
          (value_at_one (regular_row e (get_or (columns_of e n) j []) (get_or (lines_of n) i []))) (omega arith))

-- ---- what is told of a grid that may be too large

module _ (limit : ℕ) (grid : GridValue) where
  -- What is told of an inverse.
  pub inverse_told : (r : Result GridValue GridFault) (table : Result GridValue Refusal) → IsMade r table →
      IfOk r (λ h. h ≡ inverse_of (square_of grid)) → OnOk r (inverse_past limit grid ≡ None) →
      ((at : List ℕ) → IsErrOf r (TooLarge at) → inverse_past limit grid ≡ Some at) →
      table ≡ inverse_within limit grid
  inverse_told (Ok h) table made is none past =
      made ∙ ap Ok is ∙ sym (ap (λ o. unless_large o (inverse_of (square_of grid))) none)
  inverse_told (Err (TooLarge at)) table made is none past =
      made ∙ sym (ap (λ o. unless_large o (inverse_of (square_of grid))) (past at refl))
  inverse_told (Err Memory) table made is none past = absurd made

  -- And of a Cartan matrix.
  pub cartan_told : (r : Result GridValue GridFault) (table : Result GridValue Refusal) → IsMade r table →
      IfOk r (λ h. h ≡ cartan_of grid) → OnOk r (cartan_past limit grid ≡ None) →
      ((at : List ℕ) → IsErrOf r (TooLarge at) → cartan_past limit grid ≡ Some at) →
      table ≡ cartan_within limit grid
  cartan_told (Ok h) table made is none past =
      made ∙ ap Ok is ∙ sym (ap (λ o. unless_large o (cartan_of grid)) none)
  cartan_told (Err (TooLarge at)) table made is none past =
      made ∙ sym (ap (λ o. unless_large o (cartan_of grid)) (past at refl))
  cartan_told (Err Memory) table made is none past = absurd made

  -- What is told is the inverse, where it is a grid.
  pub inverse_is : (r : Result GridValue GridFault) (table : Result GridValue Refusal) → IsMade r table →
      IfOk r (λ h. h ≡ inverse_of (square_of grid)) →
      OnOk r (IsInverse (square_of grid) (inverse_of (square_of grid))) →
      IfOk table (IsInverse (square_of grid))
  inverse_is (Ok h) table made is inverse =
      subst (λ t. IfOk t (IsInverse (square_of grid))) (sym made)
      (subst (IsInverse (square_of grid)) (sym is) inverse)
  inverse_is (Err (TooLarge at)) table made is inverse =
      subst (λ t. IfOk t (IsInverse (square_of grid))) (sym made) tt
  inverse_is (Err Memory) table made is inverse = absurd made
