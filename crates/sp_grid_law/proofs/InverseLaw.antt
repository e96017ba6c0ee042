-- A triangular grid has exactly one inverse, on both sides.
use Rattle.std.proofs.Common.{◌≡◌, ℕ, ◌<◌, length, refl, sym, ◌∙◌, ap, subst}
use Rattle.sp_defs.specs.Laurent.{IsLaurent}
use Rattle.sp_fock_law.specs.Grid.{GridValue, IsGrid, cell_of}
use Rattle.sp_grid_law.specs.Tables.{delta, identity, tabulated}
use Rattle.sp_grid_law.specs.Products.{product, product_cell}
use Rattle.sp_grid_law.specs.Inverses.{IsTriangular, IsInverse, InverseLaw}
use Rattle.sp_grid_law.specs.Solved.{inverse_of, solution}
use Rattle.sp_grid_law.proofs.Matrices.{Matrix, mul, mul-alike}
use Rattle.sp_grid_law.proofs.Solutions.{IsUnitLower, IsLaurent-solution, solution_right, solution_left}
use Rattle.sp_grid_law.proofs.Solutions.{solution_only}
use Rattle.sp_grid_law.proofs.Tabulated.{cell_tabulated, tabulated_grid, tabulated-alike, grid_is}

module _ (g : GridValue) (h : IsGrid g) (t : IsTriangular g) where
  abbrev side : ℕ
  side = length g.lines

  width : length g.columns ≡ side
  width = ap length t.square

  -- The cells of a triangular grid are a matrix with 1 on the diagonal and 0 behind it in each line.
  pub unit_lower : IsUnitLower side (cell_of g)
  unit_lower = record {
    own = t.own;
    above = λ i j lt under. t.greater i j lt (subst (λ n. j < n) (sym width) under);
  }

  cell_is : (i j : ℕ) → i < side → j < side → cell_of (inverse_of g) i j ≡ solution (cell_of g) i j
  cell_is i j hi hj =
      cell_tabulated g.degree g.columns g.lines (solution (cell_of g)) i j hi (subst (λ n. j < n) (sym width) hj)

  -- a product that has 1 at equal places and 0 elsewhere is the identity
  identity_is : (f : Matrix) → ((i j : ℕ) → i < side → j < side → f i j ≡ delta i j) →
      tabulated g.degree g.columns g.lines f ≡ identity g.degree g.lines
  identity_is f same =
      ap (λ columns. tabulated g.degree columns g.lines f) t.square
      ∙ tabulated-alike g.degree g.lines g.lines f delta same

  right_is : product g (inverse_of g) ≡ identity g.degree g.lines
  right_is = identity_is (product_cell g (inverse_of g)) (λ i j hi hj.
      ap (λ n. mul n (cell_of g) (cell_of (inverse_of g)) i j) width
      ∙ mul-alike side (cell_of g) (cell_of (inverse_of g)) (cell_of g) (solution (cell_of g)) i j (λ k hk. refl)
      (λ k hk. cell_is k j hk hj)
      ∙ solution_right (cell_of g) j side unit_lower i hi)

  left_is : product (inverse_of g) g ≡ identity g.degree g.lines
  left_is = identity_is (product_cell (inverse_of g) g) (λ i j hi hj.
      ap (λ n. mul n (cell_of (inverse_of g)) (cell_of g) i j) width
      ∙ mul-alike side (cell_of (inverse_of g)) (cell_of g) (solution (cell_of g)) (cell_of g) i j
      (λ k hk. cell_is i k hi hk) (λ k hk. refl)
      ∙ solution_left side (cell_of g) unit_lower i j hi hj)

  -- It is an inverse.
  pub inverse_is : IsInverse g (inverse_of g)
  inverse_is = record {
    grid = tabulated_grid g.degree g.columns g.lines (solution (cell_of g)) h.columns h.lines;
    polynomials = λ i j hi hj. subst IsLaurent (sym (cell_is i j hi (subst (λ n. j < n) width hj)))
        (IsLaurent-solution (cell_of g) j i);
    degree = refl;
    columns = refl;
    lines = refl;
    right = right_is;
    left = left_is;
  }

  module _ (other : GridValue) (is : IsInverse g other) where
    lines_same : length other.lines ≡ side
    lines_same = ap length is.lines

    columns_same : length other.columns ≡ side
    columns_same = ap length is.columns ∙ width

    right_at : (i j : ℕ) → i < side → j < side → mul side (cell_of g) (cell_of other) i j ≡ delta i j
    right_at i j hi hj =
        sym (ap (λ n. mul n (cell_of g) (cell_of other) i j) width)
        ∙ sym (cell_tabulated g.degree other.columns g.lines (product_cell g other) i j hi
        (subst (λ n. j < n) (sym columns_same) hj))
        ∙ ap (λ p. cell_of p i j) is.right
        ∙ cell_tabulated g.degree g.lines g.lines delta i j hi hj

    -- The cells of every inverse are those that the columns give.
    pub other_cell : (i j : ℕ) → i < side → j < side → cell_of other i j ≡ solution (cell_of g) i j
    other_cell = solution_only side (cell_of g) unit_lower (cell_of other) right_at
        (λ i j hi hj. is.polynomials i j (subst (λ n. i < n) (sym lines_same) hi)
        (subst (λ n. j < n) (sym columns_same) hj))

    -- Every inverse is this one.
    pub only_inverse : other ≡ inverse_of g
    only_inverse =
        grid_is other is.grid
        ∙ tabulated-alike other.degree other.columns other.lines (cell_of other) (solution (cell_of g))
        (λ i j hi hj. other_cell i j (subst (λ n. i < n) lines_same hi) (subst (λ n. j < n) columns_same hj))
        ∙ ap (λ n. tabulated n other.columns other.lines (solution (cell_of g))) is.degree
        ∙ ap (λ columns. tabulated g.degree columns other.lines (solution (cell_of g))) is.columns
        ∙ ap (λ lines. tabulated g.degree g.columns lines (solution (cell_of g))) is.lines

-- A triangular grid has exactly one inverse.
pub inverse_law : InverseLaw
inverse_law g h t = record {
  inverse = inverse_of g;
  is = inverse_is g h t;
  only = λ other is. only_inverse g h t other is;
}
