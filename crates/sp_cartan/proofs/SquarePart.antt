-- The square part of a grid: it is a grid, triangular where the grid is, and its powers are the grid's.
use Rattle.std.proofs.Common.{◌≡◌, ℕ, ◌<◌, List, [], map, length, get_or, refl, sym, ◌∙◌, ap}
use Rattle.std.proofs.Common.{subst, arith}
use Rattle.std.proofs.lemmas.List.{get_or-map, length-map}
use Rattle.std.specs.Global.{Vec}
use Rattle.std.specs.List.{AllByRecursion}
use Rattle.sp_defs.specs.Laurent.{Laurent, one}
use Rattle.sp_defs.specs.Partition.{compare}
use Rattle.sp_defs.specs.Within.{PowersWithin}
use Rattle.std.specs.declared.cmp.Ordering.TheVariants.{Greater}
use Rattle.sp_lists.proofs.Elements.{all_every, all_map}
use Rattle.sp_lists.proofs.Places.{all_at, all_weaken}
use Rattle.sp_fock.specs.Cells.{sparse_grid, spread_rows}
use Rattle.sp_fock_law.specs.Grid.{GridValue, IsGrid, cell_of}
use Rattle.sp_module_defs.specs.Cells.{IsSquareUnitriangular, place, cell_at}
use Rattle.sp_module_defs.proofs.Places.{column_is_line, descends, gridded}
use Rattle.sp_grid_law.specs.Columns.{AreWithin, IsColumnWithin}
use Rattle.sp_grid_law.specs.Inverses.{IsTriangular}
use Rattle.sp_grid_law.specs.Tables.{HasPowersWithin}
use Rattle.sp_cartan.specs.Square.{HasSquare, square_of}
use Rattle.sp_cartan.proofs.Placing.{cell_along, descends_at}

module _ (g : GridValue) (h : IsGrid g) where
  -- It is a grid.
  pub square_is_grid : IsGrid (square_of g)
  square_is_grid = record {
    columns = h.columns;
    lines = h.columns;
    height = length-map g.columns (λ lambda. map (cell_at g lambda) g.columns);
    width =
        all_map (λ row. length row ≡ length g.columns) (λ lambda. map (cell_at g lambda) g.columns) g.columns
        (all_every (λ lambda. length (map (cell_at g lambda) g.columns) ≡ length g.columns) g.columns
        (λ lambda. length-map g.columns (cell_at g lambda)));
  }

  -- Its cells are those of the grid at the same partitions.
  pub square_cell : (i j : ℕ) → i < length g.columns → j < length g.columns →
      cell_of (square_of g) i j ≡ cell_at g (get_or g.columns i []) (get_or g.columns j [])
  square_cell i j hi hj =
      ap (λ row. get_or row j []) (get_or-map (λ lambda. map (cell_at g lambda) g.columns) g.columns i [] [] hi)
      ∙ get_or-map (cell_at g (get_or g.columns i [])) g.columns j [] [] hj

  module _ (n : ℕ) (columns lines : List (List ℕ)) (rows : List (Vec (ℕ × Laurent))) (degree : n ≡ g.degree)
      (first : columns ≡ g.columns) (second : lines ≡ g.columns)
      (value : spread_rows (length g.columns) rows ≡ map (λ lambda. map (cell_at g lambda) g.columns) g.columns) where
    -- The grid with its cells is it.
    pub square_made : sparse_grid n columns lines rows ≡ square_of g
    square_made =
        ap (λ m. sparse_grid m columns lines rows) degree
        ∙ ap (λ cs. sparse_grid g.degree cs lines rows) first
        ∙ ap (λ ls. sparse_grid g.degree g.columns ls rows) second
        ∙ ap (gridded g.degree g.columns g.columns) value

    -- And it is one.
    pub made_is_grid : IsGrid (sparse_grid n columns lines rows)
    made_is_grid = subst IsGrid (sym square_made) square_is_grid

  module _ (u : IsSquareUnitriangular g.columns (cell_at g)) where
    -- Each column is a line.
    pub has_square : HasSquare g
    has_square =
        all_weaken (λ mu. cell_at g mu mu ≡ one) (λ mu. place g.lines mu < length g.lines) g.columns
        (λ mu own. column_is_line g mu h own) u.own

    -- It is triangular.
    pub square_triangular : IsTriangular (square_of g)
    square_triangular = record {
      square = refl;
      own = λ line lt.
          square_cell line line lt lt ∙ all_at (λ mu. cell_at g mu mu ≡ one) g.columns line [] u.own lt;
      greater = λ line column before lt.
          square_cell line column (omega (arith, before, lt)) lt
          ∙ all_at (λ lambda. compare lambda (get_or g.columns column []) ≡ Greater →
          cell_at g lambda (get_or g.columns column []) ≡ []) g.columns line []
          (all_at (λ mu. AllByRecursion (λ lambda. compare lambda mu ≡ Greater → cell_at g lambda mu ≡ []) g.columns)
          g.columns column [] u.greater lt) (omega (arith, before, lt))
          (descends_at g.columns (descends g.columns h.columns.descending) line column before lt);
    }

    -- Powers that are near in all columns are near in it.
    pub square_powers : (d : ℕ) → AreWithin g.columns (IsColumnWithin d g) → HasPowersWithin d (square_of g)
    square_powers d near i j hi hj =
        let line = all_at (λ mu. place g.lines mu < length g.lines) g.columns i [] has_square hi in
        subst (PowersWithin d)
        (sym (square_cell i j hi hj ∙ cell_along g h (get_or g.columns i []) line j hj))
        (near j hj (place g.lines (get_or g.columns i [])) line)
