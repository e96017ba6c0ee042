-- The part of a grid whose lines are its columns.
use Rattle.std.specs.Prelude.{◌<◌, map, length}
use Rattle.std.specs.List.{AllByRecursion}
use Rattle.sp_fock_law.specs.Grid.{GridValue}
use Rattle.sp_module_defs.specs.Cells.{cell_at, place}

-- Each column is a line too (this project's own).
abbrev pub HasSquare : GridValue → Type 0
HasSquare g = AllByRecursion (λ mu. place g.lines mu < length g.lines) g.columns

-- The grid with the columns of g as columns and as lines, and the same cells. Of a decomposition matrix it is the part
-- that can be inverted.
-- (Mathas, Iwahori-Hecke Algebras and Schur Algebras of the Symmetric Group, ch. 6)
abbrev pub square_of : GridValue → GridValue
square_of g = record {
  degree = g.degree;
  columns = g.columns;
  lines = g.columns;
  cells = map (λ lambda. map (cell_at g lambda) g.columns) g.columns;
}
