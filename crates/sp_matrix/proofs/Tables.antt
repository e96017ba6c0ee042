-- Tables are grids, and the rows of the columns have their cells.
use Rattle.std.proofs.Common.{◌≡◌, ℕ, Bool, true, List, map, length, reverse, filter}
use Rattle.std.proofs.Common.{sym, ◌∙◌, ap, subst}
use Rattle.std.proofs.lemmas.List.{length-map, reverse-reverse}
use mathlib.Core.List.{map-map}
use Rattle.std.specs.List.{AllByRecursion}
use Rattle.std.specs.Ordering.{is_eq}
use Rattle.sp_defs.specs.Partition.{partitions, regulars, compare, Ascending, IsPartitionOf, IsRegularOf}
use Rattle.sp_defs.specs.Abacus.{core}
use Rattle.sp_defs.specs.Power.{FockVector, vector_of}
use Rattle.sp_defs.specs.Row.{regular_row}
use Rattle.sp_lists.proofs.Elements.{all_filter, all_map, all_every}
use Rattle.sp_lists.proofs.Places.{all_weaken}
use Rattle.sp_shapes.proofs.Listing.{all_partitions, partitions_ascend, all_regulars, regulars_ascend, Ascending-filter}
use Rattle.sp_fock_law.specs.Grid.{IsHeading, IsGrid}
use Rattle.sp_fock_law.proofs.Vectors.{vector_of-entries}
use Rattle.sp_lists.proofs.Elements.{all_reverse}
use Rattle.sp_lists.proofs.Maps.{filter-reverse, map-alike}
use Rattle.sp_module_defs.specs.Agreement.{Cells}
use Rattle.sp_matrix.specs.declared.scope.Scope.{Scope}
use Rattle.sp_matrix.specs.declared.scope.Scope.TheVariants.{All, Block}
use Rattle.sp_matrix.specs.declared.scope.Form.{Form}
use Rattle.sp_matrix.specs.Matrix.{table, lines_of, columns_of}
use Rattle.sp_matrix.specs.Scope.{within, shown, cell_of, table_of}
use Rattle.sp_matrix.specs.Walk.{line_cells, row_of}

-- ---- headings

-- The partitions of an ascending list that are within a scope, descending
pub heading : (e n : ℕ) (s : Scope) (xs : List (List ℕ)) → AllByRecursion (IsPartitionOf n) xs → Ascending xs →
    IsHeading n (within e s (reverse xs))
unfolding within
heading e n All xs all up = record {
  partitions_of = all_reverse (IsPartitionOf n) xs all;
  descending = subst Ascending (sym (reverse-reverse xs)) up;
}
heading e n (Block kappa) xs all up = record {
  partitions_of =
      all_filter (IsPartitionOf n) t (reverse xs)
      (all_weaken (IsPartitionOf n) (λ x. t x ≡ true → IsPartitionOf n x) (reverse xs) (λ x h is. h)
      (all_reverse (IsPartitionOf n) xs all));
  descending =
      subst Ascending (sym (ap reverse (filter-reverse t xs) ∙ reverse-reverse (filter t xs)))
      (Ascending-filter t xs up);
}
  where
    t : List ℕ → Bool
    t x = is_eq (compare (core e x) kappa)

-- The columns within a scope are a heading.
pub columns_heading : (e n : ℕ) (s : Scope) → IsHeading n (within e s (columns_of e n))
columns_heading e n s =
    heading e n s (regulars e n)
    (all_weaken (IsRegularOf e n) (IsPartitionOf n) (regulars e n)
    (λ x h. record { partition = h.partition; total = h.total }) (all_regulars e n))
    (regulars_ascend e n)

-- The lines within a scope are a heading.
pub lines_heading : (e n : ℕ) (s : Scope) → IsHeading n (within e s (lines_of n))
lines_heading e n s = heading e n s (partitions n) (all_partitions n) (partitions_ascend n)

-- ---- tables

-- A table with headings is a grid.
pub is_grid : (n : ℕ) (columns lines : List (List ℕ)) (d : Cells) → IsHeading n columns → IsHeading n lines →
    IsGrid (table n columns lines d)
is_grid n columns lines d hc hl = record {
  columns = hc;
  lines = hl;
  height = length-map lines (λ lambda. map (d lambda) columns);
  width =
      all_map (λ row. length row ≡ length columns) (λ lambda. map (d lambda) columns) lines
      (all_every (λ lambda. length (map (d lambda) columns) ≡ length columns) lines
      (λ lambda. length-map columns (d lambda)));
}

-- The table of a scope is a grid.
pub table_is_grid : (e n : ℕ) (s : Scope) (form : Form) → IsGrid (table_of e n s form)
unfolding table_of
table_is_grid e n s form =
    is_grid n (within e s (columns_of e n)) (within e s (lines_of n)) (cell_of e form) (columns_heading e n s)
    (lines_heading e n s)

-- ---- cells

line_is : (e n : ℕ) (form : Form) (columns : List (List ℕ)) (lambda : List ℕ) → IsPartitionOf n lambda →
    line_cells form (map (row_of e n) columns) lambda ≡ map (cell_of e form lambda) columns
line_is e n form columns lambda h =
    map-map (λ (v : FockVector). shown form (vector_of v.entries lambda)) (row_of e n) columns
    ∙ map-alike (λ mu. shown form (vector_of (row_of e n mu).entries lambda)) (cell_of e form lambda) columns
    (all_every (λ mu. shown form (vector_of (row_of e n mu).entries lambda) ≡ cell_of e form lambda mu) columns
    (λ mu. ap (shown form) (vector_of-entries n (regular_row e mu) lambda h)))

-- The rows of the columns, line by line, are the cells of the table.
pub cells_are : (e n : ℕ) (s : Scope) (form : Form) →
    map (line_cells form (map (row_of e n) (within e s (columns_of e n)))) (within e s (lines_of n)) ≡
    (table_of e n s form).cells
unfolding table_of
cells_are e n s form =
    let columns = within e s (columns_of e n) in
    let lines = within e s (lines_of n) in
    map-alike (line_cells form (map (row_of e n) columns)) (λ lambda. map (cell_of e form lambda) columns) lines
    (all_weaken (IsPartitionOf n)
    (λ lambda. line_cells form (map (row_of e n) columns) lambda ≡ map (cell_of e form lambda) columns) lines
    (λ lambda h. line_is e n form columns lambda h) (lines_heading e n s).partitions_of)
