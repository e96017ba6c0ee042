use Rattle.std.proofs.Common.{◌≡◌, ◌<◌, ℕ, [], false, true, length, get_or, refl, ◌∙◌, ap, subst}
use Rattle.std.proofs.lemmas.List.{get_or_default}
use Rattle.std.specs.List.{AllByRecursion}
use Rattle.sp_defs.specs.Within.{PowersWithin}
use Rattle.sp_fock_law.specs.Grid.{GridValue, row_of}
use Rattle.sp_fock_law.specs.Sparse.{Cells, IsSparse, spread}
use Rattle.sp_grid_law.specs.Columns.{IsColumnWithin}
use Rattle.sp_grid_law.specs.Tables.{transposed}
use Rattle.sp_grid_law.proofs.Columns.{column_within, line_within, one_further}
use Rattle.sp_inverse.proofs.Places.{place_in}
use Rattle.sp_inverse.proofs.powers.column_past.Goals as goal

module _ (most : ℕ) (g t : GridValue) (same : t ≡ transposed g) (column : ℕ) (in_range : column < length g.columns)
    (cells : Cells) (sparse : IsSparse (length t.columns) cells)
    (row : spread (length t.columns) cells ≡ row_of t column) where
  sparse_turned : IsSparse (length g.lines) cells
  sparse_turned = subst (λ (x : GridValue). IsSparse (length x.columns) cells) same sparse

  row_turned : spread (length g.lines) cells ≡ row_of (transposed g) column
  row_turned = subst (λ (x : GridValue). spread (length x.columns) cells ≡ row_of x column) same row

  good : AllByRecursion (λ c. PowersWithin most c.1) cells → IsColumnWithin most g column
  good = column_within most g column in_range cells sparse_turned row_turned

  bad : IsColumnWithin most g column → AllByRecursion (λ c. PowersWithin most c.1) cells
  bad = line_within most g column in_range cells sparse_turned row_turned

pub returns-then-not-are_within-clause-some : goal.returns-then-not-are_within-clause-some
returns-then-not-are_within-clause-some c =
    let g = c.args.g.now in
    let column = c.loop-column.column in
    let in_range = place_in c.columns-column-end.result.now g.columns column c.columns-column-end.ensures.value
    c.loop-column-test.true in
    record {
      column = column;
      in_range = in_range;
      is =
          c.index-columns-column.is
          ∙ ap (λ xs. get_or xs column c.index-columns-column.result) c.columns.ensures.value
          ∙ get_or_default g.columns column c.index-columns-column.result [] in_range;
      past = λ within.
          let k : false ≡ true = c.if-not-are_within.ensures.1
          (bad c.args.most g c.in_ok-turned.turned c.in_ok-turned.ensures column in_range c.line_cells.result.now
          c.line_cells.ensures.sparse c.line_cells.ensures.value within) in cc;
      greater = c.loop-column.invariant;
    }

pub loop-column-preserved : goal.loop-column-preserved
loop-column-preserved c =
    let g = c.args.g.now in
    let column = c.loop-column.column in
    let in_range = place_in c.columns-column-end.result.now g.columns column c.columns-column-end.ensures.value
    c.loop-column-test.true in
    one_further (λ k. IsColumnWithin c.args.most g k) column c.loop-column.invariant
    (good c.args.most g c.in_ok-turned.turned c.in_ok-turned.ensures column in_range c.line_cells.result.now
    c.line_cells.ensures.sparse c.line_cells.ensures.value (c.if-not-are_within.ensures.0 refl))
