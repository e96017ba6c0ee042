use Rattle.std.proofs.Common.{◌≡◌, List, ℕ, length, map, reverse, sym, ◌∙◌, ap, ap₂, subst, ◌≤◌}
use Rattle.std.proofs.lemmas.List.{length-map}
use Rattle.std.specs.Borrow.{Bor}
use Rattle.sp_defs.specs.Laurent.{Laurent}
use Rattle.sp_defs.specs.Power.{FockVector}
use Rattle.sp_defs.specs.Partition.{partitions}
use Rattle.sp_core.specs.declared.piece.Key.{Key}
use Rattle.sp_fock.specs.Cells.{AreSparse, spread_rows}
use Rattle.sp_fock_law.specs.Grid.{GridValue, IsGrid}
use Rattle.sp_llt.specs.Place.{labels}
use Rattle.sp_module_defs.proofs.Places.{gridded}
use Rattle.sp_module_defs.specs.Cells.{cell_at, IsSquareUnitriangular}
use Rattle.sp_matrix.specs.declared.scope.Scope.{Scope}
use Rattle.sp_matrix.specs.declared.scope.Form.{Form}
use Rattle.sp_matrix.specs.Cursors.{Descend}
use Rattle.sp_matrix.specs.Matrix.{columns_of, lines_of}
use Rattle.sp_matrix.specs.Scope.{within, table_of}
use Rattle.sp_matrix.specs.Triangular.{IsUnitriangular}
use Rattle.sp_matrix.specs.Walk.{line_cells, row_of, vectors_of}
use Rattle.sp_matrix.proofs.Passed.{lines_descend}
use Rattle.sp_matrix.proofs.Tables.{table_is_grid, lines_heading, cells_are}
use Rattle.sp_matrix.proofs.Triangular.{triangular, square}
use Rattle.sp_matrix.proofs.matrix.grid.Goals as goal

-- the parts of a table make it
made : (e n : ℕ) (s : Scope) (form : Form) (columns lines : List (List ℕ)) (cells : List (List Laurent)) →
    columns ≡ within e s (columns_of e n) → lines ≡ within e s (lines_of n) → cells ≡ (table_of e n s form).cells →
    gridded n columns lines cells ≡ table_of e n s form
unfolding table_of
made e n s form columns lines cells c l k =
    ap₂ (λ a b. gridded n a b cells) c l
    ∙ ap (gridded n (within e s (columns_of e n)) (within e s (lines_of n))) k

-- the parts that the code makes are those of the table
module _ (key told : Key) (same : told ≡ key) (s : Scope) where
  columns_are : (columns regular : List (List ℕ)) → columns ≡ within told.e s (reverse regular) →
      regular ≡ labels key → columns ≡ within key.e s (columns_of key.e key.degree)
  columns_are columns regular c r =
      c
      ∙ ap (λ ys. within told.e s (reverse ys)) r
      ∙ ap (λ (q : Key). within q.e s (reverse (labels key))) same

  lines_are : (lines all : List (List ℕ)) → lines ≡ within told.e s (reverse all) → all ≡ partitions told.degree →
      lines ≡ within key.e s (lines_of key.degree)
  lines_are lines all l a =
      l
      ∙ ap (λ ys. within told.e s (reverse ys)) a
      ∙ ap (λ (q : Key). within q.e s (reverse (partitions q.degree))) same

  whole : (form : Form) (columns lines : List (List ℕ)) (cells : List (List Laurent)) (rows : List FockVector) →
      columns ≡ within key.e s (columns_of key.e key.degree) → lines ≡ within key.e s (lines_of key.degree) →
      cells ≡ map (line_cells form rows) lines →
      rows ≡ map (row_of key.e key.degree) (within key.e s (reverse (labels key))) →
      gridded told.degree columns lines cells ≡ table_of key.e key.degree s form
  whole form columns lines cells rows c l k v =
      ap (λ (q : Key). gridded q.degree columns lines cells) same
      ∙ made key.e key.degree s form columns lines cells c l
      (k ∙ ap₂ (λ vs ls. map (line_cells form vs) ls) v l ∙ cells_are key.e key.degree s form)

  -- there is a row for each column
  one_each : (columns : List (List ℕ)) (rows : List (Bor FockVector)) →
      columns ≡ within key.e s (columns_of key.e key.degree) →
      vectors_of rows ≡ map (row_of key.e key.degree) (within key.e s (reverse (labels key))) →
      length rows ≡ length columns
  one_each columns rows c v =
      sym (length-map rows (λ (r : Bor FockVector). r.now))
      ∙ ap length v
      ∙ length-map (within key.e s (reverse (labels key))) (row_of key.e key.degree)
      ∙ sym (ap length c)

-- the columns, the lines and the cells that the code has made
columns_made : (c : goal.In_ok-cells) →
    c.in_ok-columns.columns.items ≡ within c.args.ctx.now.e c.args.scope.now
    (columns_of c.args.ctx.now.e c.args.ctx.now.degree)
columns_made c =
    columns_are c.args.ctx.now c.key-e.result c.key-e.ensures.value c.args.scope.now c.in_ok-columns.columns.items
    c.regulars.result.now c.in_ok-columns.ensures c.regulars.ensures.value

one_row_each : (c : goal.In_ok-cells) → length c.args.rows.now ≡ length c.in_ok-columns.columns.items
one_row_each c =
    one_each c.args.ctx.now c.key-e.result c.key-e.ensures.value c.args.scope.now c.in_ok-columns.columns.items
    c.args.rows.now (columns_made c) c.requires

table_made : (c : goal.In_ok-cells) →
    gridded c.key-e.result.degree c.in_ok-columns.columns.items c.in_ok-lines.lines.items
    (spread_rows (length c.in_ok-columns.columns.items) c.in_ok-cells.cells.items)
    ≡ table_of c.args.ctx.now.e c.args.ctx.now.degree c.args.scope.now c.args.form
table_made c =
    whole c.args.ctx.now c.key-e.result c.key-e.ensures.value c.args.scope.now c.args.form
    c.in_ok-columns.columns.items c.in_ok-lines.lines.items
    (spread_rows (length c.in_ok-columns.columns.items) c.in_ok-cells.cells.items) (vectors_of c.args.rows.now)
    (columns_made c)
    (lines_are c.args.ctx.now c.key-e.result c.key-e.ensures.value c.args.scope.now c.in_ok-lines.lines.items
    c.deref.result.now c.in_ok-lines.ensures (c.deref.ensures.value ∙ c.in_ok-all_of.ensures.list))
    (ap (λ n. spread_rows n c.in_ok-cells.cells.items) (sym (one_row_each c))
    ∙ c.in_ok-cells.ensures.value
    ∙ ap (map (line_cells c.args.form (vectors_of c.args.rows.now))) c.deref-2.ensures.value)
    c.requires

pub cells-requires : goal.cells-requires
cells-requires c =
    let key = c.args.ctx.now in
    subst Descend
    (sym (c.deref-2.ensures.value
    ∙ lines_are key c.key-e.result c.key-e.ensures.value c.args.scope.now c.in_ok-lines.lines.items
    c.deref.result.now c.in_ok-lines.ensures (c.deref.ensures.value ∙ c.in_ok-all_of.ensures.list)))
    (lines_descend key.degree (within key.e c.args.scope.now (lines_of key.degree))
    (lines_heading key.e key.degree c.args.scope.now))

pub from_cells-requires-clause-grid : goal.from_cells-requires-clause-grid
from_cells-requires-clause-grid c =
    subst IsGrid (sym (table_made c))
    (table_is_grid c.args.ctx.now.e c.args.ctx.now.degree c.args.scope.now c.args.form)

pub from_cells-requires-clause-sparse : goal.from_cells-requires-clause-sparse
from_cells-requires-clause-sparse c =
    subst (λ n. AreSparse n c.in_ok-cells.cells.items) (one_row_each c) c.in_ok-cells.ensures.sparse

pub returns-clause-table : goal.returns-clause-table
returns-clause-table c = c.from_cells.ensures ∙ table_made c.before

least : (key told : Key) → told ≡ key → 2 ≤ told.e → 2 ≤ key.e
least key told same h = subst (λ (q : Key). 2 ≤ q.e) same h

pub returns-clause-triangular : goal.returns-clause-triangular
returns-clause-triangular c =
    let key = c.args.ctx.now in
    subst IsUnitriangular (sym (c.from_cells.ensures ∙ table_made c.before))
    (triangular key.e key.degree (least key c.key-e.result c.key-e.ensures.value c.key-e.ensures.held.e_least)
    c.args.scope.now c.args.form)

pub returns-clause-square : goal.returns-clause-square
unfolding table_of
returns-clause-square c =
    let key = c.args.ctx.now in
    subst (λ (g : GridValue). IsSquareUnitriangular g.columns (cell_at g))
    (sym (c.from_cells.ensures ∙ table_made c.before))
    (square key.e key.degree (least key c.key-e.result c.key-e.ensures.value c.key-e.ensures.held.e_least)
    c.args.scope.now c.args.form)
