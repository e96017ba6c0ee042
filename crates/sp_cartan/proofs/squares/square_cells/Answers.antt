use Rattle.std.proofs.Common.{◌≡◌, ◌+◌, ◌<◌, ◌≤◌, ◌++◌, ◌∷◌, [], ℕ, List, length, get_or, map, sym, ◌∙◌, ap, ap₂, subst}
use Rattle.std.proofs.Common.{arith}
use Rattle.std.proofs.lemmas.List.{get_or_default, map-append, map_more}
use Rattle.std.specs.Global.{Vec}
use Rattle.sp_defs.specs.Laurent.{Laurent}
use Rattle.sp_lists.proofs.Elements.{all_append}
use Rattle.sp_lists.proofs.Places.{all_at}
use Rattle.sp_fock.specs.Cells.{AreSparse, spread_rows}
use Rattle.sp_fock_law.specs.Grid.{GridValue, row_of}
use Rattle.sp_fock_law.specs.Sparse.{IsSparse, spread}
use Rattle.sp_module_defs.specs.Cells.{cell_at, place}
use Rattle.sp_module_defs.proofs.Places.{row_cells}
use Rattle.sp_cartan.specs.Square.{HasSquare}
use Rattle.sp_cartan.proofs.Placing.{lines_rise}
use Rattle.sp_cartan.proofs.squares.square_cells.Goals as goal

-- a column by its place
item_is : (cs items : List (List ℕ)) (i : ℕ) (item : List ℕ) → items ≡ cs → i < length items →
    item ≡ get_or items i item → (i < length cs) × (item ≡ get_or cs i [])
item_is cs items i item e lt is =
    let within : i < length cs = subst (λ (ys : List (List ℕ)). i < length ys) e lt in
    (within, is ∙ ap (λ ys. get_or ys i item) e ∙ get_or_default cs i item [] within)

-- the line of a column
line_there : (g : GridValue) (i : ℕ) → HasSquare g → i < length g.columns →
    place g.lines (get_or g.columns i []) < length g.lines
line_there g i h lt = all_at (λ mu. place g.lines mu < length g.lines) g.columns i [] h lt

pub loop-column-init : goal.loop-column-init
loop-column-init c =
    let width = length c.args.g.now.columns in
    record {
      columns = c.columns-column-items.ensures.value;
      value = ap (spread_rows width) c.new-rows.ensures.items;
      sparse = subst (AreSparse width) (sym c.new-rows.ensures.items) tt;
      line = λ lt. omega arith;
    }

pub place_from-line-requires-clause-from : goal.place_from-line-requires-clause-from
place_from-line-requires-clause-from c =
    let g = c.args.g.now in
    let item = item_is g.columns c.columns-column-items.result.now c.loop-column.column-index c.column-item.result
    c.columns-column-items.ensures.value c.loop-column-test.true c.column-item.is in
    subst (λ ls. c.loop-column.line ≤ place ls c.column-item.result) (sym c.lines.ensures.value)
    (subst (λ p. c.loop-column.line ≤ place g.lines p) (sym item.1) (c.loop-column.invariant.line item.0))

pub place_from-line-requires-clause-line : goal.place_from-line-requires-clause-line
place_from-line-requires-clause-line c =
    let g = c.args.g.now in
    let item = item_is g.columns c.columns-column-items.result.now c.loop-column.column-index c.column-item.result
    c.columns-column-items.ensures.value c.loop-column-test.true c.column-item.is in
    subst (λ (ls : List (List ℕ)). place ls c.column-item.result < length ls) (sym c.lines.ensures.value)
    (subst (λ p. place g.lines p < length g.lines) (sym item.1)
    (line_there g c.loop-column.column-index c.requires item.0))

pub line_cells-requires : goal.line_cells-requires
line_cells-requires c =
    let g = c.args.g.now in
    let item = item_is g.columns c.columns-column-items.result.now c.loop-column.column-index c.column-item.result
    c.columns-column-items.ensures.value c.loop-column-test.true c.column-item.is in
    subst (λ k. k < length g.lines)
    (sym (c.place_from-line.ensures
    ∙ ap (λ ls. place ls c.column-item.result) c.lines.ensures.value
    ∙ ap (place g.lines) item.1)) (line_there g c.loop-column.column-index c.requires item.0)

pub loop-column-preserved : goal.loop-column-preserved
loop-column-preserved c =
    let g = c.args.g.now in
    let width = length g.columns in
    let i = c.loop-column.column-index in
    let column = c.column-item.result in
    let item = item_is g.columns c.columns-column-items.result.now i column c.columns-column-items.ensures.value
    c.loop-column-test.true c.column-item.is in
    let line : c.place_from-line.result ≡ place g.lines (get_or g.columns i []) =
    c.place_from-line.ensures ∙ ap (λ ls. place ls column) c.lines.ensures.value ∙ ap (place g.lines) item.1 in
    record {
      columns = c.columns-column-items.ensures.value;
      value =
          ap (spread_rows width) c.in_ok-push.ensures.items
          ∙ map-append (λ (row : Vec (ℕ × Laurent)). spread width row.items) c.loop-column.rows.items
          (c.in_ok-copies.field-0 ∷ [])
          ∙ ap₂ (λ xs x. xs ++ x ∷ []) c.loop-column.invariant.value
          (ap (spread width) c.in_ok-copies.ensures
          ∙ c.line_cells.ensures.value
          ∙ ap (row_of g) line
          ∙ sym (row_cells g (get_or g.columns i []) c.columns-column-items.ensures.grid
          (line_there g i c.requires item.0)))
          ∙ sym (map_more (λ lambda. map (cell_at g lambda) g.columns) g.columns i [] item.0);
      sparse =
          subst (AreSparse width) (sym c.in_ok-push.ensures.items)
          (all_append (λ (row : Vec (ℕ × Laurent)). IsSparse width row.items) c.loop-column.rows.items
          (c.in_ok-copies.field-0 ∷ []) c.loop-column.invariant.sparse
          (subst (IsSparse width) (sym c.in_ok-copies.ensures) c.line_cells.ensures.sparse, tt));
      line = λ lt.
          subst (λ k. k ≤ place g.lines (get_or g.columns (i + 1) [])) (sym line)
          (lines_rise g c.columns-column-items.ensures.grid c.requires i (i + 1) (omega arith) lt);
    }
