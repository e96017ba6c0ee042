use Rattle.std.proofs.Common.{◌<◌, ◌≤◌, ◌&&◌, [], length, get_or, sym, ◌∙◌, ap, ap₂, subst, Ok, Err}
use Rattle.std.proofs.lemmas.List.{take_all}
use Rattle.std.proofs.lemmas.List.Folds.{list_all_more}
use Rattle.std.specs.List.{AllByRecursion, list_all, list_any}
use Rattle.sp_module_defs.specs.Cells.{cell_at}
use Rattle.sp_matrix.specs.declared.line.Term.{Term}
use Rattle.sp_matrix.proofs.Folding.{none_more}
use Rattle.sp_matrix.proofs.Lined.{line_place, line_found, terms_placed, column_is, fault_is, agrees_is, past_is}
use Rattle.sp_matrix.proofs.Lined.{agrees_at, past_at, ColumnIs}
use Rattle.sp_matrix.proofs.line.line_agrees.Goals as goal

pub cell_agrees-requires-clause-line : goal.cell_agrees-requires-clause-line
cell_agrees-requires-clause-line c =
    let g = c.args.grid.now in
    let placed = line_place c.args.e g c.args.p.now c.requires.all c.requires.line in
    subst (λ k. k < length g.lines)
    (sym (line_found g c.args.p.now c.lines.result.now c.place_in.result c.unwrap_or-line.result placed
    c.lines.ensures.value c.place_in.ensures c.unwrap_or-line.ensures)) placed

pub cell_agrees-requires-clause-terms : goal.cell_agrees-requires-clause-terms
cell_agrees-requires-clause-terms c =
    let g = c.args.grid.now in
    subst (AllByRecursion (λ (t : Term). t.line < length g.lines))
    (sym (c.deref.ensures.value ∙ c.in_ok-terms.ensures))
    (terms_placed c.args.e g c.args.p.now c.requires.all c.requires.line)

pub returns-in-Err : goal.returns-in-Err
returns-in-Err c =
    let g = c.args.grid.now in
    let p = c.args.p.now in
    let placed = line_place c.args.e g p c.requires.all c.requires.line in
    let lt : c.loop-column.column < length g.columns =
    subst (λ xs. c.loop-column.column < length xs) c.columns-column-end.ensures.value c.loop-column-test.true in
    fault_is c.args.e g p c.requires.all c.requires.line c.args.limit c.loop-column.column c.in-Err.fault lt
    (column_is c.args.e c.args.limit g p c.loop-column.column c.unwrap_or-line.result c.deref.result.now
    (Err c.in-Err.fault) c.requires.all c.lines.ensures.grid c.requires.line lt
    (c.deref.ensures.value ∙ c.in_ok-terms.ensures)
    (line_found g p c.lines.result.now c.place_in.result c.unwrap_or-line.result placed c.lines.ensures.value
    c.place_in.ensures c.unwrap_or-line.ensures) c.in-Err.ensures)

pub loop-column-preserved : goal.loop-column-preserved
loop-column-preserved c =
    let g = c.args.grid.now in
    let p = c.args.p.now in
    let d = cell_at g in
    let j = c.loop-column.column in
    let placed = line_place c.args.e g p c.requires.all c.requires.line in
    let lt : j < length g.columns =
    subst (λ xs. j < length xs) c.columns-column-end.ensures.value c.loop-column-test.true in
    let here : ColumnIs c.args.e c.args.limit d p (get_or g.columns j []) (Ok c.in-Ok.cell) =
    column_is c.args.e c.args.limit g p j c.unwrap_or-line.result c.deref.result.now (Ok c.in-Ok.cell) c.requires.all
    c.lines.ensures.grid c.requires.line lt (c.deref.ensures.value ∙ c.in_ok-terms.ensures)
    (line_found g p c.lines.result.now c.place_in.result c.unwrap_or-line.result placed c.lines.ensures.value
    c.place_in.ensures c.unwrap_or-line.ensures) c.in-Ok.ensures in
    record {
      agrees =
          ap₂ (λ a b. a && b) c.loop-column.invariant.agrees here.1
          ∙ sym (list_all_more (agrees_at c.args.e d p) g.columns j [] lt);
      within = none_more (past_at c.args.e c.args.limit d p) g.columns j [] lt c.loop-column.invariant.within here.0;
    }

pub returns : goal.returns
returns c =
    let g = c.args.grid.now in
    let p = c.args.p.now in
    let d = cell_at g in
    let whole = take_all c.loop-column.column g.columns
    (subst (λ xs. length xs ≤ c.loop-column.column) c.columns-column-end.ensures.value c.loop-column-test.false) in (
      sym (past_is c.args.e g p c.requires.all c.requires.line c.args.limit)
          ∙ sym (ap (list_any (past_at c.args.e c.args.limit d p)) whole)
          ∙ c.loop-column.invariant.within,
      c.loop-column.invariant.agrees
          ∙ ap (list_all (agrees_at c.args.e d p)) whole
          ∙ agrees_is c.args.e g p c.requires.all c.requires.line,
    )
