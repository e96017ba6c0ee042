use Rattle.std.proofs.Common.{◌+◌, ◌-◌, ◌∷◌, length, sym, ◌∙◌, ap, arith}
use Rattle.std.proofs.lemmas.List.{nil_from_length}
use Rattle.sp_fock_law.specs.Sparse.{IsSparseFrom, spread_from}
use Rattle.sp_fock.proofs.Rows.{first_here, first_gap, later_cells, no_cells}
use Rattle.sp_fock.proofs.row.RowIterator.next.Goals.{
  in_default-via-in-Some+else-cell-place,
  in_default-via-in_default,
}
use Rattle.sp_fock.proofs.row.RowIterator.next.Goals as goal

pub returns-in-Some-clause-steps : goal.returns-in-Some-clause-steps
returns-in-Some-clause-steps c =
    let row = c.self.inside in
    sym c.self.view_is
    ∙ first_here row.place row.width row.cells.now c.if-self.false c.self.invariant.sparse c.in-Some.cell.now
    c.in-Some.others.now c.in-Some.ensures.cases.0 c.if-cell-place.true

pub returns-in-Some-clause-goes : goal.returns-in-Some-clause-goes
returns-in-Some-clause-goes c =
    let shorter = ap length (returns-in-Some-clause-steps c) in
    record { on = λ _. (tt, tt, omega (arith, shorter)); keeps = tt; rests = λ _. tt }

pub returns-in_default-clause-steps : goal.returns-in_default-clause-steps
returns-in_default-clause-steps c =
    let row = c.self.inside in
    let later : IsSparseFrom (row.place + 1) row.width row.cells.now = elim c.in_default.branch [
      | in_default-via-in-Some+else-cell-place w ↦
          later_cells row.place row.width row.cells.now c.if-self.false c.self.invariant.sparse w.in-Some.cell.now
          w.in-Some.others.now w.in-Some.ensures.cases.0 w.if-cell-place.false
      | in_default-via-in_default w ↦
          no_cells row.place row.width row.cells.now c.if-self.false c.self.invariant.sparse
          (nil_from_length row.cells.now w.in_default.ensures.cases)
    ] in
    sym c.self.view_is
    ∙ first_gap row.place row.width row.cells.now c.if-self.false c.self.invariant.sparse later
    ∙ ap (λ p. p ∷ spread_from (row.place + 1) (row.width - (row.place + 1)) row.cells.now)
    (sym c.self.invariant.others)

pub returns-in_default-clause-goes : goal.returns-in_default-clause-goes
returns-in_default-clause-goes c =
    let shorter = ap length (returns-in_default-clause-steps c) in
    record { on = λ _. (tt, tt, omega (arith, shorter)); keeps = tt; rests = λ _. tt }
