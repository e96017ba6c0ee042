use Rattle.std.proofs.Common.{ap}
use Rattle.once_cell.specs.Once.{cell_name}
use Rattle.sp_cells.specs.Known.{CellTable}
use Rattle.sp_cells.proofs.Looking.{matches, within, looks, peeked, peeks_known}
use Rattle.sp_cells.proofs.cells.Cells.peek.Goals as goal

pub look-found-requires : goal.look-found-requires
look-found-requires g c =
    matches cell_name c.pass.inside.notes.items c.self.inside.cells.items c.self.inside.key c.args.pass.now
    c.args.self.now c.args.k c.index_mut.result.now c.index.result.now c.pass.view_is c.self.view_is c.requires.of
    c.requires.row c.index_mut.ensures.value c.index.ensures

pub returns-clause-looks : goal.returns-clause-looks
returns-clause-looks g c =
    let lt = within cell_name c.pass.inside.notes.items c.self.inside.cells.items c.self.inside.key c.args.pass.now
    c.args.self.now c.args.k c.pass.view_is c.self.view_is c.requires.of c.requires.row in
    looks c.pass.inside.notes.items c.args.pass.now c.args.k c.index_mut.result.now c.look-found.new.note c.pass.view_is
    lt c.index_mut.ensures.value c.look-found.ensures.cell c.look-found.ensures.kept

pub returns-clause-row : goal.returns-clause-row
returns-clause-row g c =
    let lt = within cell_name c.pass.inside.notes.items c.self.inside.cells.items c.self.inside.key c.args.pass.now
    c.args.self.now c.args.k c.pass.view_is c.self.view_is c.requires.of c.requires.row in
    peeked (λ b. b.now) g.T.Piece.key g.T.Piece.number c.pass.inside.notes.items c.args.k c.look-found.new.note
    c.args.self.now c.self.inside.key _ c.if_row.result (ap (λ (t : CellTable). t.key) c.self.view_is) lt
    c.look-found.ensures.value c.if_row.ensures

pub returns-clause-known : goal.returns-clause-known
returns-clause-known g c =
    peeks_known (λ b. b.now) g.T.Piece.key g.T.Piece.number c.args.self.now c.args.pass.now _ c.args.k c.if_row.result
    (returns-clause-looks g c) (returns-clause-row g c)
