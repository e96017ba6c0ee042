use Rattle.std.proofs.Common.{ap}
use Rattle.once_cell.specs.Once.{cell_name}
use Rattle.sp_cells.specs.Known.{CellTable}
use Rattle.sp_cells.proofs.Looking.{matches, within, looks, sorted, shows_known}
use Rattle.sp_cells.proofs.cells.Cells.show.Goals as goal

pub put-there-requires : goal.put-there-requires
put-there-requires g c =
    matches cell_name c.pass.inside.notes.items c.self.inside.cells.items c.self.inside.key c.args.pass.now
    c.args.self.now c.args.k c.index_mut.result.now c.index.result.now c.pass.view_is c.self.view_is c.requires.of
    c.requires.row c.index_mut.ensures.value c.index.ensures

pub returns-clause-looks : goal.returns-clause-looks
returns-clause-looks g c =
    let lt = within cell_name c.pass.inside.notes.items c.self.inside.cells.items c.self.inside.key c.args.pass.now
    c.args.self.now c.args.k c.pass.view_is c.self.view_is c.requires.of c.requires.row in
    looks c.pass.inside.notes.items c.args.pass.now c.args.k c.index_mut.result.now c.put-there.new.note c.pass.view_is
    lt c.index_mut.ensures.value c.put-there.ensures.cell c.put-there.ensures.kept

pub returns-clause-shown : goal.returns-clause-shown
returns-clause-shown g c =
    let lt = within cell_name c.pass.inside.notes.items c.self.inside.cells.items c.self.inside.key c.args.pass.now
    c.args.self.now c.args.k c.pass.view_is c.self.view_is c.requires.of c.requires.row in
    sorted g.T.Piece.key g.T.Piece.number c.pass.inside.notes.items c.args.k c.put-there.new.note c.args.self.now
    c.self.inside.key c.put-there.result.now c.sort.result (ap (λ (t : CellTable). t.key) c.self.view_is) lt
    c.put-there.ensures.value c.sort.ensures

pub returns-clause-known : goal.returns-clause-known
returns-clause-known g c =
    shows_known g.T.Piece.key g.T.Piece.number c.args.self.now c.args.pass.now _ c.args.k c.sort.result
    (returns-clause-looks g c) (returns-clause-shown g c)
