use Rattle.sp_cells.proofs.Looking.{known_by, twins}
use Rattle.sp_cells.proofs.cells.Cells.compare.Goals as goal

pub compare-requires : goal.compare-requires
compare-requires g c =
    twins c.other.inside.notes.items c.one.inside.notes.items c.args.other.now c.args.one.now c.args.self.now c.args.k
    c.index_mut-2.result.now c.index_mut.result.now c.other.view_is c.one.view_is c.requires.other c.requires.one
    c.requires.row c.index_mut-2.ensures.value c.index_mut.ensures.value

pub returns-clause-same : goal.returns-clause-same
returns-clause-same g c = λ x y one other.
    c.compare.ensures.same x y
    (known_by c.one.inside.notes.items c.args.one.now c.args.k c.index_mut.result.now x c.one.view_is
    c.index_mut.ensures.value one)
    (known_by c.other.inside.notes.items c.args.other.now c.args.k c.index_mut-2.result.now y c.other.view_is
    c.index_mut-2.ensures.value other)
