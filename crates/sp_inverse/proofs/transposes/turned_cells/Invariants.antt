use Rattle.std.proofs.Common.{length}
use Rattle.sp_fock_law.specs.Grid.{cell_of}
use Rattle.sp_inverse.specs.Turned.{AreColumns}
use Rattle.sp_inverse.proofs.transposes.turned_cells.Given as goal

abbrev pub invariant-loop-line : goal.invariant-loop-line
invariant-loop-line l = AreColumns (length l.g.columns) l.line (cell_of l.g) l.rows.items
