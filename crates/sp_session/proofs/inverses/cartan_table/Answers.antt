use Rattle.std.proofs.Common.{sym, ◌∙◌}
use Rattle.sp_session.proofs.Made.{constants}
use Rattle.sp_session.proofs.inverses.cartan_table.Goals as goal

pub cartan_made-requires-clause-powers : goal.cartan_made-requires-clause-powers
cartan_made-requires-clause-powers g c =
    constants c.args.limit c.args.e c.args.n c.in-Ok.grid 500000000 (sym c.in-Ok.is ∙ c.in_ok-grid.ensures)
