use Rattle.std.proofs.Common.{sym, ◌∙◌, subst, IfOk}
use Rattle.sp_cartan.specs.Square.{square_of}
use Rattle.sp_fock_law.specs.Grid.{GridValue}
use Rattle.sp_grid_law.specs.Inverses.{IsInverse}
use Rattle.sp_session.proofs.Made.{few_columns, matrix_there}
use Rattle.sp_session.proofs.inverses.inverse_table.Goals as goal

pub inverse_made-requires-clause-few : goal.inverse_made-requires-clause-few
inverse_made-requires-clause-few g c =
    few_columns c.args.limit c.args.e c.args.n c.in-Ok.grid c.requires.small
    (sym c.in-Ok.is ∙ c.in_ok-grid.ensures.table)

pub returns-in-Ok-clause-inverse : goal.returns-in-Ok-clause-inverse
returns-in-Ok-clause-inverse g c =
    subst (λ (m : GridValue). IfOk c.inverse_made.result (λ table. IfOk table (IsInverse (square_of m))))
    (matrix_there c.args.limit c.args.e c.args.n c.in-Ok.grid (sym c.in-Ok.is ∙ c.in_ok-grid.ensures.table))
    c.inverse_made.ensures.inverse
