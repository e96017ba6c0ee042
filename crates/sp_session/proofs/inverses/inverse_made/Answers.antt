use Rattle.std.proofs.Common.{◌≡◌, IfOk}
use Rattle.std.proofs.lemmas.Result.{IfOk-weaker}
use Rattle.sp_cartan.specs.Square.{square_of}
use Rattle.sp_grid_law.specs.Inverses.{IsInverse}
use Rattle.sp_session.specs.Inverses.{IsMade, inverse_within}
use Rattle.sp_session.proofs.Made.{inverse_is, inverse_told}
use Rattle.sp_session.proofs.inverses.inverse_made.Goals as goal

pub returns-clause-table : goal.returns-clause-table
returns-clause-table c =
    IfOk-weaker c.told.result (IsMade c.inverse_matrix.result)
    (λ table. table ≡ inverse_within c.args.limit c.args.grid.now)
    (λ table made. inverse_told c.args.limit c.args.grid.now c.inverse_matrix.result table made
    c.inverse_matrix.ensures.inverse c.inverse_matrix.ensures.fits c.inverse_matrix.ensures.too_large)
    c.told.ensures

pub returns-clause-inverse : goal.returns-clause-inverse
returns-clause-inverse c =
    IfOk-weaker c.told.result (IsMade c.inverse_matrix.result)
    (λ table. IfOk table (IsInverse (square_of c.args.grid.now)))
    (λ table made. inverse_is c.args.limit c.args.grid.now c.inverse_matrix.result table made
    c.inverse_matrix.ensures.inverse c.inverse_matrix.ensures.is) c.told.ensures
