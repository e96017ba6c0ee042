use Rattle.std.proofs.Common.{◌≡◌}
use Rattle.std.proofs.lemmas.Result.{IfOk-weaker}
use Rattle.sp_session.specs.Inverses.{IsMade, cartan_within}
use Rattle.sp_session.proofs.Made.{cartan_told}
use Rattle.sp_session.proofs.inverses.cartan_made.Goals as goal

pub returns : goal.returns
returns c =
    IfOk-weaker c.told.result (IsMade c.cartan_matrix.result)
    (λ table. table ≡ cartan_within c.args.limit c.args.grid.now)
    (λ table made. cartan_told c.args.limit c.args.grid.now c.cartan_matrix.result table made
    c.cartan_matrix.ensures.product c.cartan_matrix.ensures.fits c.cartan_matrix.ensures.too_large)
    c.told.ensures
