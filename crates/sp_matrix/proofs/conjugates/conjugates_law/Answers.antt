use Rattle.sp_matrix.proofs.TurnedGrids.{coefficients_twice, grids_twice, vectors_twice}
use Rattle.sp_matrix.proofs.conjugates.conjugates_law.Goals as goal

pub returns-clause-coefficients : goal.returns-clause-coefficients
returns-clause-coefficients c = coefficients_twice

pub returns-clause-vectors : goal.returns-clause-vectors
returns-clause-vectors c = vectors_twice

pub returns-clause-grids : goal.returns-clause-grids
returns-clause-grids c = grids_twice
