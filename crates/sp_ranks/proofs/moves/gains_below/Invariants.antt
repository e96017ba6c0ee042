use Rattle.sp_ranks.specs.Moves.{AreTables}
use Rattle.sp_ranks.proofs.moves.gains_below.Given as goal

abbrev pub invariant-loop-degree : goal.invariant-loop-degree
invariant-loop-degree l = AreTables l.degree l.gains.items
