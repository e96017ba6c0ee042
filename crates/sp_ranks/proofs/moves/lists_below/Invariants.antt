use Rattle.sp_ranks.specs.Moves.{AreLists}
use Rattle.sp_ranks.proofs.moves.lists_below.Given as goal

abbrev pub invariant-loop-degree : goal.invariant-loop-degree
invariant-loop-degree l = AreLists l.degree l.lists.items
