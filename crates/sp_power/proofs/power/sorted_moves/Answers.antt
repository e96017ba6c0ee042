-- What the parts of the vector are, and what a sort leaves.
use Rattle.std.proofs.Common.{sym, subst}
use Rattle.std.specs.List.{AllByRecursion}
use Rattle.sp_power.specs.Arrivals.{HasRoom}
use Rattle.sp_power.proofs.Induced.{all_room, sorted_by}
use Rattle.sp_power.proofs.power.sorted_moves.Goals as goal

pub all_moves-requires-clause-room : goal.all_moves-requires-clause-room
all_moves-requires-clause-room c =
    subst (AllByRecursion (HasRoom c.args.m)) (sym c.pairs.ensures.value)
    (all_room c.args.v.now.degree c.args.m c.args.v.now.entries c.pairs.ensures.held.vector.partitions_of
    c.requires.room)

pub returns : goal.returns
returns c =
    sorted_by c.args.e c.args.i c.args.m c.args.v.now.degree c.pairs.result.now c.args.v.now.entries
    c.in_ok-moves.moves.items c.sort_by_partition.new.arrivals.items c.requires.e_least c.requires.room
    c.pairs.ensures.held.vector
    c.pairs.ensures.value c.in_ok-moves.ensures c.sort_by_partition.ensures.permutation
    c.sort_by_partition.ensures.sorted
