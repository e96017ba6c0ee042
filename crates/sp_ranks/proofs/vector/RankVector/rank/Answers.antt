use Rattle.std.proofs.Common.{arith}
use Rattle.sp_ranks.proofs.Overs.{rank_there, rank_within, partition_read}
use Rattle.sp_ranks.proofs.vector.RankVector.rank.Goals as goal

pub index-requires : goal.index-requires
index-requires c = omega (arith, rank_there _ _ _ _ c.args.place c.self.invariant c.self.view_is c.requires)

pub returns-clause-there : goal.returns-clause-there
returns-clause-there c =
    rank_within _ _ _ _ c.args.place c.self.invariant c.self.view_is c.requires _ c.index.ensures

pub returns-clause-partition : goal.returns-clause-partition
returns-clause-partition c =
    partition_read _ _ _ _ c.args.place c.self.invariant c.self.view_is c.requires _ c.index.ensures
