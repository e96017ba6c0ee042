use Rattle.sp_partition.proofs.Ranks.{rank_none, rank_some}
use Rattle.sp_partition.proofs.ranking.rank.Goals as goal

pub returns-clause-none : goal.returns-clause-none
returns-clause-none c =
    rank_none c.args.list.now c.requires c.args.p.now c.binary_search.result c.binary_search.ensures.bound
    c.binary_search.ensures.position c.ok.result c.ok.ensures.value

pub returns-clause-some : goal.returns-clause-some
returns-clause-some c =
    rank_some c.args.list.now c.requires c.args.p.now c.binary_search.result c.binary_search.ensures.bound
    c.binary_search.ensures.position c.ok.result c.ok.ensures.value
