use Rattle.std.proofs.Common.{◌+◌, refl, sym, ◌∙◌, subst, length, ◌≤◌, arith}
use Rattle.sp_defs.specs.Partition.{degree}
use Rattle.sp_partition.proofs.Rising.{Rises, partitions_rise}
use Rattle.sp_row_bounds.proofs.Counts.{up_to_30}
use Rattle.sp_ranks.proofs.Gains.{grown_listed}
use Rattle.sp_ranks.proofs.moves.gain.Goals as goal

pub rank-requires : goal.rank-requires
rank-requires c = subst Rises (sym c.requires.next) (partitions_rise (degree c.args.p.now + 1))

pub overflow_cast-result : goal.overflow_cast-result
overflow_cast-result c =
    let at = (c.in-Some-rank.ensures.some c.in-Some-rank.place).0 refl in
    let few : length c.args.next.now ≤ 5604 =
    subst (λ xs. length xs ≤ 5604) (sym c.requires.next)
    (up_to_30 (degree c.args.p.now + 1) (omega (arith, c.requires.small))) in
    omega (arith, at.0, few)

pub returns-in-Some-rank : goal.returns-in-Some-rank
returns-in-Some-rank c adds =
    let at = (c.in-Some-rank.ensures.some c.in-Some-rank.place).0 refl in
    (at.0, at.1 ∙ c.in-Some.ensures.node.1)

pub returns-in-None-rank : goal.returns-in-None-rank
returns-in-None-rank c adds =
    absurd (c.in-None-rank.ensures.none.0 refl
    (grown_listed c.args.next.now c.args.p.now c.in-Some.grown c.args.row c.requires.next adds c.in-Some.ensures.node.1
    c.in-Some.ensures.held.partition))
