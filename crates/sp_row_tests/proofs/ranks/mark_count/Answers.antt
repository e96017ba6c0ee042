use Rattle.std.proofs.Common.{◌<◌, ◌≤◌, ◌∙◌, length, refl, sym, subst, arith}
use Rattle.sp_partition.proofs.Rising.{Rises, partitions_rise}
use Rattle.sp_row_bounds.proofs.Counts.{up_to_30}
use Rattle.sp_row_tests.proofs.ranks.mark_count.Goals as goal

pub rank-requires : goal.rank-requires
rank-requires c =
    subst Rises (sym (c.deref.ensures.value ∙ c.in_ok-all.ensures.list)) (partitions_rise c.args.n)

pub overflow_cast-place : goal.overflow_cast-place
overflow_cast-place c =
    let at = (c.in-Some.ensures.some c.in-Some.place).0 refl in
    let few : length c.deref.result.now ≤ 5604 =
    subst (λ xs. length xs ≤ 5604) (sym (c.deref.ensures.value ∙ c.in_ok-all.ensures.list))
    (up_to_30 c.args.n (omega (arith, c.requires.small))) in
    omega (arith, at.0, few)

pub marks-requires-clause-rank : goal.marks-requires-clause-rank
marks-requires-clause-rank c =
    subst (λ xs. c.in-Some.place < length xs) (c.deref.ensures.value ∙ c.in_ok-all.ensures.list)
    ((c.in-Some.ensures.some c.in-Some.place).0 refl).0
