-- The run ends at the first move to another rank.
use Rattle.std.proofs.Common.{arith, nat_eq, eq-eqb}
use Rattle.std.proofs.lemmas.Bool.{ne_eqb}
use Rattle.std.proofs.lemmas.List.Sums.{prefix_len-drop_all, prefix_len-drop_no, prefix_len-drop_yes}
use Rattle.sp_ranks.specs.declared.walk.Arrival.{Arrival}
use Rattle.sp_ranks.proofs.RankRuns.{nothing}
use Rattle.sp_ranks.proofs.sums.run_length.Goals as goal

pub returns-then-arrival-rank : goal.returns-then-arrival-rank
returns-then-arrival-rank c =
    omega (
      arith,
      c.loop-count.invariant,
      prefix_len-drop_no (λ (t : Arrival). nat_eq t.rank c.args.rank)
          c.args.arrivals.now c.loop-count.count nothing c.loop-count-test.true (ne_eqb _ _ c.if-arrival-rank.true),
    )

pub loop-count-preserved : goal.loop-count-preserved
loop-count-preserved c =
    omega (
      arith,
      c.loop-count.invariant,
      prefix_len-drop_yes (λ (t : Arrival). nat_eq t.rank c.args.rank)
          c.args.arrivals.now c.loop-count.count nothing c.loop-count-test.true (eq-eqb _ _ c.if-arrival-rank.false),
    )

pub returns : goal.returns
returns c =
    omega (
      arith,
      c.loop-count.invariant,
      prefix_len-drop_all (λ (t : Arrival). nat_eq t.rank c.args.rank)
          c.args.arrivals.now c.loop-count.count c.loop-count-test.false,
    )
