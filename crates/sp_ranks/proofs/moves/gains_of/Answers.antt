use Rattle.std.proofs.Common.{◌+◌, ap, arith, sym, ◌∙◌}
use Rattle.sp_defs.specs.Partition.{partitions}
use Rattle.sp_ranks.proofs.Gains.{listed_degree}
use Rattle.sp_ranks.proofs.moves.gains_of.Goals as goal

pub gains_in_rows-requires-clause-small : goal.gains_in_rows-requires-clause-small
gains_in_rows-requires-clause-small c =
    omega (
      arith,
      listed_degree c.requires.0 c.args.all.now c.loop-p.p-index c.p-item.result c.requires.1 c.loop-p-test.true
          c.p-item.is,
      c.requires.3,
    )

pub gains_in_rows-requires-clause-next : goal.gains_in_rows-requires-clause-next
gains_in_rows-requires-clause-next c =
    c.requires.2
    ∙ ap (λ n. partitions (n + 1))
    (sym (listed_degree c.requires.0 c.args.all.now c.loop-p.p-index c.p-item.result c.requires.1 c.loop-p-test.true
    c.p-item.is))
