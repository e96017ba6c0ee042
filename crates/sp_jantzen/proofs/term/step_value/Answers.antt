use Rattle.std.proofs.Common.{arith}
use Rattle.sp_abacus_law.proofs.Falling.{falls_between}
use Rattle.sp_jantzen.proofs.term.step_value.Goals as goal

pub overflow_sub-numbers : goal.overflow_sub-numbers
overflow_sub-numbers c =
    omega (
      arith,
      falls_between c.args.numbers.now c.args.to c.args.from c.requires.beads.falls c.requires.step.earlier
          c.requires.step.within,
    )
