use Rattle.std.proofs.Common.{◌≡◌, ◌-◌}
use Rattle.sp_module_defs.specs.Dims.{factorial}
use Rattle.sp_dims.proofs.specht.factorial.Given as goal

abbrev pub invariant-loop-factor : goal.invariant-loop-factor
invariant-loop-factor l = l.product ≡ factorial (l.factor - 1)
