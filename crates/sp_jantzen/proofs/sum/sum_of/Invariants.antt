use Rattle.std.proofs.Common.{◌≡◌, take}
use Rattle.sp_defs.specs.Power.{fock_vector}
use Rattle.sp_module_defs.specs.Jantzen.{constants}
use Rattle.sp_jantzen.proofs.sum.sum_of.Given as goal

abbrev pub invariant-loop-partition : goal.invariant-loop-partition
invariant-loop-partition l = l.sum ≡ fock_vector l.degree (constants (take l.partition-index l.terms))
