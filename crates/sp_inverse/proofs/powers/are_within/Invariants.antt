use Rattle.std.proofs.Common.{take}
use Rattle.std.specs.List.{AllByRecursion}
use Rattle.sp_defs.specs.Within.{PowersWithin}
use Rattle.sp_inverse.proofs.powers.are_within.Given as goal

abbrev pub invariant-loop-cell : goal.invariant-loop-cell
invariant-loop-cell l = AllByRecursion (λ c. PowersWithin l.most c.1) (take l.cell-index l.cells)
